use Rattle.ss_rules_asked_first.proofs.Gathering.{term_given}
use Rattle.ss_rules_asked_first.proofs.gathered.add_term.Goals as goal

pub returns-in_ok-push-in-Some : goal.returns-in_ok-push-in-Some
returns-in_ok-push-in-Some c = term_given c.args.bank.now c.args.terms.now.items c.push.new.self.items c.in-Some.t c.args.term c.in-Some.is c.in_ok-push-in-Some.ensures.items c.requires.terms c.requires.term
