use Rattle.ss_rules_asked.proofs.Gathering.{count_given}
use Rattle.ss_rules_asked.proofs.gathered.add_count.Goals as goal

pub returns-in_ok-push-in-Some : goal.returns-in_ok-push-in-Some
returns-in_ok-push-in-Some c = count_given c.args.bank.now c.args.counts.now.items c.push.new.self.items c.in-Some.c c.args.count c.in-Some.is c.in_ok-push-in-Some.ensures.items c.requires.counts c.requires.count
