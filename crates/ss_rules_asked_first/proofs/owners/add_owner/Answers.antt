use Rattle.ss_rules_asked_first.proofs.Gathering.{owner_given}
use Rattle.ss_rules_asked_first.proofs.owners.add_owner.Goals as goal

pub returns-in_ok-push-in-Some : goal.returns-in_ok-push-in-Some
returns-in_ok-push-in-Some c = owner_given c.args.bank.now c.args.owners.now.items c.push.new.self.items c.in-Some.p c.args.owner c.in-Some.is c.in_ok-push-in-Some.ensures.items c.requires.owners c.requires.owner
