use Rattle.ss_rules_asked.proofs.Gathering.{reading_given}
use Rattle.ss_rules_asked.proofs.gathered.add_reading.Goals as goal

pub returns-in_ok-push-in-Some : goal.returns-in_ok-push-in-Some
returns-in_ok-push-in-Some c = reading_given c.args.bank.now c.args.readings.now.items c.push.new.self.items c.in-Some.r c.args.read c.in-Some.is c.in_ok-push-in-Some.ensures.items c.requires.readings c.requires.read
