use Rattle.std.proofs.Common.{refl}
use Rattle.ss_rules_opened.proofs.Placed.{tuple_given}
use Rattle.ss_rules_opened.proofs.places.add_tuple.Goals as goal

pub returns-in_ok-push-in-Some : goal.returns-in_ok-push-in-Some
returns-in_ok-push-in-Some c = tuple_given c.args.bank.now c.args.tuples.now.items c.push.new.self.items (record { terms = c.in-Some.terms }) c.args.found c.in-Some.is c.in_ok-push-in-Some.ensures.items c.requires.tuples c.requires.found
