use Rattle.std.proofs.Common.{None}
use Rattle.ss_rules_opened.proofs.Finding.{one_nothing}
use Rattle.ss_rules_opened.proofs.matching.nothing_found.Goals as goal

pub loop-number-preserved : goal.loop-number-preserved
loop-number-preserved c = one_nothing None c.loop-number.found.items c.push.new.self.items c.loop-number.number c.loop-number.invariant c.in_ok-push.ensures.items
