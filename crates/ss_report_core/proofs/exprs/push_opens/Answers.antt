use Rattle.ss_report_core.proofs.Written.{opened}
use Rattle.ss_report_core.proofs.exprs.push_opens.Goals as goal

pub loop-i-preserved : goal.loop-i-preserved
loop-i-preserved c = opened _ _ _ _ c.in_ok-extend_from_slice.ensures.items c.loop-i.invariant
