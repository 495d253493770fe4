use Rattle.std.proofs.Common.{length}
use Rattle.ss_top_cases.proofs.case.push_escaped.Given as goal

abbrev pub decreases-loop-rest : goal.decreases-loop-rest
decreases-loop-rest l = length l.rest
