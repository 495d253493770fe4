use Rattle.std.proofs.Common.{length}
use Rattle.ss_report_values.proofs.telling.Telling.tell_locals.Given as goal

abbrev pub decreases-loop-rest : goal.decreases-loop-rest
decreases-loop-rest l = length l.rest
