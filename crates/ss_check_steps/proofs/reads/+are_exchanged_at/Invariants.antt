use Rattle.std.proofs.Common.{length}
use Rattle.ss_check_steps.proofs.reads.+are_exchanged_at.Given as goal

abbrev pub decreases-are_exchanged_at : goal.decreases-are_exchanged_at
decreases-are_exchanged_at l = length l.xs.now
