use Rattle.std.proofs.Common.{length}
use Rattle.ss_terms_puts.proofs.constants.+are_rising.Given as goal

abbrev pub decreases-are_rising : goal.decreases-are_rising
decreases-are_rising l = length l.ts.now
