use Rattle.std.proofs.Common.{length}
use Rattle.ss_terms_puts.proofs.constants.+are_constants.Given as goal

abbrev pub decreases-are_constants : goal.decreases-are_constants
decreases-are_constants l = length l.ts.now
