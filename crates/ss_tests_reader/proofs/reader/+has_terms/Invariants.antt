use Rattle.std.proofs.Common.{length}
use Rattle.ss_tests_reader.proofs.reader.+has_terms.Given as goal

abbrev pub decreases-has_terms : goal.decreases-has_terms
decreases-has_terms l = length l.ts.now
