use Rattle.std.proofs.Common.{length}
use Rattle.ss_tests_reader.proofs.reader.+has_formulas.Given as goal

abbrev pub decreases-has_formulas : goal.decreases-has_formulas
decreases-has_formulas l = length l.fs.now
