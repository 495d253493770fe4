use Rattle.std.proofs.Common.{length}
use Rattle.ss_tests_reader.proofs.reader.+are_formed.Given as goal

abbrev pub decreases-are_formed : goal.decreases-are_formed
decreases-are_formed l = length l.fs.now
