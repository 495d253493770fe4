use Rattle.ss_tests_banks.specs.Over.{IsOver}
use Rattle.ss_tests_banks.proofs.many.merge_all.Given as goal

abbrev pub invariant-loop-number : goal.invariant-loop-number
invariant-loop-number l = IsOver l.bank l.congruence
