use Rattle.ss_tests_banks.specs.Over.{IsOver}
use Rattle.ss_tests_banks.proofs.merges.answers.Given as goal

abbrev pub invariant-loop-step : goal.invariant-loop-step
invariant-loop-step l = IsOver l.bank l.congruence
