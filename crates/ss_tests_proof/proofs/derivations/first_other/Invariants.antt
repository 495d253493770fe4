use Rattle.std.proofs.Common.{◌≡◌}
use Rattle.ss_tests_proof.proofs.derivations.first_other.Given as goal

abbrev pub invariant-loop-number : goal.invariant-loop-number
invariant-loop-number l = l.bank.fields ≡ l.initial.bank.fields
