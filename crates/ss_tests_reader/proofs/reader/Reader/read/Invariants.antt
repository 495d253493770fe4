use Rattle.std.proofs.Common.{◌≡◌}
use Rattle.ss_tests_reader.proofs.reader.Reader.read.Given as goal

abbrev pub invariant-loop-c : goal.invariant-loop-c
invariant-loop-c l = l.bank.fields ≡ l.initial.bank.fields
