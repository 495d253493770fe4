use Rattle.std.proofs.Common.{inl}
use Rattle.ss_tests_banks.proofs.Kept.{closed}
use Rattle.ss_tests_banks.proofs.merges.answers.Goals as goal

pub loop-step-init : goal.loop-step-init
loop-step-init c = closed c.args.bank.now c.new-congruence.result (inl c.new-congruence.ensures)
