use Rattle.std.proofs.Common.{inl}
use Rattle.ss_tests_banks.proofs.Kept.{closed}
use Rattle.ss_tests_banks.proofs.many.holds_of_many.Goals as goal

pub merge_all-requires : goal.merge_all-requires
merge_all-requires c = closed c.fill.new.bank c.new-congruence.result (inl c.new-congruence.ensures)
