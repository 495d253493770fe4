use Rattle.std.proofs.Common.{◌≡◌, take}
use Rattle.ss_linear_sums.specs.Linear as linear
use Rattle.ss_linear_rules.specs.Valued as valued
use Rattle.ss_linear_network.specs.Made.{numbers_at}
use Rattle.ss_linear.proofs.meeting.value_of_parts.Given as goal

abbrev pub invariant-loop-part : goal.invariant-loop-part
invariant-loop-part l = l.sum ≡ valued.parts_at (numbers_at l.bank l.numbers) (linear.parts_at l.bank (take l.part-index l.parts))
