use Rattle.std.proofs.Common.{◌≡◌, length}
use Rattle.ss_bit_set.specs.Marked.{marked, met_below}
use Rattle.ss_bit_set.proofs.bit_set.BitSet.meet.Given as goal

abbrev pub invariant-loop-number : goal.invariant-loop-number
invariant-loop-number l = (marked l.self ≡ met_below l.number (marked l.initial.self) (marked l.other)) × (length l.self.list.items ≡ length l.initial.self.list.items)
