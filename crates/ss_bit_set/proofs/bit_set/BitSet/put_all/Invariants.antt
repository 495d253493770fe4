use Rattle.std.proofs.Common.{◌≡◌, drop}
use Rattle.ss_bit_set.specs.Marked.{marked, with_all}
use Rattle.ss_bit_set.proofs.bit_set.BitSet.put_all.Given as goal

abbrev pub invariant-loop-number : goal.invariant-loop-number
invariant-loop-number l = with_all (drop l.number-index l.numbers) l.is_in (marked l.self) ≡ with_all l.numbers l.is_in (marked l.fn.self)
