use Rattle.std.proofs.Common.{◌≡◌}
use Rattle.ss_bit_set.specs.Marked.{marked}
use Rattle.ss_vcgen_known.specs.Sets.{joined_below}
use Rattle.ss_vcgen_known.proofs.facts.join.Given as goal

abbrev pub invariant-loop-local : goal.invariant-loop-local
invariant-loop-local l = marked l.set ≡ joined_below l.local (marked l.initial.set) (marked l.other)
