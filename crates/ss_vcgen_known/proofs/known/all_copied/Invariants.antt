use Rattle.std.proofs.Common.{◌≡◌, map, take}
use Rattle.ss_vcgen_known.specs.Views.{pair_of}
use Rattle.ss_vcgen_known.proofs.known.all_copied.Given as goal

abbrev pub invariant-loop-pair : goal.invariant-loop-pair
invariant-loop-pair l = map pair_of l.same.items ≡ map pair_of (take l.pair-index l.sides)
