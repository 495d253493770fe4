use Rattle.std.proofs.Common.{◌≡◌, map, take}
use Rattle.ss_vcgen_known.specs.Sets.{pair_without}
use Rattle.ss_vcgen_known.specs.Views.{pair_of}
use Rattle.ss_vcgen_known.proofs.known.all_without.Given as goal

abbrev pub invariant-loop-pair : goal.invariant-loop-pair
invariant-loop-pair l = map pair_of l.rest.items ≡ map (pair_without l.local) (map pair_of (take l.pair-index l.sides))
