use Rattle.std.proofs.Common.{◌≡◌, map}
use Rattle.ss_vcgen_known.specs.Sets.{below}
use Rattle.ss_vcgen_known.specs.Steps.{met_pair}
use Rattle.ss_vcgen_known.specs.Views.{pair_of, known_of}
use Rattle.ss_vcgen_known.proofs.known.Known.pairs_met.Given as goal

abbrev pub invariant-loop-x : goal.invariant-loop-x
invariant-loop-x l = map pair_of l.met.items ≡ below (met_pair (known_of l.self) (known_of l.other)) l.x
