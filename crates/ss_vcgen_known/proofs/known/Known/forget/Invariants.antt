use Rattle.std.proofs.Common.{◌≡◌}
use Rattle.ss_bit_set.specs.Marked.{marked}
use Rattle.ss_vcgen_known.specs.Steps.{forgotten}
use Rattle.ss_vcgen_known.specs.Views.{known_of}
use Rattle.ss_vcgen_known.proofs.Forgetting.{set_below}
use Rattle.ss_vcgen_known.proofs.known.Known.forget.Given as goal

abbrev pub invariant-loop-x : goal.invariant-loop-x
invariant-loop-x l = known_of l.self ≡ forgotten (set_below l.x (marked l.set)) (known_of l.fn.self)
