use Rattle.std.proofs.Common.{◌≡◌, drop}
use Rattle.ss_vcgen_known.specs.Steps.{all_barred}
use Rattle.ss_vcgen_known.specs.Views.{known_of}
use Rattle.ss_vcgen_known.proofs.known.Known.bar_all.Given as goal

abbrev pub invariant-loop-told : goal.invariant-loop-told
invariant-loop-told l = all_barred (drop l.told-index l.list) (known_of l.self) ≡ all_barred l.list (known_of l.fn.self)
