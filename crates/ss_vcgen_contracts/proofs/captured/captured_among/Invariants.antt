use Rattle.std.proofs.Common.{◌≡◌, ◌++◌, map}
use Rattle.ss_core.specs.View.{local_of}
use Rattle.ss_vcgen_contracts.specs.Owned.{captured_among}
use Rattle.ss_vcgen_contracts.proofs.Owning.{captured_after}
use Rattle.ss_vcgen_contracts.proofs.captured.captured_among.Given as goal

abbrev pub invariant-loop-i : goal.invariant-loop-i
invariant-loop-i l = l.captured.items ++ captured_after l.params l.arguments l.i ≡ captured_among (map local_of l.params) l.arguments
