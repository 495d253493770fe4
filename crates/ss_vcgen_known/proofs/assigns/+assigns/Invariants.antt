use Rattle.std.proofs.Common.{◌≡◌, drop}
use Rattle.ss_bit_set.specs.Marked.{marked}
use Rattle.ss_core.specs.View.{block}
use Rattle.ss_store_rules.specs.NonNull.{both}
use Rattle.ss_vcgen_known.specs.Assigns.{assigns_in}
use Rattle.ss_vcgen_known.proofs.assigns.+assigns.Given as goal

abbrev pub invariant-put_all-loop-stmt : goal.invariant-put_all-loop-stmt
invariant-put_all-loop-stmt l = both (marked l.set) (assigns_in (block (drop l.stmt-index l.code))) ≡ both (marked l.fn.set) (assigns_in (block l.code))
