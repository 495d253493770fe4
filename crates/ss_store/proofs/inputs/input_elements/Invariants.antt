use Rattle.std.proofs.Common.{◌≡◌, map, take}
use Rattle.ss_store_rules.specs.declared.Value.TheVariants as value
use Rattle.ss_store.proofs.inputs.input_elements.Given as goal

abbrev pub invariant-loop-n : goal.invariant-loop-n
invariant-loop-n l = l.elements.items ≡ map value.Int (take l.n-index l.input)
