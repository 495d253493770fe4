-- Values of chains and paths, link by link and step by step.
use Rattle.std.specs.Prelude.{◌≡◌, List, Ok}
use Rattle.ss_core.specs.declared.names.Place.{Place}
use Rattle.ss_core.specs.Tree.{ExprTree}
use Rattle.ss_core.specs.View.{Behind, grouped}
pub use Rattle.ss_core.specs.Parts.{link_after, step_after}
use Rattle.ss_store_rules.specs.declared.Value.{Value}
use Rattle.ss_store_rules.specs.Numbers.{Outcome}
use Rattle.ss_store_rules.specs.Values.{Setting, value_of}

-- it is the value of what stands after any expression of this value
abbrev pub IsAfter : Setting → Place → Value → List Behind → Outcome → Type 0
IsAfter c p v bs r = (e : ExprTree) → value_of e c ≡ Ok v → r ≡ value_of (grouped p e bs) c
