-- The values of locals and of bound names.
use Rattle.std.specs.Prelude.{ℕ, zero, suc, List, [], ◌∷◌, ◌++◌, slice_get, unwrap_or, Result, Ok, Err}
use Rattle.ss_store_rules.specs.declared.Value.{Value}
use Rattle.ss_store_rules.specs.declared.Value.TheVariants as value
use Rattle.ss_store.specs.declared.names.Names.{Names}
use Rattle.ss_store.specs.declared.names.Names.TheFolds.{fold-Names}
use Rattle.ss_store.specs.declared.names.Names.TheOpen as shape
use Rattle.ss_store.specs.declared.names.Names.TheOpen.{Names-F}

abbrev pub names_step : Names-F (List Value) → List Value
names_step (shape.Locals vs) = vs.now
names_step (shape.Bound outer v) = outer.now ++ v ∷ []

-- the values of the locals, and after them those of the bound names
abbrev pub values : Names → List Value
values = fold-Names (List Value) names_step

-- the value of this number, or how far the number is past the last one
abbrev pub look_up : List Value → ℕ → Result Value ℕ
look_up [] x = Err x
look_up (v ∷ vs) zero = Ok v
look_up (v ∷ vs) (suc x) = look_up vs x

-- where the number is that of the first one past those that were looked up, it is this value
abbrev pub or_next : Result Value ℕ → Value → Result Value ℕ
or_next (Ok w) v = Ok w
or_next (Err zero) v = Ok v
or_next (Err (suc n)) v = Err n

-- the value of this number; one past the last reads as null
abbrev pub local_read : List Value → ℕ → Value
local_read vs x = unwrap_or (slice_get vs x) value.Null
