-- The types of locals and of bound names.
use Rattle.std.specs.Prelude.{ℕ, zero, suc, List, [], ◌∷◌, ◌++◌, Result, Ok, Err}
use Rattle.ss_core.specs.declared.names.Ty.{Ty}
use Rattle.ss_core.specs.declared.names.Ty.TheVariants as ty
use Rattle.ss_vcgen_types.specs.declared.names.Names.{Names}
use Rattle.ss_vcgen_types.specs.declared.names.Names.TheFolds.{fold-Names}
use Rattle.ss_vcgen_types.specs.declared.names.Names.TheOpen as shape
use Rattle.ss_vcgen_types.specs.declared.names.Names.TheOpen.{Names-F}

abbrev pub names_step : Names-F (List Ty) → List Ty
names_step (shape.Locals ts) = ts.now
names_step (shape.Bound outer) = outer.now ++ ty.Int ∷ []

-- the types of the locals, and after them those of the bound names, which are numbers
abbrev pub types_of_names : Names → List Ty
types_of_names = fold-Names (List Ty) names_step

-- the type of this number, or how far the number is past the last one
abbrev pub look_up : List Ty → ℕ → Result Ty ℕ
look_up [] x = Err x
look_up (t ∷ ts) zero = Ok t
look_up (t ∷ ts) (suc x) = look_up ts x

-- a number just past those that were looked up is that of the next bound name
abbrev pub or_bound : Result Ty ℕ → Result Ty ℕ
or_bound (Ok t) = Ok t
or_bound (Err zero) = Ok ty.Int
or_bound (Err (suc n)) = Err n
