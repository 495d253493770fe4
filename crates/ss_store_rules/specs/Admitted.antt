-- State 0 and the inputs that a program admits.
use Rattle.std.specs.Prelude.{ℤ, List, [], ◌∷◌, ◌++◌, map, length, Bool, true, false, ◌==◌, ◌&&◌, Option, Some, None, option_to_list}
use Rattle.std.specs.List.{list_all}
use Rattle.ss_core.specs.Tree.{LocalTree, BodyTree, CoreTree}
use Rattle.ss_store_rules.specs.declared.Value.{Value}
use Rattle.ss_store_rules.specs.declared.Value.TheVariants as value
use Rattle.ss_store_rules.specs.Store.{Object, default_value}
use Rattle.ss_store_rules.specs.Values.{setting, holds}
use Rattle.ss_store_rules.specs.Changes.{new_array}
use Rattle.ss_store_rules.specs.Locals.{types_of}
use Rattle.ss_store_rules.specs.Typed.{body_at}

-- the input is an `int[]` at position 0, the only object
abbrev pub input_array : List ℤ → Object
input_array input = record (new_array 1 (length input) 0) { elements = map value.Int input }

abbrev pub first_store : List ℤ → List Object
first_store input = input_array input ∷ []

-- Main gets the array where it has a parameter
abbrev pub main_arguments : List LocalTree → List Value
main_arguments [] = []
main_arguments (l ∷ ls) = value.Obj 0 ∷ []

-- its other locals and its result have their defaults
abbrev pub first_locals : BodyTree → List Value
first_locals b = main_arguments b.params ++ map default_value (types_of b.locals ++ option_to_list b.result)

-- a Main without a parameter admits the empty input alone
abbrev pub takes_input : List LocalTree → List ℤ → Bool
takes_input [] input = length input == 0
takes_input (l ∷ ls) input = true

abbrev pub admits : CoreTree → List ℤ → Option BodyTree → Bool
admits c input None = false
admits c input (Some b) = takes_input b.params input && list_all (λ e. holds e (setting c.classes (first_store input) (first_store input) (first_locals b))) b.entry

-- the conditions at the entry of Main hold
abbrev pub admitted : CoreTree → List ℤ → Bool
admitted c input = admits c input (body_at c c.main)
