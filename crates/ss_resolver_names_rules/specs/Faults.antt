-- Faults of the phase of names.
use Rattle.std.specs.Prelude.{ℕ, Bool, ◌==◌, ◌&&◌, ◌||◌, nat_lt, List, [], ◌∷◌, ◌++◌, Option, Some, None, is_some, if◌then◌else◌}
use Rattle.std.specs.List.{list_any}
use Rattle.std.specs.Str.{bytes_eq}
use Rattle.ss_core.specs.declared.names.Place.{Place}
use Rattle.ss_core.specs.declared.rules.Rule.{Rule}
use Rattle.ss_core.specs.declared.rules.Rule.TheVariants as rule
use Rattle.ss_core.specs.Rules.{rule_number}
use Rattle.ss_faults.specs.declared.Fault.{Fault}
use Rattle.ss_ast.specs.Expressions.{NameTree, TypeNameTree, IntType, BoolType, ObjectType, ClassType, TypeTree}
use Rattle.ss_ast.specs.Programs.{ClassTree}
use Rattle.ss_tables.specs.Classes.{class_named}
use Rattle.ss_tables.specs.Scopes.{Locals}
use Rattle.ss_tables.specs.Named.{named_in}

abbrev pub Faults : Type 0
Faults = List Fault

-- one fault of this rule at this place
abbrev pub fault : Rule → Place → Faults
fault r p = record { rule = rule_number r; place = p } ∷ []

-- a fault where something doesn't hold
abbrev pub unless : Bool → Faults → Faults
unless holds fs = if holds then [] else fs

-- ---- names that are declared twice

abbrev pub is_listed : List (List ℕ) → List ℕ → Bool
is_listed ns n = list_any (bytes_eq n) ns

abbrev pub with_name : List (List ℕ) → List ℕ → List (List ℕ)
with_name ns n = if is_listed ns n then ns else ns ++ n ∷ []

-- a name that stands among these already
abbrev pub twice : List (List ℕ) → NameTree → Faults
twice ns n = if is_listed ns n.text then fault rule.Twice n.place else []

-- each name of a list that has come before
abbrev pub twice_among : List (List ℕ) → List NameTree → Faults
twice_among before [] = []
twice_among before (n ∷ ns) = twice before n ++ twice_among (with_name before n.text) ns

-- a local whose scope has its name already
abbrev pub twice_in : Locals → NameTree → Faults
twice_in ls n = if is_some (named_in ls n.text) then fault rule.Twice n.place else []

-- ---- names of classes

abbrev pub unknown : Place → Faults
unknown p = fault rule.Unknown p

abbrev pub is_class : List ClassTree → List ℕ → Bool
is_class cs n = is_some (class_named cs n)

-- a name that is to be that of a class
abbrev pub class_faults : List ClassTree → List ℕ → Place → Faults
class_faults cs n p = unless (is_class cs n) (unknown p)

abbrev pub type_name_faults : List ClassTree → Place → TypeNameTree → Faults
type_name_faults cs p IntType = []
type_name_faults cs p BoolType = []
type_name_faults cs p ObjectType = []
type_name_faults cs p (ClassType n) = class_faults cs n p

abbrev pub type_faults : List ClassTree → TypeTree → Faults
type_faults cs t = type_name_faults cs t.place t.name
