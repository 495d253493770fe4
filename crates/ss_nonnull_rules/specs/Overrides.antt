-- A method has the types of the one that it overrides; where only `!` differs, a fault stands at its name.
use Rattle.std.specs.Prelude.{ℕ, List, [], ◌∷◌, map, Bool, true, false, not, ◌&&◌, ◌||◌, if◌then◌else◌, Option, Some, None, option_map, option_and_then, slice_get}
use Rattle.std.specs.Bool.{beq}
use Rattle.std.specs.Str.{bytes_eq}
use Rattle.ss_faults.specs.declared.Fault.{Fault}
use Rattle.ss_core.specs.declared.names.Ty.{Ty}
use Rattle.ss_core.specs.declared.rules.Rule.TheVariants as rule
use Rattle.ss_core.specs.Rules.{rule_number}
use Rattle.ss_core.specs.Tree as core
use Rattle.ss_core.specs.Chain.{above, declared}
use Rattle.ss_typed.specs.Tree.{ParamTree, BodyTree, TypedTree}
use Rattle.ss_paths.specs.Fields.{is_non_null}
use Rattle.ss_nonnull_rules.specs.NonNull.{is_non_null_type}
use Rattle.ss_nonnull_rules.specs.Faults.{table_of}

-- the body under this name
abbrev pub body_named : List core.EntryTree → List ℕ → Option ℕ
body_named [] name = None
body_named (e ∷ es) name = if bytes_eq name e.name then Some e.body else body_named es name

-- the method that it overrides: the one under its name in the table of the class above
abbrev pub overridden : TypedTree → BodyTree → Option BodyTree
overridden p b = option_and_then (slice_get p.bodies) (body_named (table_of (declared p.classes (above p.classes b.class))) b.name)

-- in `!` the parameters agree, one by one
abbrev pub agree : List ParamTree → List ParamTree → Bool
agree [] [] = true
agree [] (y ∷ ys) = false
agree (x ∷ xs) [] = false
agree (x ∷ xs) (y ∷ ys) = beq (is_non_null x.ty) (is_non_null y.ty) && agree xs ys

abbrev pub agrees_with : BodyTree → Option BodyTree → Bool
agrees_with b None = true
agrees_with b (Some c) = agree b.params c.params && beq (is_non_null_type b.result) (is_non_null_type c.result)

-- the number of the rule
abbrev pub bad_override_type : ℕ
bad_override_type = rule_number rule.BadOverrideType

-- a constructor overrides nothing
abbrev pub override_faults : TypedTree → BodyTree → List Fault
override_faults p b = if b.flags.ctor || agrees_with b (overridden p b) then [] else record { rule = bad_override_type; place = b.place } ∷ []
