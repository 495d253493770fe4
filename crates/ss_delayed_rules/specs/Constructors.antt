-- Constructors (OOPSLA 2003). A delayed one doesn't let its `this` out, and ends with each non-null field of its class assigned; its base
-- constructor is delayed too. One that isn't assigns them before `base(..)`, by expressions without `this`.
use Rattle.std.specs.Prelude.{ℕ, List, [], ◌∷◌, ◌++◌, map, Bool, true, false, not, ◌&&◌, ◌||◌, ◌+◌, if◌then◌else◌, Option, Some, None}
use Rattle.ss_core.specs.declared.names.Place.{Place}
use Rattle.ss_core.specs.declared.rules.Rule.TheVariants as rule
use Rattle.ss_core.specs.Rules.{rule_number}
use Rattle.ss_faults.specs.declared.Fault.{Fault}
pub use Rattle.ss_faults.specs.First.{at}
use Rattle.ss_core.specs.Tree as core
use Rattle.ss_core.specs.Chain.{above}
use Rattle.ss_typed.specs.Tree.{ExprTree, Arguments, NoMore, DeclaratorTree, SimpleTree, BaseTree, BodyTree, TypedTree}
use Rattle.ss_typed.specs.Shapes.{closing_brace}
use Rattle.ss_typed.specs.Constructors.{is_delayed_body}
use Rattle.ss_paths.specs.Fields.{is_non_null, own_fields, field_numbers}
use Rattle.ss_typed.specs.Lookups.{constructor_of}
use Rattle.ss_paths.specs.Sets.{Set}
use Rattle.ss_paths.specs.Paths.{Check, at_end, after_block, faults_in}
use Rattle.ss_paths.specs.Assigned.{Assigned, assigned_flow, assigned_by_initializers, assigned_first}
use Rattle.ss_delayed_rules.specs.Escapes.{Use, ForFields, NotAtAll, uses_each, uses_in_all, uses_in, uses_along}
use Rattle.ss_delayed_rules.specs.Opening.{opening, written_base}

-- the numbers of the rules
abbrev pub unassigned : ℕ
unassigned = rule_number rule.Unassigned

abbrev pub this_escapes : ℕ
this_escapes = rule_number rule.ThisEscapes

abbrev pub base_not_delayed : ℕ
base_not_delayed = rule_number rule.BaseNotDelayed

abbrev pub escapes : List Place → List Fault
escapes ps = map (at this_escapes) ps

-- ---- fields of the class

-- each of these fields that is non-null is assigned; the first of them stands at place i of the class
abbrev pub are_assigned_from : Set → ℕ → List core.FieldTree → Bool
are_assigned_from own i [] = true
are_assigned_from own i (f ∷ fs) = (not (is_non_null f.ty) || own i) && are_assigned_from own (i + 1) fs

-- where no path leads each field counts as assigned
abbrev pub are_assigned : TypedTree → ℕ → Option Assigned → Bool
are_assigned p t None = true
are_assigned p t (Some a) = are_assigned_from a.own 0 (own_fields p t)

abbrev pub unassigned_faults : TypedTree → ℕ → Place → Option Assigned → List Fault
unassigned_faults p t q a = if are_assigned p t a then [] else at unassigned q ∷ []

-- ---- delayed constructors

abbrev pub base_faults : TypedTree → ℕ → Place → List Fault
base_faults p t q = if is_delayed_body (constructor_of p (above p.classes t)) then [] else at base_not_delayed q ∷ []

-- each path ends with the fields assigned; the fault stands at the closing brace, wherever a path ends
abbrev pub end_check : TypedTree → ℕ → Place → Check Assigned
end_check p t end = record {
  declared = λ d a. [];
  done = λ s a. [];
  read = λ e a. [];
  returned = λ e a. unassigned_faults p t end a;
}

abbrev pub end_faults : TypedTree → BodyTree → List Fault
end_faults p b =
    faults_in (assigned_flow (field_numbers p b.class)) (end_check p b.class (closing_brace b.block)) b.block (Some (assigned_first p b))
    ++ unassigned_faults p b.class (closing_brace b.block) (after_block (assigned_flow (field_numbers p b.class)) b.block (assigned_first p b))

abbrev pub arguments_of : Option BaseTree → Arguments
arguments_of None = NoMore
arguments_of (Some base) = base.arguments

abbrev pub delayed_faults : TypedTree → BodyTree → List Fault
delayed_faults p b =
    escapes (uses_each ForFields (arguments_of b.base) ++ uses_in ForFields b.block) ++ end_faults p b ++ base_faults p b.class b.place

-- ---- constructors that aren't delayed

abbrev pub place_of_base : BodyTree → Option BaseTree → Place
place_of_base b None = b.place
place_of_base b (Some base) = base.place

-- up to `base(..)`, its arguments included, `this` is only written to, and then the fields are assigned; after it `this` is free
abbrev pub undelayed_faults : TypedTree → BodyTree → List Fault
undelayed_faults p b =
    escapes (uses_along NotAtAll (opening p b) ++ uses_each NotAtAll (arguments_of (written_base b)))
    ++ unassigned_faults p b.class (place_of_base b (written_base b)) (at_end (assigned_flow (field_numbers p b.class)) (opening p b) (Some (assigned_by_initializers p b.class)))

-- ---- every constructor

-- what is asked at entry is without `this`
abbrev pub constructor_faults : TypedTree → BodyTree → List Fault
constructor_faults p b = escapes (uses_in_all NotAtAll b.entry) ++ (if b.flags.delayed then delayed_faults p b else undelayed_faults p b)
