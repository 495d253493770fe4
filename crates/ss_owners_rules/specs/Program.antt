-- The faults of ownership of a whole program.
use Rattle.std.specs.Prelude.{ℕ, ◌+◌, List, [], ◌∷◌, ◌++◌, map, Option, Some, None, slice_get}
use Rattle.ss_core.specs.declared.names.Mark.{Mark}
use Rattle.ss_core.specs.declared.names.Place.{Place}
use Rattle.ss_core.specs.declared.rules.Rule.TheVariants as rule
use Rattle.ss_core.specs.Rules.{rule_number}
use Rattle.ss_faults.specs.declared.Fault.{Fault}
pub use Rattle.ss_faults.specs.First.{at}
use Rattle.ss_core.specs.Tree as core
use Rattle.ss_core.specs.Chain.{fields_of}
use Rattle.ss_typed.specs.Tree.{ParamTree, ModifiedTree, OneOf, AllOf, ElementsOf, BaseTree, BodyTree, FieldTree, InvariantTree, MembersTree, TypedTree}
use Rattle.ss_owners_rules.specs.Words.{NoWord, Questions, EveryWord, misplaced, misplaced_each, misplaced_in_all, misplaced_if, misplaced_in}
use Rattle.ss_owners_rules.specs.Admissible.{field_marks, inadmissible}
use Rattle.ss_owners_rules.specs.Attributes.{on_field, on_param, on_body, on_invariant, bad_attributes}

-- the numbers of the rules
abbrev pub not_admissible : ℕ
not_admissible = rule_number rule.NotAdmissible

abbrev pub misplaced_word : ℕ
misplaced_word = rule_number rule.MisplacedWord

abbrev pub bad_attribute : ℕ
bad_attribute = rule_number rule.BadAttribute

abbrev pub of_reads : List Place → List Fault
of_reads ps = map (at not_admissible) ps

abbrev pub of_words : List Place → List Fault
of_words ps = map (at misplaced_word) ps

abbrev pub of_attributes : List Place → List Fault
of_attributes ps = map (at bad_attribute) ps

-- ---- members of classes

-- the invariants of a class have no word of conditions, not even `result`
abbrev pub invariant_faults : List Mark → InvariantTree → List Fault
invariant_faults ms i = of_attributes (bad_attributes on_invariant i.attributes) ++ of_words (misplaced NoWord i.condition) ++ of_reads (inadmissible ms i.condition)

abbrev pub invariants_faults : List Mark → List InvariantTree → List Fault
invariants_faults ms [] = []
invariants_faults ms (i ∷ more) = invariant_faults ms i ++ invariants_faults ms more

-- a field with its entry in the table of classes
abbrev pub field_faults : FieldTree → core.FieldTree → List Fault
field_faults f g = of_attributes (bad_attributes (on_field g.ty) f.attributes) ++ of_words (misplaced_if NoWord f.initial)

-- these fields, each with its entry
abbrev pub fields_faults : List FieldTree → List core.FieldTree → List Fault
fields_faults [] gs = []
fields_faults (f ∷ fs) [] = []
fields_faults (f ∷ fs) (g ∷ gs) = field_faults f g ++ fields_faults fs gs

-- the class at place k of the list
abbrev pub class_faults : TypedTree → ℕ → MembersTree → List Fault
class_faults p k c = fields_faults c.fields (fields_of (slice_get p.classes k)) ++ invariants_faults (field_marks p.classes) c.invariants

-- these classes, the first of which stands at place k
abbrev pub classes_faults : TypedTree → ℕ → List MembersTree → List Fault
classes_faults p k [] = []
classes_faults p k (c ∷ cs) = class_faults p k c ++ classes_faults p (k + 1) cs

-- ---- bodies

abbrev pub param_faults : ParamTree → List Fault
param_faults x = of_attributes (bad_attributes (on_param x.ty) x.attributes)

abbrev pub params_faults : List ParamTree → List Fault
params_faults [] = []
params_faults (x ∷ xs) = param_faults x ++ params_faults xs

abbrev pub misplaced_term : ModifiedTree → List Place
misplaced_term (OneOf e f) = misplaced NoWord e
misplaced_term (AllOf e) = misplaced NoWord e
misplaced_term (ElementsOf e) = misplaced NoWord e

abbrev pub misplaced_terms : List ModifiedTree → List Place
misplaced_terms [] = []
misplaced_terms (m ∷ ms) = misplaced_term m ++ misplaced_terms ms

abbrev pub misplaced_modified : Option (List ModifiedTree) → List Place
misplaced_modified None = []
misplaced_modified (Some ms) = misplaced_terms ms

abbrev pub misplaced_base : Option BaseTree → List Place
misplaced_base None = []
misplaced_base (Some base) = misplaced_each NoWord base.arguments

-- in its clauses, in the arguments of `base(..)`, and in its block
abbrev pub misplaced_body : BodyTree → List Place
misplaced_body b =
    misplaced_in_all Questions b.entry ++ misplaced_in_all EveryWord b.exit ++ misplaced_modified b.modifies ++ misplaced_base b.base ++ misplaced_in b.block

abbrev pub body_faults : BodyTree → List Fault
body_faults b = of_attributes (bad_attributes (on_body b.flags.ctor) b.attributes) ++ params_faults b.params ++ of_words (misplaced_body b)

abbrev pub bodies_faults : List BodyTree → List Fault
bodies_faults [] = []
bodies_faults (b ∷ bs) = body_faults b ++ bodies_faults bs

unfoldable pub ownership_faults : TypedTree → List Fault
ownership_faults p = classes_faults p 0 p.members ++ bodies_faults p.bodies
