-- The frame condition and growth, as formulas over two stores.
use Rattle.std.specs.Prelude.{ℕ, zero, suc, ◌+◌, List, [], ◌∷◌, ◌++◌, map, length, ◌==◌, if◌then◌else◌}
use Rattle.ss_core.specs.Tree.{ClassTree}
use Rattle.ss_core.specs.Chain.{sub, all_fields}
use Rattle.ss_store_rules.specs.Changes.{field_class}
use Rattle.ss_logic.specs.declared.Sort.TheVariants as sort
use Rattle.ss_logic.specs.Terms.{Symbol, Field, Element, Term, Bound, App, Terms, no_terms, term_then, app}
use Rattle.ss_logic.specs.Formulas.{Formula, Formulas, Literal, And, Or, Forall, Exists, no_formulas, formula_then, neg}
use Rattle.ss_logic.specs.Shapes.{class_term, level_of, owner_of, type_of, pair_of, equal, allocated, committed, ready, group}
use Rattle.ss_logic.specs.Express.{and_of, or_of}

-- What a body may change: a field of an object, all of an object, what its class and those above it declare, or the elements of an array;
-- each where the formula is true.
pub data NamedTerm : Type 0 where
  NamesField : Formula → Term → ℕ → NamedTerm
  NamesAll : Formula → Term → NamedTerm
  NamesUpto : Formula → Term → ℕ → NamedTerm
  NamesElements : Formula → Term → NamedTerm

-- an object and a class
pub record OwnerTerm : Type 0 where
  pub object : Term
  pub class : ℕ

-- The store at entry and a later one, what is named, whose groups are captured, which owners' objects are free, and the objects of
-- enclosing exposes. None of them has a bound name that it doesn't bind.
pub record CallTerms : Type 0 where
  pub before : Term
  pub after : Term
  pub named : List NamedTerm
  pub captured : List Term
  pub owned : List OwnerTerm
  pub outside : List Term

-- ---- under more bound names

abbrev mutual
  pub lifted_term : ℕ → Term → Term
  lifted_term n (Bound k) = Bound (n + k)
  lifted_term n (App f ts) = App f (lifted_terms n ts)

  pub lifted_terms : ℕ → Terms → Terms
  lifted_terms n no_terms = no_terms
  lifted_terms n (term_then t ts) = term_then (lifted_term n t) (lifted_terms n ts)

-- the formula where n names are bound around it
abbrev mutual
  pub lifted : ℕ → Formula → Formula
  lifted n (Literal sign p ts) = Literal sign p (lifted_terms n ts)
  lifted n (And fs) = And (all_lifted n fs)
  lifted n (Or fs) = Or (all_lifted n fs)
  lifted n (Forall ss f) = Forall ss (lifted n f)
  lifted n (Exists ss f) = Exists ss (lifted n f)

  pub all_lifted : ℕ → Formulas → Formulas
  all_lifted n no_formulas = no_formulas
  all_lifted n (formula_then f fs) = formula_then (lifted n f) (all_lifted n fs)

-- ---- shapes

-- either of them, or the last; the last alone, where there is no other
abbrev pub unless : List Formula → Formula → Formula
unless [] f = f
unless (g ∷ gs) f = or_of (g ∷ gs ++ f ∷ [])

abbrev pub iff : Formula → Formula → Formula
iff f g = or_of (and_of (f ∷ g ∷ []) ∷ and_of (neg f ∷ neg g ∷ []) ∷ [])

-- the object of which a quantified formula speaks, and the index
abbrev pub the_object : Term
the_object = Bound 0

abbrev pub the_index : Term
the_index = Bound 1

-- ---- what is free, and what is named. n names are bound around it.

-- in the group of a captured argument
abbrev pub in_group_of : Term → Term → Formula
in_group_of s e = and_of (group (owner_of s e) ∷ equal (owner_of s the_object) (owner_of s e) ∷ [])

abbrev pub owned_by : Term → OwnerTerm → Formula
owned_by s w = equal (owner_of s the_object) (pair_of w.object (class_term w.class))

-- it was committed, in a captured group, or owned by one of these
abbrev pub is_free : CallTerms → List Formula
is_free c = committed c.before the_object ∷ map (in_group_of c.before) c.captured ++ map (owned_by c.before) c.owned

abbrev pub is_outside : CallTerms → List Formula
is_outside c = map (equal the_object) c.outside

-- the formula is true and the object is this one
abbrev pub is_named : ℕ → Formula → Term → Formula
is_named n f o = and_of (lifted n f ∷ equal the_object o ∷ [])

abbrev pub names_field : List ClassTree → ℕ → NamedTerm → List Formula
names_field cs f (NamesField guard o g) = if g == f then is_named 1 guard o ∷ [] else []
names_field cs f (NamesAll guard o) = is_named 1 guard o ∷ []
names_field cs f (NamesUpto guard o t) = if sub cs t (field_class cs f) then is_named 1 guard o ∷ [] else []
names_field cs f (NamesElements guard a) = []

abbrev pub names_level : NamedTerm → List Formula
names_level (NamesField guard o g) = []
names_level (NamesAll guard o) = is_named 1 guard o ∷ []
names_level (NamesUpto guard o t) = is_named 1 guard o ∷ []
names_level (NamesElements guard a) = []

abbrev pub names_elements : NamedTerm → List Formula
names_elements (NamesField guard o g) = []
names_elements (NamesAll guard o) = []
names_elements (NamesUpto guard o t) = []
names_elements (NamesElements guard a) = is_named 2 guard a ∷ []

abbrev pub all_named : (NamedTerm → List Formula) → List NamedTerm → List Formula
all_named names [] = []
all_named names (t ∷ ts) = names t ++ all_named names ts

-- ---- kept

abbrev pub field_kept : List ClassTree → CallTerms → ℕ → Formula
field_kept cs c f = unless (all_named (names_field cs f) c.named) (equal (app (Field f) (c.after ∷ the_object ∷ [])) (app (Field f) (c.before ∷ the_object ∷ [])))

-- for each of n fields, from this one on
abbrev pub fields_kept : List ClassTree → CallTerms → ℕ → ℕ → List Formula
fields_kept cs c f zero = []
fields_kept cs c f (suc n) = field_kept cs c f ∷ fields_kept cs c (f + 1) n

abbrev pub level_kept : CallTerms → Formula
level_kept c = unless (is_outside c ++ all_named names_level c.named) (equal (level_of c.after the_object) (level_of c.before the_object))

abbrev pub object_kept : List ClassTree → CallTerms → Formula
object_kept cs c =
    and_of (
    level_kept c
    ∷ iff (committed c.after the_object) (committed c.before the_object)
    ∷ equal (owner_of c.after the_object) (owner_of c.before the_object)
    ∷ fields_kept cs c 0 (length (all_fields cs)))

-- an object that was allocated and isn't free has its fields, its level, its committed bit and its owner, unless they are named
abbrev pub objects_kept : List ClassTree → CallTerms → Formula
objects_kept cs c = Forall (sort.Rest ∷ []) (unless (neg (allocated c.before the_object) ∷ is_free c) (object_kept cs c))

abbrev pub element_kept : CallTerms → Symbol → Formula
element_kept c f = equal (app f (c.after ∷ the_object ∷ the_index ∷ [])) (app f (c.before ∷ the_object ∷ the_index ∷ []))

abbrev pub array_kept : CallTerms → Formula
array_kept c = and_of (element_kept c (Element sort.Rest) ∷ element_kept c (Element sort.Whole) ∷ element_kept c (Element sort.Truth) ∷ [])

-- an array that was allocated and isn't free has its elements, unless they are named
abbrev pub elements_kept : CallTerms → Formula
elements_kept c =
    Forall (sort.Rest ∷ sort.Whole ∷ [])
    (unless (neg (allocated c.before the_object) ∷ is_free c ++ all_named names_elements c.named) (array_kept c))

-- an object that is new or free is at its full level, but for those of enclosing exposes
abbrev pub others_full : CallTerms → Formula
others_full c =
    Forall (sort.Rest ∷ [])
    (unless (neg (allocated c.after the_object) ∷ and_of (allocated c.before the_object ∷ map neg (is_free c)) ∷ is_outside c)
    (equal (level_of c.after the_object) (type_of the_object)))

abbrev pub kept : List ClassTree → CallTerms → Formula
kept cs c = and_of (objects_kept cs c ∷ elements_kept c ∷ others_full c ∷ [])

-- ---- grown

abbrev pub object_grown : Term → Term → Formula
object_grown before after =
    and_of (
    allocated after the_object
    ∷ unless (neg (ready before the_object) ∷ []) (ready after the_object)
    ∷ unless (group (owner_of before the_object) ∷ []) (equal (owner_of after the_object) (owner_of before the_object))
    ∷ [])

-- what was allocated is, what was ready is, and an owner that is no group stays
abbrev pub grown : Term → Term → Formula
grown before after = Forall (sort.Rest ∷ []) (unless (neg (allocated before the_object) ∷ []) (object_grown before after))
