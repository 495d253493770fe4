-- The rules that are true of good stores, and their instances. Each has as a premise that the object whose state it speaks of is allocated.
use Rattle.std.specs.Prelude.{ℕ, pos, negsuc, ◌+◌, ◌-◌, ◌^◌, List, [], ◌∷◌, ◌++◌, map, Bool, true, false, ◌==◌, ◌&&◌, Option, Some, None, option_and_then, if◌then◌else◌}
use Rattle.ss_core.specs.declared.names.Mark.{Mark}
use Rattle.ss_core.specs.declared.names.Mark.TheVariants as mark
use Rattle.ss_core.specs.declared.names.Ty.{Ty}
use Rattle.ss_core.specs.declared.names.Ty.TheVariants as ty
use Rattle.ss_core.specs.Tree.{ClassTree}
use Rattle.ss_core.specs.Types.{is_class_type}
use Rattle.ss_store_rules.specs.Changes.{field_class, field_mark, field_type}
use Rattle.ss_logic.specs.declared.Sort.{Sort}
use Rattle.ss_logic.specs.declared.Sort.TheVariants as sort
use Rattle.ss_logic.specs.Terms.{Field, Element, Length, Term, app, has_field, have_sorts}
use Rattle.ss_logic.specs.Formulas.{Formula, neg}
use Rattle.ss_logic.specs.Objects.{element_class}
use Rattle.ss_logic.specs.Shapes.{when, number, null_term, class_term, level_of, owner_of, type_of, pair_of, equal, differ, at_most, sub_atom, allocated, committed, ready, group, given, all_of, natural_of, class_of_term}
use Rattle.ss_logic.specs.Reads.{Look, FieldLook, ElementLook, LevelLook, LengthLook, is_look, look_from}

-- ---- full: a committed object is at its full level

abbrev pub full_level : Term → Term → Formula
full_level s o = given (allocated s o ∷ committed s o ∷ []) (equal (level_of s o) (type_of o))

abbrev pub full_of : List ClassTree → Term → List Term → Option Formula
full_of cs s (o ∷ []) = when (have_sorts cs (sort.Rest ∷ []) (o ∷ [])) (full_level s o)
full_of cs s ts = None

-- ---- owned: an owned object is committed exactly where its owner is packed, and a member of a group isn't

abbrev pub owned_committed : Term → Term → Term → Term → Formula
owned_committed s p o t =
    let premises = allocated s p ∷ equal (owner_of s p) (pair_of o t) ∷ [] in
    let packed = sub_atom (level_of s o) t in
    all_of (given (premises ++ committed s p ∷ []) packed ∷ given (premises ++ neg (committed s p) ∷ []) (neg packed) ∷ [])

abbrev pub grouped_uncommitted : Term → Term → Formula
grouped_uncommitted s p = given (allocated s p ∷ group (owner_of s p) ∷ []) (neg (committed s p))

abbrev pub owned_by_number : List ClassTree → Term → ℕ → List Term → Option Formula
owned_by_number cs s n (p ∷ []) = when (n == 1 && have_sorts cs (sort.Rest ∷ []) (p ∷ [])) (grouped_uncommitted s p)
owned_by_number cs s n (p ∷ o ∷ t ∷ []) = when (n == 0 && have_sorts cs (sort.Rest ∷ sort.Rest ∷ sort.Rest ∷ []) (p ∷ o ∷ t ∷ [])) (owned_committed s p o t)
owned_by_number cs s n ts = None

abbrev pub owned_of : List ClassTree → Term → List Term → Option Formula
owned_of cs s [] = None
owned_of cs s (n ∷ ts) = option_and_then (λ k. owned_by_number cs s k ts) (natural_of n)

-- ---- marks: what a marked field refers to has the owner that the mark says

-- the object is allocated, and of the class that declares the field
abbrev pub has_its_field : List ClassTree → Term → Term → ℕ → List Formula
has_its_field cs s o f = allocated s o ∷ sub_atom (type_of o) (class_term (field_class cs f)) ∷ []

abbrev pub field_term : Term → Term → ℕ → Term
field_term s o f = app (Field f) (s ∷ o ∷ [])

abbrev pub marked : List ClassTree → Term → Term → ℕ → Mark → Option Formula
marked cs s o f mark.Plain = None
marked cs s o f mark.Rep = Some (given (has_its_field cs s o f ++ differ (field_term s o f) null_term ∷ []) (equal (owner_of s (field_term s o f)) (pair_of o (class_term (field_class cs f)))))
marked cs s o f mark.Peer = Some (given (has_its_field cs s o f ++ differ (field_term s o f) null_term ∷ []) (equal (owner_of s (field_term s o f)) (owner_of s o)))

abbrev pub marked_field : List ClassTree → Term → Term → Option ℕ → Option Formula
marked_field cs s o (Some f) =
    if has_field cs f && is_class_type (field_type cs f) && have_sorts cs (sort.Rest ∷ []) (o ∷ []) then marked cs s o f (field_mark cs f) else None
marked_field cs s o None = None

abbrev pub marks_of : List ClassTree → Term → List Term → Option Formula
marks_of cs s (o ∷ f ∷ []) = marked_field cs s o (natural_of f)
marks_of cs s ts = None

-- ---- typed: values are in range, allocated and of their classes

-- a whole number of 32 bits
abbrev pub in_range : List Formula → Term → List Formula
in_range ps x = given ps (at_most (number (negsuc (2 ^ 31 - 1))) x) ∷ given ps (at_most x (number (pos (2 ^ 31 - 1)))) ∷ []

-- the classes of arrays of references: `object[]`, and those of the declared classes
abbrev pub arrays_from : ℕ → List ClassTree → List ℕ
arrays_from t [] = []
arrays_from t (c ∷ cs) = t ∷ arrays_from (t + 2) cs

abbrev pub arrays_of_references : List ClassTree → List ℕ
arrays_of_references cs = 3 ∷ arrays_from 5 cs

-- an element of an array of the class t, where it isn't null
abbrev pub element_typed : Term → Term → Term → ℕ → Formula
element_typed s a x t = given (allocated s a ∷ equal (type_of a) (class_term t) ∷ differ x null_term ∷ []) (sub_atom (type_of x) (class_term (element_class t)))

abbrev pub typed_field : List ClassTree → Term → Term → ℕ → Ty → Option Formula
typed_field cs s o f ty.Int = Some (all_of (in_range (has_its_field cs s o f) (field_term s o f)))
typed_field cs s o f ty.Bool = None
typed_field cs s o f ty.Null = None
typed_field cs s o f (ty.Ref t non_null) =
    let x = field_term s o f in
    let premises = has_its_field cs s o f ++ differ x null_term ∷ [] in
    Some (all_of (given premises (allocated s x) ∷ given premises (sub_atom (type_of x) (class_term t.0)) ∷ []))

abbrev pub typed_element : List ClassTree → Term → Term → Term → Sort → Option Formula
typed_element cs s a i sort.Whole = Some (all_of (in_range (allocated s a ∷ []) (app (Element sort.Whole) (s ∷ a ∷ i ∷ []))))
typed_element cs s a i sort.Truth = None
typed_element cs s a i sort.Store = None
typed_element cs s a i sort.Rest =
    let x = app (Element sort.Rest) (s ∷ a ∷ i ∷ []) in
    Some (all_of (given (allocated s a ∷ differ x null_term ∷ []) (allocated s x) ∷ map (element_typed s a x) (arrays_of_references cs)))

-- the class of an object is below its level
abbrev pub level_typed : Term → Term → Formula
level_typed s o = given (allocated s o ∷ []) (sub_atom (type_of o) (level_of s o))

abbrev pub length_typed : Term → Term → Formula
length_typed s a =
    let x = app Length (a ∷ []) in
    all_of (given (allocated s a ∷ []) (at_most (number (pos 0)) x) ∷ given (allocated s a ∷ []) (at_most x (number (pos (2 ^ 31 - 1)))) ∷ [])

abbrev pub typed_look : List ClassTree → Term → Look → Option Formula
typed_look cs s (FieldLook o f) = typed_field cs s o f (field_type cs f)
typed_look cs s (ElementLook r a i) = typed_element cs s a i r
typed_look cs s (LevelLook o) = Some (level_typed s o)
typed_look cs s (LengthLook a) = Some (length_typed s a)
typed_look cs s look = None

abbrev pub typed_read : List ClassTree → Term → Option Look → Option Formula
typed_read cs s (Some look) = if is_look cs look then typed_look cs s look else None
typed_read cs s None = None

-- where the level of the object is t, its class is below t
abbrev pub level_at : Term → Term → ℕ → Formula
level_at s o t = given (allocated s o ∷ equal (level_of s o) (class_term t) ∷ []) (sub_atom (type_of o) (class_term t))

abbrev pub typed_level : Term → Term → Option ℕ → Option Formula
typed_level s o (Some t) = Some (level_at s o t)
typed_level s o None = None

-- the object of an owner is allocated
abbrev pub owner_allocated : Term → Term → Term → Term → Formula
owner_allocated s p o t = given (allocated s p ∷ equal (owner_of s p) (pair_of o t) ∷ []) (allocated s o)

abbrev pub is_this : ℕ → Option ℕ → Bool
is_this n (Some k) = k == n
is_this n None = false

abbrev pub is_number : ℕ → Term → Bool
is_number n t = is_this n (natural_of t)

abbrev pub typed_of : List ClassTree → Term → List Term → Option Formula
typed_of cs s [] = None
typed_of cs s (kind ∷ o ∷ t ∷ []) =
    if is_number 2 kind && have_sorts cs (sort.Rest ∷ []) (o ∷ []) then typed_level s o (class_of_term t) else typed_read cs s (look_from kind (o ∷ t ∷ []))
typed_of cs s (kind ∷ p ∷ o ∷ t ∷ []) = when (is_number 3 kind && have_sorts cs (sort.Rest ∷ sort.Rest ∷ sort.Rest ∷ []) (p ∷ o ∷ t ∷ [])) (owner_allocated s p o t)
typed_of cs s (kind ∷ ts) = typed_read cs s (look_from kind ts)

-- ---- ready: fields of ready objects aren't null, and values refer to ready objects

abbrev pub not_null : Bool → List Formula → Term → Term → Term → List Formula
not_null true ps s o x = given (ps ++ ready s o ∷ []) (differ x null_term) ∷ []
not_null false ps s o x = []

abbrev pub ready_field : List ClassTree → Term → Term → ℕ → Ty → Option Formula
ready_field cs s o f (ty.Ref t non_null) =
    let x = field_term s o f in
    let premises = has_its_field cs s o f in
    Some (all_of (given (premises ++ differ x null_term ∷ []) (ready s x) ∷ not_null non_null premises s o x))
ready_field cs s o f t = None

abbrev pub ready_look : List ClassTree → Term → Look → Option Formula
ready_look cs s (FieldLook o f) = ready_field cs s o f (field_type cs f)
ready_look cs s (ElementLook sort.Rest a i) =
    let x = app (Element sort.Rest) (s ∷ a ∷ i ∷ []) in
    Some (given (allocated s a ∷ differ x null_term ∷ []) (ready s x))
ready_look cs s look = None

abbrev pub ready_read : List ClassTree → Term → Option Look → Option Formula
ready_read cs s (Some look) = if is_look cs look then ready_look cs s look else None
ready_read cs s None = None

abbrev pub ready_of : List ClassTree → Term → List Term → Option Formula
ready_of cs s [] = None
ready_of cs s (kind ∷ ts) = ready_read cs s (look_from kind ts)
