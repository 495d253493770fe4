-- What one frame condition keeps, another keeps that names at least as much and frees the same.
use Rattle.std.proofs.Common.{◌≡◌, ℕ, ◌+◌, List, [], ◌∷◌, ◌++◌, Bool, true, false, not, ◌&&◌, ◌||◌, refl, sym, ◌∙◌, ap, subst}
use Rattle.std.specs.Prelude.{flat_map, ◌==◌, if◌then◌else◌}
use Rattle.std.specs.List.{list_any}
use Rattle.std.proofs.lemmas.Bool.{false≢true, and_parts, and_from}
use Rattle.std.proofs.lemmas.List.Concat.{flat_map-cons}
use Rattle.ss_core.specs.declared.names.ClassId.{ClassId}
use Rattle.ss_core.specs.Tree.{ClassTree, BodyTree}
use Rattle.ss_store_rules.specs.declared.Value.{Value}
use Rattle.ss_store_rules.specs.Store.{Slot, Object}
use Rattle.ss_store_rules.specs.Reads.{same_value, object_at, is_allocated, field_read, element_read}
use Rattle.ss_machine_rules.specs.declared.Location.{Location}
use Rattle.ss_machine_rules.specs.declared.Location.TheVariants as location
use Rattle.ss_machine_rules.specs.declared.Named.{Named}
use Rattle.ss_machine_rules.specs.declared.Named.TheVariants as named
use Rattle.ss_machine_rules.specs.Frame.{Span, names_field, names_elements, names_level, all_named, is_free, unless, unkept_field, unkept_elements_from, unkept_elements, unkept_level, unkept_committed, unkept_owner, unkept_of_old, unkept_of_new, is_old, is_outside, unkept_at, unkept_from, is_empty, is_kept}

-- a test that holds of all of an object where it holds of it up to a class
abbrev pub IsWide : (Named → Bool) → Type 0
IsWide p = (o : ℕ) (t : ClassId) → p (named.Upto o t) ≡ true → p (named.All o) ≡ true

fields_wide : (cs : List ClassTree) (o f : ℕ) → IsWide (names_field cs o f)
fields_wide cs o f q t h = (and_parts _ _ h).0

elements_wide : (o : ℕ) → IsWide (names_elements o)
elements_wide o q t h = absurd (false≢true h)

levels_wide : (o : ℕ) → IsWide (names_level o)
levels_wide o q t h = h

-- ---- lists of locations

empty_unless : (k : Bool) (l : Location) → is_empty (unless k l) ≡ k
empty_unless true l = refl
empty_unless false l = refl

empty_both : (xs ys : List Location) → is_empty (xs ++ ys) ≡ (is_empty xs && is_empty ys)
empty_both [] ys = refl
empty_both (x ∷ xs) ys = refl

unless_follows : (k m : Bool) (l : Location) → (k ≡ true → m ≡ true) → is_empty (unless k l) ≡ true → is_empty (unless m l) ≡ true
unless_follows k m l f h = empty_unless m l ∙ f (sym (empty_unless k l) ∙ h)

or_follows : (a n m : Bool) → (n ≡ true → m ≡ true) → (a || n) ≡ true → (a || m) ≡ true
or_follows true n m f h = refl
or_follows false n m f h = f h

both_follow : (a b e f : List Location) → (is_empty a ≡ true → is_empty e ≡ true) → (is_empty b ≡ true → is_empty f ≡ true) → is_empty (a ++ b) ≡ true → is_empty (e ++ f) ≡ true
both_follow a b e f g h k =
    let p = and_parts (is_empty a) (is_empty b) (sym (empty_both a b) ∙ k) in
    empty_both e f ∙ and_from (is_empty e) (is_empty f) (g p.0) (h p.1)

if_follows : (t : Bool) (a b e f : List Location) → (is_empty a ≡ true → is_empty e ≡ true) → (is_empty b ≡ true → is_empty f ≡ true) → is_empty (if t then a else b) ≡ true → is_empty (if t then e else f) ≡ true
if_follows true a b e f g h k = g k
if_follows false a b e f g h k = h k

-- ---- spans between the same stores
module _ (cs : List ClassTree) (s z : List Object) (outside : List Value) where
  abbrev pub span_of : BodyTree → List Value → Span
  span_of b locals = record { classes = cs; body = b; locals = locals; entry = s; now = z; outside = outside }

  module _ (b d : BodyTree) (L M : List Value) (names : (p : Named → Bool) → IsWide p → list_any p (all_named (span_of b L)) ≡ true → list_any p (all_named (span_of d M)) ≡ true) (frees : (x : Object) → is_free (span_of b L) x ≡ is_free (span_of d M) x) where
    abbrev C : Span
    C = span_of b L

    abbrev D : Span
    D = span_of d M

    field_follows : (o : ℕ) (y : Slot) → is_empty (unkept_field C o y) ≡ true → is_empty (unkept_field D o y) ≡ true
    field_follows o y =
        unless_follows (same_value y.content (field_read (object_at s o) y.field) || list_any (names_field cs o y.field) (all_named C)) (same_value y.content (field_read (object_at s o) y.field) || list_any (names_field cs o y.field) (all_named D)) _
        (or_follows (same_value y.content (field_read (object_at s o) y.field)) (list_any (names_field cs o y.field) (all_named C)) (list_any (names_field cs o y.field) (all_named D)) (names (names_field cs o y.field) (fields_wide cs o y.field)))

    fields_follow : (o : ℕ) (ys : List Slot) → is_empty (flat_map (unkept_field C o) ys) ≡ true → is_empty (flat_map (unkept_field D o) ys) ≡ true
    fields_follow o [] h = h
    fields_follow o (y ∷ ys) h =
        ap is_empty (flat_map-cons (unkept_field D o) y ys)
        ∙ both_follow (unkept_field C o y) (flat_map (unkept_field C o) ys) (unkept_field D o y) (flat_map (unkept_field D o) ys) (field_follows o y) (fields_follow o ys) (sym (ap is_empty (flat_map-cons (unkept_field C o) y ys)) ∙ h)

    same_elements : (o i : ℕ) (vs : List Value) → unkept_elements_from C o i vs ≡ unkept_elements_from D o i vs
    same_elements o i [] = refl
    same_elements o i (v ∷ vs) = ap (λ ls. unless (same_value v (element_read (object_at s o) i)) (location.Element o i) ++ ls) (same_elements o (i + 1) vs)

    elements_named : (n m : Bool) (ls ks : List Location) → (n ≡ true → m ≡ true) → ls ≡ ks → is_empty (if n then [] else ls) ≡ true → is_empty (if m then [] else ks) ≡ true
    elements_named n true ls ks f e h = refl
    elements_named true false ls ks f e h = absurd (false≢true (f refl))
    elements_named false false ls ks f e h = subst (λ l. is_empty l ≡ true) e h

    elements_follow : (o : ℕ) (vs : List Value) → is_empty (unkept_elements C o vs) ≡ true → is_empty (unkept_elements D o vs) ≡ true
    elements_follow o vs = elements_named (list_any (names_elements o) (all_named C)) (list_any (names_elements o) (all_named D)) (unkept_elements_from C o 0 vs) (unkept_elements_from D o 0 vs) (names (names_elements o) (elements_wide o)) (same_elements o 0 vs)

    level_kept : (a n m out : Bool) → (n ≡ true → m ≡ true) → (a || n || out) ≡ true → (a || m || out) ≡ true
    level_kept true n m out f h = refl
    level_kept false true m out f h = ap (λ x. x || out) (f refl)
    level_kept false false true out f h = refl
    level_kept false false false out f h = h

    level_follows : (o : ℕ) (y : Object) → is_empty (unkept_level C o y) ≡ true → is_empty (unkept_level D o y) ≡ true
    level_follows o y =
        unless_follows (y.level == (object_at s o).level || list_any (names_level o) (all_named C) || is_outside C o) (y.level == (object_at s o).level || list_any (names_level o) (all_named D) || is_outside D o) _
        (level_kept (y.level == (object_at s o).level) (list_any (names_level o) (all_named C)) (list_any (names_level o) (all_named D)) (is_outside C o) (names (names_level o) (levels_wide o)))

    old_follows : (o : ℕ) (y : Object) → is_empty (unkept_of_old C o y) ≡ true → is_empty (unkept_of_old D o y) ≡ true
    old_follows o y =
        both_follow (flat_map (unkept_field C o) y.fields ++ unkept_elements C o y.elements ++ unkept_level C o y ++ unkept_committed C o y) (unkept_owner C o y)
        (flat_map (unkept_field D o) y.fields ++ unkept_elements D o y.elements ++ unkept_level D o y ++ unkept_committed D o y) (unkept_owner D o y)
        (both_follow (flat_map (unkept_field C o) y.fields ++ unkept_elements C o y.elements ++ unkept_level C o y) (unkept_committed C o y)
        (flat_map (unkept_field D o) y.fields ++ unkept_elements D o y.elements ++ unkept_level D o y) (unkept_committed D o y)
        (both_follow (flat_map (unkept_field C o) y.fields ++ unkept_elements C o y.elements) (unkept_level C o y)
        (flat_map (unkept_field D o) y.fields ++ unkept_elements D o y.elements) (unkept_level D o y)
        (both_follow (flat_map (unkept_field C o) y.fields) (unkept_elements C o y.elements) (flat_map (unkept_field D o) y.fields) (unkept_elements D o y.elements) (fields_follow o y.fields) (elements_follow o y.elements))
        (level_follows o y))
        (λ h. h))
        (λ h. h)

    same_old : (o : ℕ) → is_old C o ≡ is_old D o
    same_old o = ap (λ t. is_allocated s o && not t) (frees (object_at s o))

    at_follows : (o : ℕ) (y : Object) → is_empty (unkept_at C o y) ≡ true → is_empty (unkept_at D o y) ≡ true
    at_follows o y h =
        ap (λ t. is_empty (if t then unkept_of_old D o y else unkept_of_new D o y)) (sym (same_old o))
        ∙ if_follows (is_old C o) (unkept_of_old C o y) (unkept_of_new C o y) (unkept_of_old D o y) (unkept_of_new D o y) (old_follows o y) (λ k. k) h

    from_follows : (o : ℕ) (ys : List Object) → is_empty (unkept_from C o ys) ≡ true → is_empty (unkept_from D o ys) ≡ true
    from_follows o [] h = h
    from_follows o (y ∷ ys) h = both_follow (unkept_at C o y) (unkept_from C (o + 1) ys) (unkept_at D o y) (unkept_from D (o + 1) ys) (at_follows o y) (from_follows (o + 1) ys) h

    pub kept_follows : is_kept C ≡ true → is_kept D ≡ true
    kept_follows h = from_follows 0 z h
