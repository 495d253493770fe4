-- An object that is as it was at the entry keeps the frame condition, and so does a new or free one at its full level.
use Rattle.std.proofs.Common.{◌≡◌, ℕ, zero, suc, ◌+◌, List, [], ◌∷◌, ◌++◌, length, Bool, true, false, ◌&&◌, ◌||◌, Option, Some, None, refl, sym, ◌∙◌, ap, arith, append_assoc}
use Rattle.std.specs.Prelude.{if◌then◌else◌, slice_get, unwrap_or, flat_map}
use Rattle.std.specs.Bool.{beq}
use Rattle.std.specs.List.{list_all, list_any}
use Rattle.std.specs.Cmp.{bool_eq_equiv}
use Rattle.std.proofs.lemmas.Cmp.{int_eq_equiv}
use Rattle.std.proofs.lemmas.Bool.{eq-eqb}
use Rattle.std.proofs.lemmas.List.{length-append}
use Rattle.ss_store_rules.specs.declared.Value.{Value}
use Rattle.ss_store_rules.specs.declared.Value.TheVariants as value
use Rattle.ss_store_rules.specs.declared.Owner.{Owner}
use Rattle.ss_store_rules.specs.declared.Owner.TheVariants as owner
use Rattle.ss_store_rules.specs.Store.{Object, slot_value}
use Rattle.ss_store_rules.specs.Reads.{same_value, same_owner, object_at, field_read, element_read, is_full}
use Rattle.ss_machine_saves.specs.Whole.{agrees_with, agrees}
use Rattle.ss_machine_rules.specs.declared.Location.{Location}
use Rattle.ss_machine_rules.specs.declared.Location.TheVariants as location
use Rattle.ss_machine_rules.specs.Frame.{Span, unless, names_elements, all_named, unkept_field, unkept_elements_from, unkept_elements, unkept_level, unkept_committed, unkept_owner, unkept_of_old, unkept_of_new, is_outside, unkept_at, unkept_from}

pub same_self : (v : Value) → same_value v v ≡ true
same_self (value.Int n) = int_eq_equiv.refl n
same_self (value.Bool b) = bool_eq_equiv.refl b
same_self (value.Obj o) = eq-eqb o o refl
same_self value.Null = refl

same_owner_self : (w : Owner) → same_owner w w ≡ true
same_owner_self (owner.Group g) = eq-eqb g g refl
same_owner_self (owner.Owned o t) = rw (eq-eqb o o refl, eq-eqb t.0 t.0 refl) refl

kept : (a b : Bool) (l : Location) → a ≡ true → unless (a || b) l ≡ []
kept true b l e = refl
kept false b l e = cc

kept_alone : (a : Bool) (l : Location) → a ≡ true → unless a l ≡ []
kept_alone true l e = refl
kept_alone false l e = cc

both_left : (a b : Bool) → (a && b) ≡ true → a ≡ true
both_left true b e = refl
both_left false b e = cc

both_right : (a b : Bool) → (a && b) ≡ true → b ≡ true
both_right true b e = e
both_right false b e = cc

none_of : {X : Type 0} (p : X → Bool) (f : X → List Location) (xs : List X) → list_all p xs ≡ true → ((x : X) → p x ≡ true → f x ≡ []) → flat_map f xs ≡ []
none_of p f [] e h = refl
none_of p f (x ∷ xs) e h =
    let here = h x (both_left (p x) (list_all p xs) e) in
    let rest = none_of p f xs (both_right (p x) (list_all p xs) e) h in
    rw (here, rest) refl

at_length : (before vs : List Value) (v : Value) → slice_get (before ++ v ∷ vs) (length before) ≡ Some v
at_length [] vs v = refl
at_length (w ∷ before) vs v = at_length before vs v

elements_kept : (c : Span) (o : ℕ) (before vs : List Value) (i : ℕ) → length before ≡ i → (object_at c.entry o).elements ≡ before ++ vs → unkept_elements_from c o i vs ≡ []
elements_kept c o before [] i n e = refl
elements_kept c o before (v ∷ vs) i n e =
    let x = object_at c.entry o in
    let read : element_read x i ≡ v = ap (λ es. unwrap_or (slice_get es i) value.Null) e ∙ ap (λ k. unwrap_or (slice_get (before ++ v ∷ vs) k) value.Null) (sym n) ∙ ap (λ g. unwrap_or g value.Null) (at_length before vs v) in
    let same : same_value v (element_read x i) ≡ true = ap (same_value v) read ∙ same_self v in
    let here = kept_alone (same_value v (element_read x i)) (location.Element o i) same in
    let m : length (before ++ v ∷ []) ≡ i + 1 = simp length-append (omega arith) in
    let rest = elements_kept c o (before ++ v ∷ []) vs (i + 1) m (e ∙ sym (append_assoc before (v ∷ []) vs)) in
    rw (here, rest) refl

elements_unless : (b : Bool) (ls : List Location) → ls ≡ [] → (if b then [] else ls) ≡ []
elements_unless true ls e = refl
elements_unless false ls e = e

read_same : (r : Option Value) (v : Value) → agrees_with r v ≡ true → same_value v (unwrap_or r value.Null) ≡ true
read_same None v e = cc
read_same (Some w) v e = e

pub untouched : (c : Span) (o : ℕ) → agrees (object_at c.entry o) ≡ true → unkept_of_old c o (object_at c.entry o) ≡ []
untouched c o agree =
    let x = object_at c.entry o in
    let fields : flat_map (unkept_field c o) x.fields ≡ [] = none_of (λ y. agrees_with (slot_value x.fields y.field) y.content) (unkept_field c o) x.fields agree (λ y e. kept (same_value y.content (field_read x y.field)) _ _ (read_same (slot_value x.fields y.field) y.content e)) in
    let elements : unkept_elements c o x.elements ≡ [] = elements_unless (list_any (names_elements o) (all_named c)) (unkept_elements_from c o 0 x.elements) (elements_kept c o [] x.elements 0 refl refl) in
    let level : unkept_level c o x ≡ [] = rw (eq-eqb x.level x.level refl) refl in
    let committed : unkept_committed c o x ≡ [] = kept_alone (beq x.committed x.committed) (location.Committed o) (bool_eq_equiv.refl x.committed) in
    let owners : unkept_owner c o x ≡ [] = kept_alone (same_owner x.owner x.owner) (location.OwnerOf o) (same_owner_self x.owner) in
    rw (fields, elements, level, committed, owners) refl

pub full_is_kept : (c : Span) (o : ℕ) (y : Object) → is_full y ≡ true → unkept_of_new c o y ≡ []
full_is_kept c o y full = kept (is_full y) (is_outside c o) (location.Level o) full

nothing_left : (xs ys : List Location) → xs ++ ys ≡ [] → (xs ≡ []) × (ys ≡ [])
nothing_left [] ys e = (refl, e)
nothing_left (x ∷ xs) ys e = cc

-- the frame condition holds where each object keeps it
pub kept_by_all : (c : Span) (o : ℕ) (ys : List Object) → ((q : ℕ) (y : Object) → slice_get ys q ≡ Some y → unkept_at c (o + q) y ≡ []) → unkept_from c o ys ≡ []
kept_by_all c o [] h = refl
kept_by_all c o (y ∷ ys) h =
    let z : o + 0 ≡ o = omega arith in
    let here : unkept_at c o y ≡ [] = rw z at (h 0 y refl) in
    let rest = kept_by_all c (o + 1) ys (λ q x e. let m : o + suc q ≡ o + 1 + q = omega arith in rw m at (h (suc q) x e)) in
    rw (here, rest) refl

-- and where it holds, each object does
pub kept_by_each : (c : Span) (o : ℕ) (ys : List Object) (q : ℕ) (y : Object) → unkept_from c o ys ≡ [] → slice_get ys q ≡ Some y → unkept_at c (o + q) y ≡ []
kept_by_each c o [] q y e is = cc
kept_by_each c o (x ∷ ys) zero y e is =
    let z : o + 0 ≡ o = omega arith in
    let same : x ≡ y = cc in
    rw (z, ← same) (nothing_left (unkept_at c o x) (unkept_from c (o + 1) ys) e).0
kept_by_each c o (x ∷ ys) (suc q) y e is =
    let m : o + suc q ≡ o + 1 + q = omega arith in
    rw m (kept_by_each c (o + 1) ys q y (nothing_left (unkept_at c o x) (unkept_from c (o + 1) ys) e).1 is)
