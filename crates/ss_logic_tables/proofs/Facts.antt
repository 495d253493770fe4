-- The frame condition as facts over objects.
use Rattle.std.proofs.Common.{◌≡◌, ℕ, zero, suc, ◌+◌, List, [], ◌∷◌, ◌++◌, Bool, true, false, ◌||◌, Some, refl, sym, ◌∙◌, subst, arith}
use Rattle.std.specs.Prelude.{◌==◌, flat_map, if◌then◌else◌, slice_get}
use Rattle.std.specs.Bool.{beq}
use Rattle.std.specs.List.{list_any}
use Rattle.std.proofs.lemmas.Bool.{false≢true}
use Rattle.ss_store_rules.specs.declared.Value.{Value}
use Rattle.ss_store_rules.specs.Store.{Slot, Object}
use Rattle.ss_store_rules.specs.Reads.{same_value, same_owner, object_at, field_read, element_read, is_full}
use Rattle.ss_machine_rules.specs.declared.Location.{Location}
use Rattle.ss_machine_rules.specs.declared.Location.TheVariants as location
use Rattle.ss_machine_rules.specs.Frame.{Span, all_named, names_field, names_elements, names_level, is_outside, unless, unkept_field, unkept_elements_from, unkept_elements, unkept_level, unkept_committed, unkept_owner, unkept_of_old, unkept_of_new, is_old, unkept_at, unkept_from, is_empty, is_kept}

empty_parts : (xs ys : List Location) → is_empty (xs ++ ys) ≡ true → (is_empty xs ≡ true) × (is_empty ys ≡ true)
empty_parts [] ys e = (refl, e)
empty_parts (x ∷ xs) ys e = absurd (false≢true e)

empty_both : (xs ys : List Location) → is_empty xs ≡ true → is_empty ys ≡ true → is_empty (xs ++ ys) ≡ true
empty_both [] ys e f = f
empty_both (x ∷ xs) ys e f = absurd (false≢true e)

unless_true : (b : Bool) (l : Location) → is_empty (unless b l) ≡ true → b ≡ true
unless_true true l e = refl
unless_true false l e = absurd (false≢true e)

true_unless : (b : Bool) (l : Location) → b ≡ true → is_empty (unless b l) ≡ true
true_unless true l e = refl
true_unless false l e = absurd (false≢true e)

-- Of an object that was there and isn't free.
pub record IsOldKept (c : Span) (o : ℕ) (y : Object) : Type 0 where
  pub fields : (k : ℕ) (s : Slot) → slice_get y.fields k ≡ Some s → (same_value s.content (field_read (object_at c.entry o) s.field) || list_any (names_field c.classes o s.field) (all_named c)) ≡ true
  pub elements : (i : ℕ) (v : Value) → slice_get y.elements i ≡ Some v → list_any (names_elements o) (all_named c) ≡ false → same_value v (element_read (object_at c.entry o) i) ≡ true
  pub level : (y.level == (object_at c.entry o).level || list_any (names_level o) (all_named c) || is_outside c o) ≡ true
  pub committed : beq y.committed (object_at c.entry o).committed ≡ true
  pub owner : same_owner y.owner (object_at c.entry o).owner ≡ true

pub record IsKeptAt (c : Span) (o : ℕ) (y : Object) : Type 0 where
  pub old : is_old c o ≡ true → IsOldKept c o y
  pub new : is_old c o ≡ false → (is_full y || is_outside c o) ≡ true

module _ (c : Span) where
  -- ---- slots
  module _ (o : ℕ) where
    abbrev IsSlotKept : Slot → Type 0
    IsSlotKept s = (same_value s.content (field_read (object_at c.entry o) s.field) || list_any (names_field c.classes o s.field) (all_named c)) ≡ true

    slots_from : (ss : List Slot) → is_empty (flat_map (unkept_field c o) ss) ≡ true → (k : ℕ) (s : Slot) → slice_get ss k ≡ Some s → IsSlotKept s
    slots_from [] e k s is = absurd (let no : ⊥ = cc in no)
    slots_from (z ∷ ss) e zero s is =
        let p = empty_parts (unkept_field c o z) (flat_map (unkept_field c o) ss) e in
        let same : z ≡ s = cc in
        subst IsSlotKept same (unless_true _ _ p.0)
    slots_from (z ∷ ss) e (suc k) s is = slots_from ss (empty_parts (unkept_field c o z) (flat_map (unkept_field c o) ss) e).1 k s is

    slots_to : (ss : List Slot) → ((k : ℕ) (s : Slot) → slice_get ss k ≡ Some s → IsSlotKept s) → is_empty (flat_map (unkept_field c o) ss) ≡ true
    slots_to [] h = refl
    slots_to (z ∷ ss) h = empty_both (unkept_field c o z) (flat_map (unkept_field c o) ss) (true_unless _ _ (h 0 z refl)) (slots_to ss (λ k s is. h (suc k) s is))

    -- ---- elements
    abbrev IsElementKept : ℕ → Value → Type 0
    IsElementKept i v = same_value v (element_read (object_at c.entry o) i) ≡ true

    elements_from : (i : ℕ) (vs : List Value) → is_empty (unkept_elements_from c o i vs) ≡ true → (k : ℕ) (v : Value) → slice_get vs k ≡ Some v → IsElementKept (i + k) v
    elements_from i [] e k v is = absurd (let no : ⊥ = cc in no)
    elements_from i (w ∷ vs) e zero v is =
        let p = empty_parts (unless (same_value w (element_read (object_at c.entry o) i)) (location.Element o i)) (unkept_elements_from c o (i + 1) vs) e in
        let same : w ≡ v = cc in
        let at : i ≡ i + 0 = omega arith in
        subst (λ n. IsElementKept n v) at (subst (IsElementKept i) same (unless_true _ _ p.0))
    elements_from i (w ∷ vs) e (suc k) v is =
        let p = empty_parts (unless (same_value w (element_read (object_at c.entry o) i)) (location.Element o i)) (unkept_elements_from c o (i + 1) vs) e in
        let at : i + 1 + k ≡ i + suc k = omega arith in
        subst (λ n. IsElementKept n v) at (elements_from (i + 1) vs p.1 k v is)

    elements_to : (i : ℕ) (vs : List Value) → ((k : ℕ) (v : Value) → slice_get vs k ≡ Some v → IsElementKept (i + k) v) → is_empty (unkept_elements_from c o i vs) ≡ true
    elements_to i [] h = refl
    elements_to i (w ∷ vs) h =
        let at : i + 0 ≡ i = omega arith in
        empty_both (unless (same_value w (element_read (object_at c.entry o) i)) (location.Element o i)) (unkept_elements_from c o (i + 1) vs)
        (true_unless _ _ (subst (λ n. IsElementKept n w) at (h 0 w refl)))
        (elements_to (i + 1) vs (λ k v is. let more : i + suc k ≡ i + 1 + k = omega arith in subst (λ n. IsElementKept n v) more (h (suc k) v is)))

    unless_named : (b : Bool) (ls : List Location) → is_empty (if b then [] else ls) ≡ true → b ≡ false → is_empty ls ≡ true
    unless_named true ls e n = absurd (false≢true (sym n))
    unless_named false ls e n = e

    named_unless : (b : Bool) (ls : List Location) → (b ≡ false → is_empty ls ≡ true) → is_empty (if b then [] else ls) ≡ true
    named_unless true ls h = refl
    named_unless false ls h = h refl

    -- ---- an object
    module _ (y : Object) where
      abbrev Slots : List Location
      Slots = flat_map (unkept_field c o) y.fields

      abbrev Elements : List Location
      Elements = unkept_elements c o y.elements

      old_from : is_empty (unkept_of_old c o y) ≡ true → IsOldKept c o y
      old_from e =
          let f = empty_parts (((Slots ++ Elements) ++ unkept_level c o y) ++ unkept_committed c o y) (unkept_owner c o y) e in
          let d = empty_parts ((Slots ++ Elements) ++ unkept_level c o y) (unkept_committed c o y) f.0 in
          let b = empty_parts (Slots ++ Elements) (unkept_level c o y) d.0 in
          let a = empty_parts Slots Elements b.0 in
          record {
            fields = slots_from y.fields a.0;
            elements = λ i v is n.
                let at : 0 + i ≡ i = omega arith in
                subst (λ k. IsElementKept k v) at (elements_from 0 y.elements (unless_named (list_any (names_elements o) (all_named c)) (unkept_elements_from c o 0 y.elements) a.1 n) i v is);
            level = unless_true _ _ b.1;
            committed = unless_true _ _ d.1;
            owner = unless_true _ _ f.1;
          }

      old_to : IsOldKept c o y → is_empty (unkept_of_old c o y) ≡ true
      old_to h =
          empty_both (((Slots ++ Elements) ++ unkept_level c o y) ++ unkept_committed c o y) (unkept_owner c o y)
          (empty_both ((Slots ++ Elements) ++ unkept_level c o y) (unkept_committed c o y)
          (empty_both (Slots ++ Elements) (unkept_level c o y)
          (empty_both Slots Elements (slots_to y.fields h.fields)
          (named_unless (list_any (names_elements o) (all_named c)) (unkept_elements_from c o 0 y.elements) (λ n. elements_to 0 y.elements (λ k v is. let at : k ≡ 0 + k = omega arith in subst (λ i. IsElementKept i v) at (h.elements k v is n)))))
          (true_unless _ _ h.level))
          (true_unless _ _ h.committed))
          (true_unless _ _ h.owner)

      at_from : (b : Bool) → is_old c o ≡ b → is_empty (if b then unkept_of_old c o y else unkept_of_new c o y) ≡ true → IsKeptAt c o y
      at_from true is e = record { old = λ _. old_from e; new = λ n. absurd (false≢true (sym n ∙ is)) }
      at_from false is e = record { old = λ n. absurd (false≢true (sym is ∙ n)); new = λ _. unless_true _ _ e }

      at_to : (b : Bool) → is_old c o ≡ b → IsKeptAt c o y → is_empty (if b then unkept_of_old c o y else unkept_of_new c o y) ≡ true
      at_to true is h = old_to (h.old is)
      at_to false is h = true_unless _ _ (h.new is)

  -- ---- all objects

  from_objects : (o : ℕ) (ys : List Object) → is_empty (unkept_from c o ys) ≡ true → (k : ℕ) (y : Object) → slice_get ys k ≡ Some y → IsKeptAt c (o + k) y
  from_objects o [] e k y is = absurd (let no : ⊥ = cc in no)
  from_objects o (z ∷ ys) e zero y is =
      let p = empty_parts (unkept_at c o z) (unkept_from c (o + 1) ys) e in
      let same : z ≡ y = cc in
      let at : o ≡ o + 0 = omega arith in
      subst (λ n. IsKeptAt c n y) at (subst (IsKeptAt c o) same (at_from o z (is_old c o) refl p.0))
  from_objects o (z ∷ ys) e (suc k) y is =
      let at : o + 1 + k ≡ o + suc k = omega arith in
      subst (λ n. IsKeptAt c n y) at (from_objects (o + 1) ys (empty_parts (unkept_at c o z) (unkept_from c (o + 1) ys) e).1 k y is)

  to_objects : (o : ℕ) (ys : List Object) → ((k : ℕ) (y : Object) → slice_get ys k ≡ Some y → IsKeptAt c (o + k) y) → is_empty (unkept_from c o ys) ≡ true
  to_objects o [] h = refl
  to_objects o (z ∷ ys) h =
      let at : o + 0 ≡ o = omega arith in
      empty_both (unkept_at c o z) (unkept_from c (o + 1) ys) (at_to o z (is_old c o) refl (subst (λ n. IsKeptAt c n z) at (h 0 z refl)))
      (to_objects (o + 1) ys (λ k y is. let more : o + suc k ≡ o + 1 + k = omega arith in subst (λ n. IsKeptAt c n y) more (h (suc k) y is)))

  pub kept_from : is_kept c ≡ true → (o : ℕ) (y : Object) → slice_get c.now o ≡ Some y → IsKeptAt c o y
  kept_from e o y is = let at : 0 + o ≡ o = omega arith in subst (λ n. IsKeptAt c n y) at (from_objects 0 c.now e o y is)

  pub kept_to : ((o : ℕ) (y : Object) → slice_get c.now o ≡ Some y → IsKeptAt c o y) → is_kept c ≡ true
  kept_to h = to_objects 0 c.now (λ k y is. let at : k ≡ 0 + k = omega arith in subst (λ n. IsKeptAt c n y) at (h k y is))
