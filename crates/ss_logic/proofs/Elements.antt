-- A write of an element of a structure's store is that write of the array that it tables.
use Rattle.std.proofs.Common.{◌≡◌, ◌≢◌, ℕ, zero, suc, ◌+◌, ◌-◌, ℤ, pos, List, ◌∷◌, Bool, true, false, ◌&&◌, eqb, refl, sym, ◌∙◌, ap, arith}
use Rattle.std.specs.Prelude.{if◌then◌else◌, slice_set}
use Rattle.std.specs.Ordering.{int_eq}
use Rattle.std.proofs.lemmas.Bool.{false_from_ne_true, eqb-true}
use Rattle.std.proofs.lemmas.Bool.Decides.{Decides-int_eq}
use Rattle.ss_core.specs.declared.names.Ty.{Ty}
use Rattle.ss_core.specs.declared.names.Ty.TheVariants as ty
use Rattle.ss_core.specs.Tree.{ClassTree}
use Rattle.ss_store_rules.specs.declared.Value.{Value as ObjectValue}
use Rattle.ss_store_rules.specs.Store.{Object}
use Rattle.ss_store_rules.specs.Changes as change
use Rattle.ss_store_rules.specs.Changes.{element_type}
use Rattle.ss_logic.specs.Values.{reference, same_thing, Entry, Heap, Value, sort_of_value, Table}
use Rattle.ss_logic.specs.Changes.{changed, element_put}
use Rattle.ss_logic.specs.Terms.{sort_of_type}
use Rattle.ss_logic.specs.Objects.{object_value, content, elements_from, element_count, object_from, objects_of}
use Rattle.ss_logic.proofs.Changing.{objects_changed}
use Rattle.ss_logic.proofs.Writing.{content_here, content_apart, and_yes, and_first, and_second}

same_index : (a b : ℕ) → a ≡ b → int_eq (pos a) (pos b) ≡ true
same_index a b e = (Decides-int_eq (pos a) (pos b)).1 (ap pos e)

other_index : (a b : ℕ) → a ≢ b → int_eq (pos a) (pos b) ≡ false
other_index a b n = false_from_ne_true (int_eq (pos a) (pos b)) (λ t. let e : pos a ≡ pos b = (Decides-int_eq (pos a) (pos b)).0 t in let same : a ≡ b = cc in n same)

element_known : (t : ℕ) → element_type t ≡ ty.Null → ⊥
element_known t e = by (eqb t 1) (eqb t 2) (eqb t 3) e
  where
    by : (a b c : Bool) → (if a then ty.Int else if b then ty.Bool else if c then ty.Ref (record { 0 = 0 }) false else ty.Ref (record { 0 = t - 1 }) false) ≡ ty.Null → ⊥
    by true b c e = cc
    by false true c e = cc
    by false false true e = cc
    by false false false e = cc

object_with : Object → List ObjectValue → Object
object_with x ys = record x { elements = ys }

module _ (cs : List ClassTree) (table : Table) (h : Heap) (a i : ℕ) (v : Value) (sorted : sort_of_value v ≡ sort_of_type (element_type (table.class_of (reference a)))) where
  abbrev Put : ℕ → Entry → Entry
  Put q x = element_put (reference a) (pos i) v (reference q) x

  abbrev Here : ℕ → ℤ → Bool
  Here q j = same_thing (reference q) (reference a) && int_eq j (pos i)

  -- elements that aren't written
  kept_past : (q : ℕ) (x : Entry) (t : Ty) (k n : ℕ) → ((j : ℕ) → k + j ≢ i) → elements_from t (Put q x) k n ≡ elements_from t x k n
  kept_past q x t k zero other = refl
  kept_past q x t k (suc n) other =
      ap (λ z. z ∷ elements_from t (Put q x) (k + 1) n) (content_apart t (Here q) v x.elements (pos k) (and_second (eqb q a) (int_eq (pos k) (pos i)) (other_index k i (λ e. other 0 (omega (arith, e))))))
      ∙ ap (λ zs. content t x.elements (pos k) ∷ zs) (kept_past q x t (k + 1) n (λ j e. other (suc j) (omega (arith, e))))

  put_at : (q : ℕ) (x : Entry) (t : Ty) → (t ≡ ty.Null → ⊥) → sort_of_value v ≡ sort_of_type t → eqb q a ≡ true → (k n j : ℕ) → k + j ≡ i → elements_from t (Put q x) k n ≡ slice_set (elements_from t x k n) j (object_value v)
  put_at q x t known s at k zero j e = refl
  put_at q x t known s at k (suc n) zero e =
      ap (λ z. z ∷ elements_from t (Put q x) (k + 1) n) (content_here t (Here q) v x.elements (pos k) known s (and_yes (eqb q a) (int_eq (pos k) (pos i)) at (same_index k i (omega (arith, e)))))
      ∙ ap (λ zs. object_value v ∷ zs) (kept_past q x t (k + 1) n (λ j p. omega (arith, e, p)))
  put_at q x t known s at k (suc n) (suc j) e =
      ap (λ z. z ∷ elements_from t (Put q x) (k + 1) n) (content_apart t (Here q) v x.elements (pos k) (and_second (eqb q a) (int_eq (pos k) (pos i)) (other_index k i (λ p. omega (arith, e, p)))))
      ∙ ap (λ zs. content t x.elements (pos k) ∷ zs) (put_at q x t known s at (k + 1) n j (omega (arith, e)))

  kept_elsewhere : (q : ℕ) (x : Entry) (t : Ty) → eqb q a ≡ false → (k n : ℕ) → elements_from t (Put q x) k n ≡ elements_from t x k n
  kept_elsewhere q x t at k zero = refl
  kept_elsewhere q x t at k (suc n) =
      ap (λ z. z ∷ elements_from t (Put q x) (k + 1) n) (content_apart t (Here q) v x.elements (pos k) (and_first (eqb q a) (int_eq (pos k) (pos i)) at))
      ∙ ap (λ zs. content t x.elements (pos k) ∷ zs) (kept_elsewhere q x t at (k + 1) n)

  elements_put : (q : ℕ) (x : Entry) (n : ℕ) (b : Bool) → eqb q a ≡ b → (b ≡ true → q ≡ a) →
      elements_from (element_type (table.class_of (reference q))) (Put q x) 0 n ≡ (if b then slice_set (elements_from (element_type (table.class_of (reference q))) x 0 n) i (object_value v) else elements_from (element_type (table.class_of (reference q))) x 0 n)
  elements_put q x n true e is =
      let same : q ≡ a = is refl in
      put_at q x (element_type (table.class_of (reference q))) (element_known (table.class_of (reference q))) (sorted ∙ ap (λ y. sort_of_type (element_type (table.class_of (reference y)))) (sym same)) e 0 n i (omega arith)
  elements_put q x n false e is = kept_elsewhere q x (element_type (table.class_of (reference q))) e 0 n

  pub put_same : objects_of cs table (changed (element_put (reference a) (pos i) v) h) ≡ change.changed (change.element_written a i (object_value v)) (objects_of cs table h)
  unfolding object_with
  put_same =
      objects_changed cs table h (element_put (reference a) (pos i) v) (change.element_written a i (object_value v))
      (λ q x. ap (object_with (object_from cs table h q x)) (elements_put q x (element_count cs table q) (eqb q a) refl (eqb-true q a)))
