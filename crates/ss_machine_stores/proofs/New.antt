-- New objects in the stores of a run.
use Rattle.std.proofs.Common.{◌≡◌, ℕ, suc, ◌+◌, ◌≤◌, List, [], ◌∷◌, ◌++◌, length, Bool, true, false, ◌&&◌, Option, Some, None, refl, sym, ◌∙◌, ap, subst, arith, append_assoc, inl, inr, ◌⊎◌}
use Rattle.std.specs.Prelude.{◌==◌, if◌then◌else◌, slice_get, is_some, flat_map, reverse}
use Rattle.std.specs.List.{list_all}
use Rattle.std.proofs.lemmas.Bool.{eq-eqb}
use Rattle.std.proofs.lemmas.List.Folds.{list_all-append}
use Rattle.ss_core.specs.Tree.{ClassTree}
use Rattle.ss_core.specs.Chain.{levels, DeclaredField, all_fields}
use Rattle.ss_store_rules.specs.declared.Value.{Value}
use Rattle.ss_store_rules.specs.Store.{Slot, Object, slot_value, default_value}
use Rattle.ss_store_rules.specs.Reads.{is_full}
use Rattle.ss_store_rules.specs.Changes.{type_of_field, field_type, slots_from, new_fields, new_object, new_object_of, new_array}
use Rattle.ss_store_rules.proofs.Objects.{each_pushed, length-pushed}
use Rattle.ss_store_rules.proofs.Defaults.{field_default}
use Rattle.ss_journal.specs.Shapes.{Segment}
use Rattle.ss_journal.specs.Saved.{counts}
use Rattle.ss_machine_saves.specs.Whole.{agrees_with, agrees, is_listed, AreCounted, AreWhole}
use Rattle.ss_machine_stores.proofs.Untouched.{same_self}

both : (a b : Bool) → a ≡ true → b ≡ true → (a && b) ≡ true
both true b e f = f
both false b e f = cc

either : (b : Bool) → (b ≡ true) ⊎ (b ≡ false)
either true = inl refl
either false = inr refl

-- ---- each slot of a new object has the default of its field

abbrev pub AreDefaults : List ClassTree → List Slot → Type 0
AreDefaults cs [] = Unit {0}
AreDefaults cs (y ∷ ys) = (y.content ≡ default_value (field_type cs y.field)) × AreDefaults cs ys

defaults-append : (cs : List ClassTree) (xs ys : List Slot) → AreDefaults cs xs → AreDefaults cs ys → AreDefaults cs (xs ++ ys)
defaults-append cs [] ys a b = b
defaults-append cs (x ∷ xs) ys a b = (a.0, defaults-append cs xs ys a.1 b)

defaults_if : (cs : List ClassTree) (b : Bool) (y : Slot) (ys : List Slot) → y.content ≡ default_value (field_type cs y.field) → AreDefaults cs ys → AreDefaults cs (if b then y ∷ ys else ys)
defaults_if cs true y ys e a = (e, a)
defaults_if cs false y ys e a = a

defaults_from : (cs : List ClassTree) (t n : ℕ) (ds : List DeclaredField) → ((k : ℕ) → slice_get ds k ≡ slice_get (all_fields cs) (n + k)) → AreDefaults cs (slots_from t n ds)
defaults_from cs t n [] h = tt
defaults_from cs t n (d ∷ ds) h =
    let z : n + 0 ≡ n = omega arith in
    let first : Some d ≡ slice_get (all_fields cs) n = rw z at (h 0) in
    let here : default_value d.field.ty ≡ default_value (field_type cs n) = ap (λ o. default_value (type_of_field o)) first in
    defaults_if cs (d.class == t) (record { field = n; content = default_value d.field.ty }) (slots_from t (n + 1) ds) here
    (defaults_from cs t (n + 1) ds (λ k. let m : n + 1 + k ≡ n + suc k = omega arith in rw m (h (suc k))))

defaults_all : (cs : List ClassTree) (ts : List ℕ) → AreDefaults cs (flat_map (λ t. slots_from t 0 (all_fields cs)) ts)
defaults_all cs [] = tt
defaults_all cs (t ∷ ts) = defaults-append cs (slots_from t 0 (all_fields cs)) (flat_map (λ u. slots_from u 0 (all_fields cs)) ts) (defaults_from cs t 0 (all_fields cs) (λ k. let z : 0 + k ≡ k = omega arith in rw z refl)) (defaults_all cs ts)

-- ---- so what is read of a field is what each of its slots has

some_slot : (before ys : List Slot) (y : Slot) → is_some (slot_value (before ++ y ∷ ys) y.field) ≡ true
some_slot [] ys y = rw (eq-eqb y.field y.field refl) refl
some_slot (b ∷ before) ys y = some_if (b.field == y.field) b.content (slot_value (before ++ y ∷ ys) y.field) (some_slot before ys y)
  where
    some_if : (c : Bool) (v : Value) (r : Option Value) → is_some r ≡ true → is_some (if c then Some v else r) ≡ true
    some_if true v r e = refl
    some_if false v r e = e

agree_by : (r : Option Value) (v w : Value) → is_some r ≡ true → v ≡ w → ((u : Value) → r ≡ Some u → u ≡ w) → agrees_with r v ≡ true
agree_by None v w some is each = cc
agree_by (Some u) v w some is each = subst (λ z. agrees_with (Some u) z ≡ true) (each u refl ∙ sym is) (same_self u)

defaults_agree : (cs : List ClassTree) (whole before ys : List Slot) → whole ≡ before ++ ys → AreDefaults cs ys → ((f : ℕ) (v : Value) → slot_value whole f ≡ Some v → v ≡ default_value (field_type cs f)) → list_all (λ y. agrees_with (slot_value whole y.field) y.content) ys ≡ true
defaults_agree cs whole before [] is d each = refl
defaults_agree cs whole before (y ∷ ys) is d each =
    let some : is_some (slot_value whole y.field) ≡ true = ap (λ xs. is_some (slot_value xs y.field)) is ∙ some_slot before ys y in
    both _ _
    (agree_by (slot_value whole y.field) y.content (default_value (field_type cs y.field)) some d.0 (each y.field))
    (defaults_agree cs whole (before ++ y ∷ []) ys (is ∙ sym (append_assoc before (y ∷ []) ys)) d.1 each)

new_agrees : (cs : List ClassTree) (t p : ℕ) → agrees (new_object cs t p) ≡ true
new_agrees cs t p = defaults_agree cs (new_fields cs t) [] (new_fields cs t) refl (defaults_all cs (reverse (levels cs t))) (field_default cs (reverse (levels cs t)))

-- ---- one object more

whole_pushed : (s : List Object) (z : Object) (gs : List Segment) (us : List ℕ) → AreWhole s gs us → agrees z ≡ true → (is_full z ≡ false → is_listed us (length s) ≡ true) → AreWhole (s ++ z ∷ []) gs us
whole_pushed s z gs us w agree listed = record {
  counted = more_counted (counts gs) (length s) (length (s ++ z ∷ [])) (let l = length-pushed s z in omega (arith, l)) w.counted;
  agree = list_all-append agrees s (z ∷ []) ∙ both _ _ w.agree (both _ _ agree refl);
  listed = each_pushed s z (λ q y. is_full y ≡ false → is_listed us q ≡ true) w.listed listed;
}
  where
    more_counted : (ns : List ℕ) (n m : ℕ) → n ≤ m → AreCounted ns n → AreCounted ns m
    more_counted [] n m l c = tt
    more_counted (k ∷ ns) n m l c = let a = c.0 in (omega (arith, a, l), c.1)

pub object_whole : (cs : List ClassTree) (s : List Object) (t : ℕ) (gs : List Segment) (us : List ℕ) → is_listed us (length s) ≡ true → AreWhole s gs us → AreWhole (new_object_of cs s t) gs us
object_whole cs s t gs us listed w = whole_pushed s (new_object cs t (length s)) gs us w (new_agrees cs t (length s)) (λ n. listed)

pub array_whole : (s : List Object) (t n : ℕ) (gs : List Segment) (us : List ℕ) → AreWhole s gs us → AreWhole (s ++ new_array t n (length s) ∷ []) gs us
array_whole s t n gs us w = whole_pushed s (new_array t n (length s)) gs us w refl (λ less. let full : (t == t) ≡ true = eq-eqb t t refl in cc)
