-- The table of the bodies of each class, body by body.
use Rattle.std.proofs.Common.{◌≡◌, ◌≢◌, ℕ, zero, suc, ◌+◌, ◌*◌, ◌<◌, ◌≤◌, List, [], ◌∷◌, ◌++◌, map, length, get_or, take, refl, ap, sym, subst, ◌∙◌, arith, Some, Bor, Bool, true, false, cond, ⊎_elim, set}
use Rattle.std.proofs.lemmas.List.{map-append, length-append, append-nil, take_more}
use Rattle.std.proofs.lemmas.List.Elements.{filter-append}
use Rattle.std.proofs.lemmas.Bool.{cases_eq, eq-eqb, ne_eqb}
use Rattle.std.proofs.Math.ListN.{length-set}
use Rattle.std.specs.Prelude.{◌==◌}
use Rattle.std.specs.Global.{Vec}
use Rattle.std.specs.List.{slice_get}
use Rattle.ss_core.specs.declared.body.Body.{Body}
use Rattle.ss_core.specs.Tree.{BodyTree}
use Rattle.ss_core.specs.View as view
use Rattle.ss_report_core.specs.Text.{bodies_of}
use Rattle.ss_report_core.specs.Groups.{trees, group_at, AreGroups}

-- ---- the bodies of a class

one_body : (t : ℕ) (b : BodyTree) (q : Bool) → (b.class == t) ≡ q → bodies_of t (b ∷ []) ≡ cond q (b ∷ []) []
one_body t b q e = ap (λ p. cond p (b ∷ []) []) e

-- a body of another class changes nothing
not_of : (t : ℕ) (bs : List BodyTree) (b : BodyTree) → b.class ≢ t → bodies_of t (bs ++ b ∷ []) ≡ bodies_of t bs
not_of t bs b h = filter-append (λ (x : BodyTree). x.class == t) bs (b ∷ []) ∙ ap (λ ys. bodies_of t bs ++ ys) (one_body t b false (ne_eqb b.class t h)) ∙ append-nil (bodies_of t bs)

-- a body of the class stands after the others
one_of : (t : ℕ) (bs : List BodyTree) (b : BodyTree) → b.class ≡ t → bodies_of t (bs ++ b ∷ []) ≡ bodies_of t bs ++ b ∷ []
one_of t bs b h = filter-append (λ (x : BodyTree). x.class == t) bs (b ∷ []) ∙ ap (λ ys. bodies_of t bs ++ ys) (one_body t b true (eq-eqb b.class t h))

-- ---- lists

front_get : {X : Type 0} (xs ys : List X) (k : ℕ) → k < length xs → slice_get (xs ++ ys) k ≡ slice_get xs k
front_get [] ys k h = absurd (omega arith)
front_get (x ∷ xs) ys zero h = refl
front_get (x ∷ xs) ys (suc k) h = front_get xs ys k (omega arith)

last_get : {X : Type 0} (xs : List X) (x : X) (k : ℕ) → k ≡ length xs → slice_get (xs ++ x ∷ []) k ≡ Some x
last_get [] x k h = ap (λ n. slice_get (x ∷ []) n) h
last_get (y ∷ xs) x zero h = absurd (omega arith)
last_get (y ∷ xs) x (suc k) h = last_get xs x k (omega arith)

get_set : {X : Type 0} (xs : List X) (k : ℕ) (x : X) → k < length xs → slice_get (set xs k x) k ≡ Some x
get_set [] k x h = absurd (omega arith)
get_set (y ∷ xs) zero x h = refl
get_set (y ∷ xs) (suc k) x h = get_set xs k x (omega arith)

get_other : {X : Type 0} (xs : List X) (j k : ℕ) (x : X) → k ≢ j → slice_get (set xs j x) k ≡ slice_get xs k
get_other [] j k x h = refl
get_other (y ∷ xs) zero zero x h = absurd (h refl)
get_other (y ∷ xs) zero (suc k) x h = refl
get_other (y ∷ xs) (suc j) zero x h = refl
get_other (y ∷ xs) (suc j) (suc k) x h = get_other xs j k x (λ e. h (ap suc e))

-- ---- the table

pub no_groups : AreGroups 0 [] []
no_groups = record { places = refl; each = λ k h. refl }

pub one_more_group : (n : ℕ) (gs : List (Vec (Bor Body))) (g : Vec (Bor Body)) → AreGroups n [] gs → g.items ≡ [] → AreGroups (n + 1) [] (gs ++ g ∷ [])
one_more_group n gs g are e = record {
  places = length-append gs (g ∷ []) ∙ ap (λ m. m + 1) are.places;
  each = λ k h. ⊎_elim
      (λ (same : k ≡ n). ap group_at (last_get gs g k (same ∙ sym are.places)) ∙ ap trees e)
      (λ (other : k ≢ n).
      let inside : k < length gs = omega (arith, are.places) in
      ap group_at (front_get gs (g ∷ []) k inside) ∙ are.each k (omega arith))
      (cases_eq k n);
}

-- a body of no declared class, or of one past the last, is left out
pub left_out : (count : ℕ) (bs : List BodyTree) (b : BodyTree) (gs : List (Vec (Bor Body))) → ((k : ℕ) → k < count → b.class ≢ 4 + 2 * k) → AreGroups count bs gs → AreGroups count (bs ++ b ∷ []) gs
left_out count bs b gs apart are = record {
  places = are.places;
  each = λ k h. are.each k h ∙ sym (not_of (4 + 2 * k) bs b (apart k h));
}

pub past_last : (count t j k : ℕ) → t ≡ 4 + 2 * j → count ≤ j → k < count → t ≢ 4 + 2 * k
past_last count t j k is past h same = absurd (omega arith)

-- a body stands after the others of its class
pub added : (count : ℕ) (bs : List BodyTree) (gs : List (Vec (Bor Body))) (j : ℕ) (b : Bor Body) (g more : Vec (Bor Body)) → (view.body b.now).class ≡ 4 + 2 * j → j < length gs → slice_get gs j ≡ Some g → more.items ≡ g.items ++ b ∷ []
    → AreGroups count bs gs → AreGroups count (bs ++ view.body b.now ∷ []) (set gs j more)
added count bs gs j b g more class_is inside is grown are =
    record {
      places = length-set gs j more ∙ are.places;
      each = λ k h. ⊎_elim
          (λ (same : k ≡ j).
          subst (λ n. group_at (slice_get (set gs j more) n) ≡ bodies_of (4 + 2 * n) (bs ++ view.body b.now ∷ [])) (sym same)
          (ap group_at (get_set gs j more inside)
          ∙ ap trees grown
          ∙ map-append (λ (x : Bor Body). view.body x.now) g.items (b ∷ [])
          ∙ ap (λ ys. ys ++ view.body b.now ∷ []) (sym (ap group_at is) ∙ are.each j (subst (λ n. n < count) same h))
          ∙ sym (one_of (4 + 2 * j) bs (view.body b.now) class_is)))
          (λ (other : k ≢ j).
          let apart : (view.body b.now).class ≢ 4 + 2 * k = λ e. other (omega arith) in
          ap group_at (get_other gs j k more other) ∙ are.each k h ∙ sym (not_of (4 + 2 * k) bs (view.body b.now) apart))
          (cases_eq k j);
    }

-- the same table, of the same bodies
pub groups_of : (count n : ℕ) (bs all : List BodyTree) (gs hs : List (Vec (Bor Body))) → n ≡ count → all ≡ bs → hs ≡ gs → AreGroups count bs gs → AreGroups n all hs
groups_of count n bs all gs hs count_is all_are same are =
    subst (λ m. AreGroups m all hs) (sym count_is) (subst (λ xs. AreGroups count xs hs) (sym all_are) (subst (λ ys. AreGroups count bs ys) (sym same) are))

-- the table of one body more
pub one_more_body : (count i : ℕ) (all : List Body) (b : Body) (gs : List (Vec (Bor Body))) → i < length all → b ≡ get_or all i b → AreGroups count (map view.body (take i all) ++ view.body b ∷ []) gs → AreGroups count (map view.body (take (i + 1) all)) gs
one_more_body count i all b gs inside is are =
    let e : map view.body (take (i + 1) all) ≡ map view.body (take i all) ++ view.body b ∷ [] =
    ap (map view.body) (take_more all i b inside)
    ∙ map-append view.body (take i all) (get_or all i b ∷ [])
    ∙ ap (λ (x : Body). map view.body (take i all) ++ view.body x ∷ []) (sym is) in
    subst (λ bs. AreGroups count bs gs) (sym e) are
