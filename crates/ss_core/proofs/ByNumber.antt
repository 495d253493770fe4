-- Classes by what their numbers stand for.
use Rattle.std.proofs.Common.{◌≡◌, ℕ, not, sym, ap, subst, ◌∙◌, ⊎_elim, ◌+◌, ◌-◌, ◌*◌, ◌/◌, ◌%◌, ◌≤◌, ◌<◌, List, Bool, true, false, ◌&&◌, eqb, leb, refl, arith, Option, Some, None}
use Rattle.std.specs.Prelude.{if◌then◌else◌, slice_get, option_and_then, ◌==◌}
use Rattle.std.proofs.lemmas.Bool.{cases_lt, eqb-true, leb-true, le-leb}
use Rattle.std.proofs.lemmas.Bool.Decides.{eqb_tells}
use Rattle.ss_core.specs.Tree.{ClassTree}
use Rattle.ss_core.specs.Chain.{declared}
use Rattle.ss_core.specs.declared.class_kind.ClassKind.{ClassKind}
use Rattle.ss_core.specs.declared.class_kind.ClassKind.TheVariants as kind
use Rattle.ss_core.specs.Kinds.{kind_of, basic_kind, place_of, is_array, declared_place, is_array_number}

-- none of these is declared
basic : (a b c : Bool) → place_of (if a then kind.Object else if b then kind.Ints else if c then kind.Bools else kind.Objects) ≡ None
basic true b c = refl
basic false true c = refl
basic false false true = refl
basic false false false = refl

pub its_place : (t : ℕ) → place_of (kind_of t) ≡ declared_place t
its_place t = by (leb 4 t) (eqb (t % 2) 0)
  where
    by : (a b : Bool) → place_of (if a then (if b then kind.Declared ((t - 4) / 2) else kind.ArrayOf ((t - 4) / 2)) else basic_kind t) ≡ (if a && b then Some ((t - 4) / 2) else None)
    by true true = refl
    by true false = refl
    by false b = basic (t == 0) (t == 1) (t == 2)

-- which of these is an array
no_root : (a b : Bool) → is_array (if a then kind.Ints else if b then kind.Bools else kind.Objects) ≡ true
no_root true b = refl
no_root false true = refl
no_root false false = refl

basic_array : (t : ℕ) → is_array (basic_kind t) ≡ leb 1 t
basic_array t = ⊎_elim
    (λ d. let root : t ≡ 0 = d.1 in subst (λ n. is_array (basic_kind n) ≡ leb 1 n) (sym root) refl)
    (λ d. let some : 1 ≤ t = above d.1 in
    ap (λ b. is_array (if b then kind.Object else if t == 1 then kind.Ints else if t == 2 then kind.Bools else kind.Objects)) d.0
    ∙ no_root (t == 1) (t == 2) ∙ sym (le-leb 1 t some))
    (eqb_tells t 0)
  where
    above : (t ≡ 0 → ⊥) → 1 ≤ t
    above apart = ⊎_elim (λ (l : t < 1). absurd (apart (omega (arith, l)))) (λ (h : 1 ≤ t). h) (cases_lt t 1)

even_or_odd : (n : ℕ) → eqb (n % 2) 1 ≡ not (eqb (n % 2) 0)
even_or_odd n = ⊎_elim (λ e. let even : n % 2 ≡ 0 = e.1 in rw even refl) (λ e. let one : n % 2 ≡ 1 = odd e.1 in rw one refl) (eqb_tells (n % 2) 0)
  where
    odd : (n % 2 ≡ 0 → ⊥) → n % 2 ≡ 1
    odd apart = ⊎_elim (λ (l : n % 2 < 1). absurd (apart (omega (arith, l)))) (λ (h : 1 ≤ n % 2). omega (arith, h)) (cases_lt (n % 2) 1)

pub its_arrays : (t : ℕ) → is_array (kind_of t) ≡ is_array_number t
its_arrays t = by (leb 4 t) (eqb (t % 2) 0) refl
  where
    by : (a b : Bool) → eqb (t % 2) 0 ≡ b → is_array (if a then (if b then kind.Declared ((t - 4) / 2) else kind.ArrayOf ((t - 4) / 2)) else basic_kind t) ≡ (if a then t % 2 == 1 else leb 1 t)
    by true true h = sym (even_or_odd t ∙ ap not h)
    by true false h = sym (even_or_odd t ∙ ap not h)
    by false b h = basic_array t

pub declared_by_place : (cs : List ClassTree) (t : ℕ) → declared cs t ≡ option_and_then (slice_get cs) (declared_place t)
declared_by_place cs t = by (leb 4 t && eqb (t % 2) 0)
  where
    by : (b : Bool) → (if b then slice_get cs ((t - 4) / 2) else None) ≡ option_and_then (slice_get cs) (if b then Some ((t - 4) / 2) else None)
    by true = refl
    by false = refl

-- the number of the declared class at this place
pub number_of : (t k : ℕ) → declared_place t ≡ Some k → t ≡ 4 + 2 * k
number_of t k h = by (leb 4 t) (eqb (t % 2) 0) (λ high even. let l = leb-true 4 t high in let e = eqb-true (t % 2) 0 even in omega arith) h
  where
    by : (a b : Bool) → (a ≡ true → b ≡ true → t ≡ 4 + 2 * ((t - 4) / 2)) → (if a && b then Some ((t - 4) / 2) else None) ≡ Some k → t ≡ 4 + 2 * k
    by true true number e = let same : (t - 4) / 2 ≡ k = cc in let at = number refl refl in omega (arith, same, at)
    by true false number e = let no : ⊥ = cc in absurd no
    by false b number e = let no : ⊥ = cc in absurd no

pub place_of_number : (k : ℕ) → declared_place (4 + 2 * k) ≡ Some k
place_of_number k =
    let high : leb 4 (4 + 2 * k) ≡ true = le-leb 4 (4 + 2 * k) (omega arith) in
    let even : (4 + 2 * k) % 2 ≡ 0 = omega arith in
    let place : (4 + 2 * k - 4) / 2 ≡ k = omega arith in
    rw (high, even, place) refl
