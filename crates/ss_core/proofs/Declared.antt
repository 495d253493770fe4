-- Numbers of declared classes.
use Rattle.std.proofs.Common.{◌≡◌, ℕ, ◌+◌, ◌-◌, ◌*◌, ◌/◌, ◌%◌, ◌≤◌, List, length, Bool, true, false, ◌&&◌, eqb, leb, refl, arith, Option, Some, None, ⊎_elim}
use Rattle.std.specs.Prelude.{if◌then◌else◌, slice_get, is_some}
use Rattle.std.proofs.lemmas.Bool.{eqb-true, leb-true, le-leb, lt-leb}
use Rattle.std.proofs.lemmas.Option.{slice_get_cases}
use Rattle.ss_core.specs.Tree.{ClassTree}
use Rattle.ss_core.specs.Chain.{is_declared, declared, above}

pub declared_at : (cs : List ClassTree) (k : ℕ) → declared cs (4 + 2 * k) ≡ slice_get cs k
declared_at cs k =
    let high : leb 4 (4 + 2 * k) ≡ true = le-leb 4 (4 + 2 * k) (omega arith) in
    let even : (4 + 2 * k) % 2 ≡ 0 = omega arith in
    let place : (4 + 2 * k - 4) / 2 ≡ k = omega arith in
    rw (high, even, place) refl

pub above_undeclared : (cs : List ClassTree) (t : ℕ) → declared cs t ≡ None → above cs t ≡ 0
above_undeclared cs t h = rw h refl

under : {X : Type 0} (a b c : Bool) (o : Option X) → (a ≡ true → b ≡ true → c ≡ is_some o) → (a && b && c) ≡ is_some (if a && b then o else None)
under true true c o h = h refl refl
under true false c o h = refl
under false b c o h = refl

within : {X : Type 0} (xs : List X) (t : ℕ) → 4 ≤ t → t % 2 ≡ 0 → leb (t + 1) (4 + 2 * length xs) ≡ is_some (slice_get xs ((t - 4) / 2))
within xs t high even =
    ⊎_elim
    (λ p. let low = p.1 in rw p.2 (le-leb (t + 1) (4 + 2 * length xs) (omega arith)))
    (λ p. let past = p.0 in rw p.1 (lt-leb (t + 1) (4 + 2 * length xs) (omega arith)))
    (slice_get_cases xs ((t - 4) / 2)).1

pub is_declared-declared : (cs : List ClassTree) (t : ℕ) → is_declared cs t ≡ is_some (declared cs t)
is_declared-declared cs t = under (leb 4 t) (eqb (t % 2) 0) (leb (t + 1) (4 + 2 * length cs)) (slice_get cs ((t - 4) / 2)) (λ high even. within cs t (leb-true 4 t high) (eqb-true (t % 2) 0 even))

-- a declared class stands at a place of the list
pub declared_place : (cs : List ClassTree) (t : ℕ) (c : ClassTree) → declared cs t ≡ Some c → (k : ℕ) × (t ≡ 4 + 2 * k) × (slice_get cs k ≡ Some c)
declared_place cs t c h = place (leb 4 t) (eqb (t % 2) 0) (λ high even. let l = leb-true 4 t high in let e = eqb-true (t % 2) 0 even in omega arith) h
  where
    place : (a b : Bool) → (a ≡ true → b ≡ true → t ≡ 4 + 2 * ((t - 4) / 2)) → (if a && b then slice_get cs ((t - 4) / 2) else None) ≡ Some c → (k : ℕ) × (t ≡ 4 + 2 * k) × (slice_get cs k ≡ Some c)
    place true true number e = ((t - 4) / 2, number refl refl, e)
    place true false number e = let no : ⊥ = cc in absurd no
    place false b number e = let no : ⊥ = cc in absurd no
