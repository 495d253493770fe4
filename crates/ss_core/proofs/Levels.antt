-- The levels of a class, one at a time.
use Rattle.std.proofs.Common.{◌≡◌, ◌≢◌, ℕ, suc, ◌+◌, ◌-◌, ◌<◌, ◌≤◌, List, [], Bool, true, false, ◌||◌, eqb, refl, sym, ◌∙◌, ap, arith, Some, None, ⊎_elim}
use Rattle.std.specs.Prelude.{if◌then◌else◌}
use Rattle.std.specs.List.{list_any}
use Rattle.std.proofs.lemmas.Bool.{cases_eq, eq-eqb, ne_eqb}
use Rattle.ss_core.specs.Tree.{ClassTree}
use Rattle.ss_core.specs.Chain.{above, level_above, levels_from, most_levels, levels, counts_as, sub, below}

any_if : (b : Bool) (p : ℕ → Bool) (xs : List ℕ) → list_any p (if b then [] else xs) ≡ (if b then false else list_any p xs)
any_if true p xs = refl
any_if false p xs = refl

-- one of the first n levels of c passes the test
abbrev pub passes : List ClassTree → (ℕ → Bool) → ℕ → ℕ → Bool
passes cs p n c = list_any p (levels_from cs n c)

pub passes-suc : (cs : List ClassTree) (p : ℕ → Bool) (n c : ℕ) → passes cs p (suc n) c ≡ (p c || (if eqb c 0 then false else passes cs p n (above cs c)))
passes-suc cs p n c = ap (λ b. p c || b) (any_if (eqb c 0) p (levels_from cs n (above cs c)))

-- the first level passes
pub passes_here : (cs : List ClassTree) (p : ℕ → Bool) (n c : ℕ) → p c ≡ true → passes cs p (suc n) c ≡ true
passes_here cs p n c h = rw (passes-suc cs p n c, h) refl

-- `object` is the last level
pub passes_last : (cs : List ClassTree) (p : ℕ → Bool) (n : ℕ) → p 0 ≡ false → passes cs p (suc n) 0 ≡ false
passes_last cs p n h = rw (passes-suc cs p n 0, h) refl

-- what passes is further up
pub passes_above : (cs : List ClassTree) (p : ℕ → Bool) (n c : ℕ) → c ≢ 0 → p c ≡ false → passes cs p (suc n) c ≡ passes cs p n (above cs c)
passes_above cs p n c nz h = rw (passes-suc cs p n c, h, ne_eqb c 0 nz) refl

pub sub-passes : (cs : List ClassTree) (c t : ℕ) → passes cs (counts_as cs t) 64 c ≡ sub cs c t
unfolding sub levels most_levels
sub-passes cs c t = refl

pub below-passes : (cs : List ClassTree) (c t : ℕ) → passes cs (λ level. eqb level t) 64 c ≡ below cs c t
unfolding below levels most_levels
below-passes cs c t = refl

-- ---- a walk that has made i of 64 steps, where `whole` says whether any level passes

pub found : (cs : List ClassTree) (p : ℕ → Bool) (i level : ℕ) (whole : Bool) → i < 64 → p level ≡ true → passes cs p (64 - i) level ≡ whole → true ≡ whole
found cs p i level whole l e h =
    let n : 64 - i ≡ suc (63 - i) = omega arith in
    let yes : passes cs p (64 - i) level ≡ true = rw n (passes_here cs p (63 - i) level e) in
    sym yes ∙ h

level_above-None : (cs : List ClassTree) (t : ℕ) → None ≡ level_above cs t → t ≡ 0
level_above-None cs t h =
    ⊎_elim
    (λ z. z)
    (λ nz. let h' : None ≡ Some (above cs t) = rw (ne_eqb t 0 nz) at h in cc)
    (cases_eq t 0)

pub ended : (cs : List ClassTree) (p : ℕ → Bool) (i level : ℕ) (whole : Bool) → i < 64 → p level ≡ false → None ≡ level_above cs level → passes cs p (64 - i) level ≡ whole → false ≡ whole
ended cs p i level whole l e last h =
    let n : 64 - i ≡ suc (63 - i) = omega arith in
    let z : level ≡ 0 = level_above-None cs level last in
    let e' : p 0 ≡ false = rw z at e in
    let no : passes cs p (64 - i) level ≡ false = rw (n, z) (passes_last cs p (63 - i) e') in
    sym no ∙ h

level_above-Some : (cs : List ClassTree) (t u : ℕ) → Some u ≡ level_above cs t → (t ≢ 0) × (u ≡ above cs t)
level_above-Some cs t u h =
    ⊎_elim
    (λ z. let h' : Some u ≡ None = rw (eq-eqb t 0 z) at h in absurd (let x : ⊥ = cc in x))
    (λ nz. let h' : Some u ≡ Some (above cs t) = rw (ne_eqb t 0 nz) at h in (nz, cc))
    (cases_eq t 0)

pub went_up : (cs : List ClassTree) (p : ℕ → Bool) (i level next : ℕ) (whole : Bool) → i < 64 → p level ≡ false → Some next ≡ level_above cs level → passes cs p (64 - i) level ≡ whole → passes cs p (64 - (i + 1)) next ≡ whole
went_up cs p i level next whole l e up h =
    let n : 64 - i ≡ suc (64 - (i + 1)) = omega arith in
    let u = level_above-Some cs level next up in
    let same : passes cs p (64 - i) level ≡ passes cs p (64 - (i + 1)) (above cs level) = rw n (passes_above cs p (64 - (i + 1)) level u.0 e) in
    rw u.1 (sym same ∙ h)

pub unfound : (cs : List ClassTree) (p : ℕ → Bool) (i level : ℕ) (whole : Bool) → 64 ≤ i → passes cs p (64 - i) level ≡ whole → false ≡ whole
unfound cs p i level whole l h =
    let n : 64 - i ≡ 0 = omega arith in
    let no : passes cs p (64 - i) level ≡ false = rw n refl in
    sym no ∙ h
