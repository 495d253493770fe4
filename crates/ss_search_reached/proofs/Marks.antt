-- What is marked is what is known, with one more formula and with one less.
use Rattle.std.proofs.Common.{◌≡◌, ◌≢◌, ℕ, ◌<◌, ◌≤◌, ◌*◌, List, [], ◌∷◌, ◌++◌, length, map, Bool, true, false, ◌||◌, eqb, refl, sym, ◌∙◌, ap, subst, ⊎_elim, arith}
use Rattle.std.specs.Prelude.{◌==◌, ◌↔◌, IsTrue, if◌then◌else◌}
use Rattle.std.specs.List.{Contains, IsDistinct, AllByRecursion, list_any}
use Rattle.std.proofs.lemmas.Bool.{true≢false, false≢true, eqb-true, eq-eqb, ne_eqb, or_cases}
use Rattle.std.proofs.lemmas.List.{map-append, length-map}
use Rattle.std.proofs.lemmas.List.Folds.{list_any-append}
use Rattle.std.proofs.lemmas.Map.Steps.{length-le_from_distinct_below}
use Rattle.ss_paths.specs.Sets.{put}
use Rattle.ss_bit_set.specs.declared.bit_set.BitSet.{BitSet}
use Rattle.ss_bit_set.specs.Marked.{marked}
use Rattle.ss_logic.specs.Equal.{same_formula, equal_formulas, same_formula_equal}
use Rattle.ss_terms.specs.declared.forms.FormulaId.{FormulaId}
use Rattle.ss_terms.specs.Forms.{Forms, formula_at, formulas_at, HasFormula, HasFormulas}
use Rattle.ss_terms.specs.Apart.{AreApart}
use Rattle.ss_rules_occurring.specs.Found.{AreMarked, formula_number}
use Rattle.ss_rules_occurring.proofs.Finding.{formula_numbers}
use Rattle.ss_logic.proofs.Lists.{any_at, any_from}

pub knows_right : (b : Forms) → AreApart b → (set : BitSet) (fs : List FormulaId) (f : FormulaId) (r : Bool) → HasFormulas b fs → HasFormula b f → AreMarked set (map formula_number fs) → r ≡ marked set f.0 →
    IsTrue r ↔ Contains (formulas_at b fs) (formula_at b f)
knows_right b apart set fs f r has h marks e =
    let same : r ≡ list_any (same_formula (formula_at b f)) (formulas_at b fs) = e ∙ marks f.0 ∙ formula_numbers b apart f h fs has in (
      λ t. let s = any_at (same_formula (formula_at b f)) (formulas_at b fs) (sym same ∙ t) in subst (Contains (formulas_at b fs)) (sym (equal_formulas (formula_at b f) s.0 s.2)) s.1,
      λ c. same ∙ any_from (same_formula (formula_at b f)) (formulas_at b fs) (formula_at b f) c (same_formula_equal (formula_at b f) (formula_at b f) refl),
    )

-- ---- one less

last_any : (p : ℕ → Bool) (xs : List ℕ) (x : ℕ) → list_any p (xs ++ x ∷ []) ≡ (list_any p xs || (p x || false))
last_any p xs x = list_any-append p xs (x ∷ [])

or_none : (a : Bool) → (a || (false || false)) ≡ a
or_none true = refl
or_none false = refl

or_last : (a : Bool) → (a || (true || false)) ≡ true
or_last true = refl
or_last false = refl

all_last : (P : ℕ → Type 0) (xs : List ℕ) (x : ℕ) → AllByRecursion P (xs ++ x ∷ []) → P x × AllByRecursion P xs
all_last P [] x h = (h.0, tt)
all_last P (y ∷ xs) x h = let r = all_last P xs x h.1 in (r.0, (h.0, r.1))

apart_back : (x y : ℕ) → eqb y x ≡ false → eqb x y ≡ false
apart_back x y h = ne_eqb x y (λ e. true≢false (sym (eq-eqb y x (sym e)) ∙ h))

pub front_distinct : (xs : List ℕ) (x : ℕ) → IsDistinct eqb (xs ++ x ∷ []) → IsDistinct eqb xs
unfolding IsDistinct
front_distinct [] x d = tt
front_distinct (y ∷ xs) x d = ((all_last (λ z. eqb y z ≡ false) xs x d.0).1, front_distinct xs x d.1)

-- the last number isn't among those before it
not_before : (xs : List ℕ) (x : ℕ) → IsDistinct eqb (xs ++ x ∷ []) → list_any (eqb x) xs ≡ false
unfolding IsDistinct
not_before [] x d = refl
not_before (y ∷ xs) x d = ap (λ b. b || list_any (eqb x) xs) (apart_back x y (all_last (λ z. eqb y z ≡ false) xs x d.0).0) ∙ not_before xs x d.1

pub marked_less : (set less : BitSet) (ns : List ℕ) (n : ℕ) → IsDistinct eqb (ns ++ n ∷ []) → marked less ≡ put n false (marked set) → AreMarked set (ns ++ n ∷ []) → AreMarked less ns
unfolding put
marked_less set less ns n d e h k = ap (λ s. s k) e ∙ by (eqb n k) refl
  where
    by : (b : Bool) → eqb n k ≡ b → (if b then false else marked set k) ≡ list_any (λ m. k == m) ns
    by true s = sym (subst (λ j. list_any (eqb j) ns ≡ false) (eqb-true n k s) (not_before ns n d))
    by false s = h k ∙ last_any (eqb k) ns n ∙ ap (λ b. list_any (eqb k) ns || (b || false)) (apart_back k n s) ∙ or_none (list_any (eqb k) ns)

-- the number of the last known formula is marked
pub last_marked : (set : BitSet) (ns : List ℕ) (n : ℕ) → AreMarked set (ns ++ n ∷ []) → marked set n ≡ true
last_marked set ns n h = h n ∙ last_any (eqb n) ns n ∙ ap (λ b. list_any (eqb n) ns || (b || false)) (eq-eqb n n refl) ∙ or_last (list_any (eqb n) ns)

-- ---- how many

below_any : (b : Forms) (fs : List FormulaId) (q : ℕ) → HasFormulas b fs → list_any (eqb q) (map formula_number fs) ≡ true → q < length b.formulas * 2
below_any b [] q h e = absurd (false≢true e)
below_any b (f ∷ fs) q h e = ⊎_elim
    (λ a. let same : q ≡ f.0 = eqb-true q f.0 a in omega (arith, same, h.0))
    (λ k. below_any b fs q h.1 k)
    (or_cases (eqb q f.0) (list_any (eqb q) (map formula_number fs)) e)

-- formulas that stand once are no more than there are
pub few_known : (b : Forms) (fs : List FormulaId) → HasFormulas b fs → IsDistinct eqb (map formula_number fs) → length fs ≤ length b.formulas * 2
few_known b fs h d =
    let l = length-le_from_distinct_below (map formula_number fs) (length b.formulas * 2) d (λ q e. below_any b fs q h e) in
    omega (arith, l, length-map fs formula_number)

pub less_has : (b : Forms) (fs : List FormulaId) (f : FormulaId) → HasFormulas b (fs ++ f ∷ []) → HasFormulas b fs
less_has b [] f h = tt
less_has b (g ∷ fs) f h = (h.0, less_has b fs f h.1)

-- the last formula is no longer known
pub less_once : (known front : List FormulaId) (f : FormulaId) → known ≡ front ++ f ∷ [] → IsDistinct eqb (map formula_number known) → IsDistinct eqb (map formula_number front ++ f.0 ∷ [])
less_once known front f e d = subst (IsDistinct eqb) (ap (map formula_number) e ∙ map-append formula_number front (f ∷ [])) d

pub less_listed : (set : BitSet) (known front : List FormulaId) (f : FormulaId) → known ≡ front ++ f ∷ [] → AreMarked set (map formula_number known) → AreMarked set (map formula_number front ++ f.0 ∷ [])
less_listed set known front f e h = subst (AreMarked set) (ap (map formula_number) e ∙ map-append formula_number front (f ∷ [])) h
