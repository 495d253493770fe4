-- A number that the bank doesn't have stands for an empty `and` or `or`.
use Rattle.std.proofs.Common.{◌≡◌, ℕ, zero, suc, ◌+◌, ◌*◌, ◌/◌, ◌%◌, ◌<◌, ◌≤◌, List, [], ◌∷◌, ◌++◌, length, get_or, false, refl, sym, subst, ⊎_elim, arith}
use Rattle.std.proofs.lemmas.List.{length_push, get_or_past}
use Rattle.std.proofs.lemmas.Bool.{cases_lt}
use Rattle.std.proofs.lemmas.Nat.{div-add-mod', mod_below}
use Rattle.ss_logic.specs.Formulas.{Formula}
use Rattle.ss_logic.specs.Opened.{is_exists}
use Rattle.ss_terms_interned.specs.Interned.{trees_from, tree_at}
use Rattle.ss_terms.specs.declared.forms.FormulaId.{FormulaId}
use Rattle.ss_terms.specs.Forms.{Forms, term_at, with_sign, build_formula, nothing, pair_at, formula_at, HasFormula}
use Rattle.ss_search_path.specs.Standing.{parts_of}

many : {N T : Type 0} (junk : T) (build : (ℕ → T) → N → T) (ts : List T) (ns : List N) → length (trees_from junk build ts ns) ≡ length ts + length ns
many junk build ts [] = omega arith
many junk build ts (n ∷ ns) =
    let x = build (λ t. get_or ts t junk) n in
    let e = many junk build (ts ++ x ∷ []) ns in
    let l = length_push ts x in
    omega arith

past : {N T : Type 0} (junk : T) (build : (ℕ → T) → N → T) (ns : List N) (k : ℕ) → length ns ≤ k → tree_at junk build ns k ≡ junk
unfolding tree_at
past junk build ns k h = get_or_past (trees_from junk build [] ns) k junk (let e = many junk build [] ns in omega arith)

empty_form : (n : ℕ) → (parts_of (with_sign n nothing) ≡ []) × (is_exists (with_sign n nothing) ≡ false)
empty_form zero = (refl, refl)
empty_form (suc n) = (refl, refl)

whole_below : (n k : ℕ) → k / 2 < n → k < n * 2
whole_below n k l =
    let whole = div-add-mod' k 2 in
    let small : k % 2 < 2 = mod_below k 2 (omega arith) in
    omega arith

half_past : (n k : ℕ) → (k < n * 2 → ⊥) → n ≤ k / 2
half_past n k above = ⊎_elim (λ l. absurd (above (whole_below n k l))) (λ h. h) (cases_lt (k / 2) n)

pub missing : (b : Forms) (f : FormulaId) → (HasFormula b f → ⊥) → (parts_of (formula_at b f) ≡ []) × (is_exists (formula_at b f) ≡ false)
missing b f gone =
    let far : length b.formulas ≤ f.0 / 2 = half_past (length b.formulas) f.0 gone in
    let none : pair_at b (f.0 / 2) ≡ nothing = past nothing (build_formula (term_at b)) b.formulas (f.0 / 2) far in
    subst (λ (x : Formula). (parts_of (with_sign (f.0 % 2) x) ≡ []) × (is_exists (with_sign (f.0 % 2) x) ≡ false)) (sym none) (empty_form (f.0 % 2))
