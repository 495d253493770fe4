-- Facts and their parts by the numbers of a bank.
use Rattle.std.proofs.Common.{◌≡◌, ℕ, ◌≤◌, List, [], ◌∷◌, length, false, Some, refl, sym, ◌∙◌, ap, subst, arith}
use Rattle.std.specs.Prelude.{slice_get, option_map}
use Rattle.std.proofs.lemmas.List.{length-map}
use Rattle.std.proofs.lemmas.Option.{slice_get-map, slice_get_within}
use Rattle.ss_logic.specs.Formulas.{Formula, And, Or, formulas_from, formula_list}
use Rattle.ss_logic.specs.Opened.{is_exists}
use Rattle.ss_logic_means.proofs.Matched.{none_is}
use Rattle.ss_terms.specs.declared.forms.FormulaId.{FormulaId}
use Rattle.ss_terms.specs.Forms.{Forms, formula_at, formulas_at, HasFormula}
use Rattle.ss_search_path.specs.declared.path.Path.{Path}
use Rattle.ss_search_path.specs.Paths.{known_on}
use Rattle.ss_search_path.specs.Standing.{parts_of}
use Rattle.ss_search_path.proofs.Missing.{missing}
use Rattle.ss_search_path.proofs.StandingFacts.{some_same}

listed_back : (fs : List Formula) → formula_list (formulas_from fs) ≡ fs
listed_back [] = refl
listed_back (f ∷ fs) = ap (λ xs. f ∷ xs) (listed_back fs)

-- ---- parts

pub and_read : (b : Forms) (f : FormulaId) (parts fs : List FormulaId) → fs ≡ parts → formula_at b f ≡ And (formulas_from (formulas_at b parts)) → (i : ℕ) (g : Formula) → slice_get (parts_of (formula_at b f)) i ≡ Some g → slice_get (formulas_at b fs) i ≡ Some g
and_read b f parts fs same form i g e = ap (λ xs. slice_get (formulas_at b xs) i) same ∙ ap (λ xs. slice_get xs i) (sym (ap parts_of form ∙ listed_back (formulas_at b parts))) ∙ e

pub or_read : (b : Forms) (f : FormulaId) (parts fs : List FormulaId) → fs ≡ parts → formula_at b f ≡ Or (formulas_from (formulas_at b parts)) → (i : ℕ) (g : Formula) → slice_get (parts_of (formula_at b f)) i ≡ Some g → slice_get (formulas_at b fs) i ≡ Some g
or_read b f parts fs same form i g e = ap (λ xs. slice_get (formulas_at b xs) i) same ∙ ap (λ xs. slice_get xs i) (sym (ap parts_of form ∙ listed_back (formulas_at b parts))) ∙ e

pub no_part : {P : Type 0} (f x : Formula) → f ≡ x → parts_of x ≡ [] → (i : ℕ) (g : Formula) → slice_get (parts_of f) i ≡ Some g → P
no_part f x form none i g e = none_is g (sym (ap (λ xs. slice_get xs i) (ap parts_of form ∙ none)) ∙ e)

-- ---- facts

module _ (b : Forms) (p : Path) (place : ℕ) where
  pub no_place : {P : Type 0} (fact : Formula) → length p.known.items ≤ place → slice_get (known_on b p) place ≡ Some fact → P
  no_place fact past e =
      let l = slice_get_within (known_on b p) place fact e in
      let n = length-map p.known.items (formula_at b) in
      let no : ⊥ = omega (arith, l, n, past) in
      absurd no

  pub fact_there : (f : FormulaId) → slice_get p.known.items place ≡ Some f → slice_get (known_on b p) place ≡ Some (formula_at b f)
  fact_there f at = slice_get-map (formula_at b) p.known.items place ∙ ap (option_map (formula_at b)) at

  pub fact_missing : (f : FormulaId) → slice_get p.known.items place ≡ Some f → (HasFormula b f → ⊥) → (fact : Formula) → slice_get (known_on b p) place ≡ Some fact → (parts_of fact ≡ []) × (is_exists fact ≡ false)
  fact_missing f at gone fact e =
      subst (λ (x : Formula). (parts_of x ≡ []) × (is_exists x ≡ false)) (some_same (slice_get (known_on b p) place) (formula_at b f) fact (fact_there f at) e) (missing b f gone)

pub no_among : {P : Type 0} (b : Forms) (fs : List FormulaId) (i : ℕ) (g : Formula) → length fs ≤ i → slice_get (formulas_at b fs) i ≡ Some g → P
no_among b fs i g past e =
    let l = slice_get_within (formulas_at b fs) i g e in
    let n = length-map fs (formula_at b) in
    let no : ⊥ = omega (arith, l, n, past) in
    absurd no
