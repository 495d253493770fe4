-- Negations are well formed where the formulas are, and tests over lists of parts.
use Rattle.std.proofs.Common.{◌≡◌, ℕ, zero, suc, ◌+◌, ◌<◌, List, [], ◌∷◌, ◌++◌, length, map, Bool, true, false, ◌&&◌, refl, sym, ◌∙◌, ap, subst, get_or, drop, arith}
use Rattle.std.proofs.lemmas.List.{drop_more}
use Rattle.ss_core.specs.Tree.{ClassTree}
use Rattle.ss_logic.specs.declared.Sort.{Sort}
use Rattle.std.specs.Prelude.{Result, IfOk}
use Rattle.ss_logic.specs.Terms.{Symbol, App, terms_from, takes, sort_of, is_well_sorted, are_well_sorted}
use Rattle.ss_terms.proofs.Sorted.{list_back}
use Rattle.ss_logic.specs.Formulas.{Predicate, takes_sorts, Formula, Formulas, Literal, And, Or, Forall, Exists, no_formulas, formula_then, formulas_from, is_well_formed, are_well_formed, are_bound_sorts, neg, neg_all}
use Rattle.ss_terms.specs.declared.forms.TermId.{TermId}
use Rattle.ss_terms.specs.declared.forms.FormulaId.{FormulaId}
use Rattle.ss_terms.specs.Forms.{Forms, term_at, terms_at, formula_at, formulas_at, AreTermsBelow, AreBelow}

mutual
  pub neg_formed : (cs : List ClassTree) (bound : List Sort) (f : Formula) → is_well_formed cs bound (neg f) ≡ is_well_formed cs bound f
  neg_formed cs bound (Literal s p ts) = refl
  neg_formed cs bound (And fs) = neg_all_formed cs bound fs
  neg_formed cs bound (Or fs) = neg_all_formed cs bound fs
  neg_formed cs bound (Forall ss f) = ap (λ b. are_bound_sorts ss && b) (neg_formed cs (bound ++ ss) f)
  neg_formed cs bound (Exists ss f) = ap (λ b. are_bound_sorts ss && b) (neg_formed cs (bound ++ ss) f)

  neg_all_formed : (cs : List ClassTree) (bound : List Sort) (fs : Formulas) → are_well_formed cs bound (neg_all fs) ≡ are_well_formed cs bound fs
  neg_all_formed cs bound no_formulas = refl
  neg_all_formed cs bound (formula_then f fs) =
      ap (λ b. b && are_well_formed cs bound (neg_all fs)) (neg_formed cs bound f) ∙ ap (λ b. is_well_formed cs bound f && b) (neg_all_formed cs bound fs)

pub AreTermsBelow-get : (n : ℕ) (ts : List TermId) (i : ℕ) (d : TermId) → AreTermsBelow n ts → i < length ts → (get_or ts i d).0 < n
AreTermsBelow-get n [] i d h at = absurd (omega arith)
AreTermsBelow-get n (t ∷ ts) zero d h at = h.0
AreTermsBelow-get n (t ∷ ts) (suc i) d h at = AreTermsBelow-get n ts i d h.1 (omega arith)

pub AreBelow-get : (n : ℕ) (fs : List FormulaId) (i : ℕ) (d : FormulaId) → AreBelow n fs → i < length fs → (get_or fs i d).0 < n
AreBelow-get n [] i d h at = absurd (omega arith)
AreBelow-get n (f ∷ fs) zero d h at = h.0
AreBelow-get n (f ∷ fs) (suc i) d h at = AreBelow-get n fs i d h.1 (omega arith)

-- one more part, in a loop over parts
module _ (cs : List ClassTree) (bound : List Sort) (b : Forms) where
  abbrev Sorted : List TermId → Bool
  Sorted ts = are_well_sorted cs bound (terms_from (terms_at b ts))

  abbrev Formed : List FormulaId → Bool
  Formed fs = are_well_formed cs bound (formulas_from (formulas_at b fs))

  pub sorted_next : (ts : List TermId) (i : ℕ) (d : TermId) (x : Bool) → i < length ts → x ≡ is_well_sorted cs bound (term_at b (get_or ts i d)) → Sorted (drop i ts) ≡ (x && Sorted (drop (i + 1) ts))
  sorted_next ts i d x h e = ap Sorted (drop_more ts i d h) ∙ ap (λ v. v && Sorted (drop (i + 1) ts)) (sym e)

  pub formed_next : (fs : List FormulaId) (i : ℕ) (d : FormulaId) (x : Bool) → i < length fs → x ≡ is_well_formed cs bound (formula_at b (get_or fs i d)) → Formed (drop i fs) ≡ (x && Formed (drop (i + 1) fs))
  formed_next fs i d x h e = ap Formed (drop_more fs i d h) ∙ ap (λ v. v && Formed (drop (i + 1) fs)) (sym e)

-- ---- what a form says of sorts

module _ (cs : List ClassTree) (bound : List Sort) (b : Forms) (f : Symbol) (ts : List TermId) where
  abbrev Applied : Bool
  Applied = is_well_sorted cs bound (App f (terms_from (terms_at b ts)))

  applied_parts : Applied ≡ (takes cs f (map (sort_of cs bound) (terms_at b ts)) && Sorted cs bound b ts)
  applied_parts = ap (λ us. takes cs f (map (sort_of cs bound) us) && Sorted cs bound b ts) (list_back (terms_at b ts))

  pub not_taken : (ss : List Sort) → ss ≡ map (sort_of cs bound) (terms_at b ts) → false ≡ takes cs f ss → false ≡ Applied
  not_taken ss e n = sym (applied_parts ∙ ap (λ us. takes cs f us && Sorted cs bound b ts) (sym e) ∙ ap (λ v. v && Sorted cs bound b ts) (sym n))

  pub taken : (ss : List Sort) → ss ≡ map (sort_of cs bound) (terms_at b ts) → true ≡ takes cs f ss → Sorted cs bound b ts ≡ Applied
  taken ss e n = sym (applied_parts ∙ ap (λ us. takes cs f us && Sorted cs bound b ts) (sym e) ∙ ap (λ v. v && Sorted cs bound b ts) (sym n))

pub if_ok_same : {E : Type 0} (r : Result Bool E) (x y : Bool) → x ≡ y → IfOk r (λ v. v ≡ x) → IfOk r (λ v. v ≡ y)
if_ok_same r x y e h = subst (λ z. IfOk r (λ v. v ≡ z)) e h

pub literal_formed : (cs : List ClassTree) (bound : List Sort) (b : Forms) (s : Bool) (p : Predicate) (ts us : List TermId) → us ≡ ts →
    (takes_sorts p (map (sort_of cs bound) (terms_at b us)) && Sorted cs bound b us) ≡ is_well_formed cs bound (Literal s p (terms_from (terms_at b ts)))
literal_formed cs bound b s p ts us e =
    ap (λ xs. takes_sorts p (map (sort_of cs bound) (terms_at b xs)) && Sorted cs bound b xs) e
    ∙ ap (λ xs. takes_sorts p (map (sort_of cs bound) xs) && Sorted cs bound b ts) (sym (list_back (terms_at b ts)))
