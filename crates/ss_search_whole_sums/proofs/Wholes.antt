-- Pairs of whole numbers of one class, and what closes a case with sums of them.
use Rattle.std.proofs.Common.{◌≡◌, ℕ, zero, suc, ◌<◌, List, [], ◌∷◌, length, true, Some, sym, ◌∙◌, subst}
use Rattle.std.specs.Prelude.{slice_get}
use Rattle.std.specs.List.{Contains}
use Rattle.ss_core.specs.Tree.{ClassTree}
use Rattle.ss_logic.specs.declared.Sort.TheVariants as sort
use Rattle.ss_logic.specs.Terms.{sort_of, is_well_sorted}
use Rattle.ss_logic.specs.Formulas.{Formula}
use Rattle.ss_logic.proofs.Truth.{equal_sorts}
use Rattle.ss_logic_means.specs.Sorts.{AreWellFormed}
use Rattle.ss_logic_means.proofs.Sorting.{more_formed}
use Rattle.ss_logic.specs.Occurring.{terms}
use Rattle.ss_logic_means.proofs.Formed.{each_formed, terms_sorted}
use Rattle.ss_terms.specs.declared.forms.TermId.{TermId}
use Rattle.ss_terms.specs.declared.forms.FormulaId.{FormulaId}
use Rattle.ss_terms.specs.Forms.{Forms, term_at, formulas_at, HasTerm}
use Rattle.ss_linear.specs.Contradictions.{equalities_at, HasPairs, Pairs}
use Rattle.ss_deriv.specs.declared.line.Line.{Line}
use Rattle.ss_equality_rules.specs.declared.Merge.{Merge}
use Rattle.ss_equality_rules.specs.Equal.{Equations, AreFormsOf, AreClassesOf}
use Rattle.ss_search_clashes.proofs.Sorts.{formed_equal}
use Rattle.ss_search_whole_sums.specs.Contradicting.{ArePairsEqual, CloseFacts}
use Rattle.ss_logic.proofs.Lists.{contains_head, contains_cons}
use Rattle.ss_search_reached.specs.Groups.{AreOfOneClass, IsWholeIn}
use Rattle.ss_search_reached.proofs.Lists.{contains_at}
use Rattle.ss_search_whole_sums.specs.WholeSums.{basic_ones, basic_places, CloseSums, CloseFormed}
use Rattle.ss_search_whole_sums.proofs.Basics.{ones_at, ones_formed}

-- ---- pairs

-- the terms of each pair are equal by the merges
pub pairs_equal : (b : Forms) (c : Equations) (classes : List ℕ) (ps : Pairs) → AreFormsOf b c.terms → AreClassesOf c.terms c.merges classes → HasPairs b ps → AreOfOneClass classes ps → ArePairsEqual c ps
pairs_equal b c classes ps forms are has one = record {
  equal = λ i p e.
      let h = pair_at ps i p has e in
      (are p.0.0 p.1.0 (in_terms p.0 h.0) (in_terms p.1 h.1)).0 (one.one_class p (contains_at ps i p e));
}
  where
    in_terms : (t : TermId) → HasTerm b t → t.0 < length c.terms
    in_terms t h = subst (λ (n : ℕ). t.0 < n) (sym forms.all) h

    pair_at : (qs : Pairs) (i : ℕ) (p : TermId × TermId) → HasPairs b qs → slice_get qs i ≡ Some p → HasTerm b p.0 × HasTerm b p.1
    pair_at [] i p h e = cc
    pair_at (q ∷ qs) zero p h e = let same : q ≡ p = cc in subst (λ (r : TermId × TermId). HasTerm b r.0 × HasTerm b r.1) same h.0
    pair_at (q ∷ qs) (suc i) p h e = pair_at qs i p h.1 e

module _ (cs : List ClassTree) (b : Forms) (fs : List Formula) (formed : AreWellFormed cs [] fs) where
  whole_sorted : (t : TermId) → IsWholeIn cs b (terms fs) t → (sort_of cs [] (term_at b t) ≡ sort.Whole) × (is_well_sorted cs [] (term_at b t) ≡ true)
  whole_sorted t h = (equal_sorts (sort_of cs [] (term_at b t)) sort.Whole h.whole, terms_sorted cs fs (each_formed cs [] fs formed) (term_at b t) h.within)

  pub pairs_formed : (ps : Pairs) → ((p : TermId × TermId) → Contains ps p → IsWholeIn cs b (terms fs) p.0 × IsWholeIn cs b (terms fs) p.1) → AreWellFormed cs [] (equalities_at b ps)
  pairs_formed [] only = tt
  pairs_formed (p ∷ ps) only =
      let r = only p (contains_head p ps) in
      let x = whole_sorted p.0 r.0 in
      let y = whole_sorted p.1 r.1 in
      (formed_equal cs (term_at b p.0) (term_at b p.1) (x.0 ∙ sym y.0) x.1 y.1, pairs_formed ps (λ q c. only q (contains_cons p ps q c)))

-- ---- what closes a case

pub closes_formed : (cs : List ClassTree) (b : Forms) (ms : List Merge) (count : ℕ) (facts : List FormulaId) (places : List ℕ) (ps : Pairs) (lines : List Line) →
    ((p : TermId × TermId) → Contains ps p → IsWholeIn cs b (terms (formulas_at b facts)) p.0 × IsWholeIn cs b (terms (formulas_at b facts)) p.1) → CloseFacts cs b ms count facts places ps lines → CloseFormed cs b ms count facts places lines
closes_formed cs b ms count facts places ps lines only close = record {
  closes = λ premises goal known are at formed.
      close.closes premises goal known are at (more_formed cs [] (formulas_at b facts) (equalities_at b ps) formed (pairs_formed cs b (formulas_at b facts) formed ps only));
}

pub closes_shown : (cs : List ClassTree) (b : Forms) (ms : List Merge) (count : ℕ) (fs : List FormulaId) (places : List ℕ) (lines : List Line) → length places ≡ length fs →
    CloseFormed cs b ms count (basic_ones b fs) (basic_places b fs places) lines → CloseSums cs b ms count fs places lines
closes_shown cs b ms count fs places lines l close = record {
  closes = λ premises goal known are shown. close.closes premises goal known are (ones_at b cs known fs places l shown) (ones_formed b cs known fs places l shown);
}
