-- Lists without repetition, and their sets of numbers.
use Rattle.std.proofs.Common.{◌≡◌, ℕ, ◌==◌, List, [], ◌∷◌, ◌++◌, map, Bool, true, false, ◌||◌, refl, sym, ◌∙◌, ap, subst, ⊎_elim, if◌then◌else◌, ◌≢◌}
use Rattle.std.specs.List.{list_any}
use Rattle.std.proofs.lemmas.List.{map_push}
use Rattle.std.proofs.lemmas.List.Folds.{list_any-append}
use Rattle.std.proofs.lemmas.Bool.{cases_eq, eq-eqb, ne_eqb}
use Rattle.ss_bit_set.specs.declared.bit_set.BitSet.{BitSet}
use Rattle.ss_bit_set.specs.Marked.{marked}
use Rattle.ss_paths.specs.Sets.{put, none}
use Rattle.ss_logic.specs.Equal.{same_term, same_formula}
use Rattle.ss_logic.specs.Occurring.{with_formula}
use Rattle.ss_terms.specs.declared.forms.TermId.{TermId}
use Rattle.ss_terms.specs.declared.forms.FormulaId.{FormulaId}
use Rattle.ss_terms.specs.Forms.{Forms, term_at, terms_at, formula_at, formulas_at, HasTerm, HasTerms, HasFormula, HasFormulas}
use Rattle.ss_terms.specs.Apart.{AreApart}
use Rattle.ss_terms.proofs.Longer.{HasFormulas-push, HasTerms-push}
use Rattle.ss_rules_occurring.specs.declared.found.FormulaList.{FormulaList}
use Rattle.ss_rules_occurring.specs.declared.found.TermList.{TermList}
use Rattle.ss_rules_occurring.specs.Found.{AreMarked, formula_number, term_number, formulas_of, terms_of, Holds, HoldsTerms, HasFound, HasFoundTerms}

-- ---- sets of numbers

picked : (same any : Bool) → (if same then true else any) ≡ (any || (same || false))
picked true true = refl
picked true false = refl
picked false true = refl
picked false false = refl

same_either_way : (n k : ℕ) → (n == k) ≡ (k == n)
same_either_way n k = ⊎_elim (λ (e : n ≡ k). eq-eqb n k e ∙ sym (eq-eqb k n (sym e))) (λ (ne : n ≢ k). ne_eqb n k ne ∙ sym (ne_eqb k n (λ h. ne (sym h)))) (cases_eq n k)

pub marked_none : (set : BitSet) → marked set ≡ none → AreMarked set []
unfolding none
marked_none set e k = ap (λ s. s k) e

pub marked_more : (set more : BitSet) (ns : List ℕ) (n : ℕ) → marked more ≡ put n true (marked set) → AreMarked set ns → AreMarked more (ns ++ n ∷ [])
unfolding put
marked_more set more ns n e h k =
    ap (λ s. s k) e
    ∙ ap (λ v. if v then true else marked set k) (same_either_way n k)
    ∙ ap (λ v. if k == n then true else v) (h k)
    ∙ picked (k == n) (list_any (λ m. k == m) ns)
    ∙ sym (list_any-append (λ m. k == m) ns (n ∷ []))

-- ---- a number is there exactly where its formula is

pub formula_numbers : (b : Forms) → AreApart b → (f : FormulaId) → HasFormula b f → (fs : List FormulaId) → HasFormulas b fs →
    list_any (λ n. f.0 == n) (map formula_number fs) ≡ list_any (same_formula (formula_at b f)) (formulas_at b fs)
formula_numbers b a f h [] hs = refl
formula_numbers b a f h (g ∷ gs) hs = let e = a.formulas f g h hs.0 in let r = formula_numbers b a f h gs hs.1 in cc

pub term_numbers : (b : Forms) → AreApart b → (t : TermId) → HasTerm b t → (ts : List TermId) → HasTerms b ts →
    list_any (λ n. t.0 == n) (map term_number ts) ≡ list_any (same_term (term_at b t)) (terms_at b ts)
term_numbers b a t h [] hs = refl
term_numbers b a t h (u ∷ us) hs = let e = a.terms t u h hs.0 in let r = term_numbers b a t h us hs.1 in cc

-- ---- adding

module _ (b : Forms) (a : AreApart b) where
  pub formula_there : (s : FormulaList) (f : FormulaId) (r : Bool) → HasFound b s → HasFormula b f → r ≡ marked s.numbers f.0 → r ≡ true → Holds b s (with_formula (formulas_of b s) (formula_at b f))
  formula_there s f r h at is e =
      let there = sym (formula_numbers b a f at s.list.items h.has) ∙ sym (h.marked f.0) ∙ sym is ∙ e in
      record { marked = h.marked; has = h.has; are = sym (ap (λ v. if v then formulas_of b s else formulas_of b s ++ formula_at b f ∷ []) there) }

  pub formula_added : (s after : FormulaList) (f : FormulaId) (r : Bool) → HasFound b s → HasFormula b f → r ≡ marked s.numbers f.0 → r ≡ false → after.list.items ≡ s.list.items ++ f ∷ [] → marked after.numbers ≡ put f.0 true (marked s.numbers) →
      Holds b after (with_formula (formulas_of b s) (formula_at b f))
  formula_added s after f r h at is e listed set =
      let there = sym (formula_numbers b a f at s.list.items h.has) ∙ sym (h.marked f.0) ∙ sym is ∙ e in
      record {
        marked = subst (λ fs. AreMarked after.numbers (map formula_number fs)) (sym listed) (rw map_push (marked_more s.numbers after.numbers (map formula_number s.list.items) f.0 set h.marked));
        has = subst (HasFormulas b) (sym listed) (HasFormulas-push b s.list.items f h.has at);
        are = ap (formulas_at b) listed ∙ map_push (formula_at b) s.list.items f ∙ sym (ap (λ v. if v then formulas_of b s else formulas_of b s ++ formula_at b f ∷ []) there);
      }

  pub term_is_new : (s : TermList) (t : TermId) (r : Bool) → HasFoundTerms b s → HasTerm b t → r ≡ marked s.numbers t.0 → r ≡ list_any (same_term (term_at b t)) (terms_of b s)
  term_is_new s t r h at is = is ∙ h.marked t.0 ∙ term_numbers b a t at s.list.items h.has

pub term_added : (b : Forms) (s after : TermList) (t : TermId) → HasFoundTerms b s → HasTerm b t → after.list.items ≡ s.list.items ++ t ∷ [] → marked after.numbers ≡ put t.0 true (marked s.numbers) →
    HoldsTerms b after (terms_of b s ++ term_at b t ∷ [])
term_added b s after t h at listed set =
    record {
      marked = subst (λ ts. AreMarked after.numbers (map term_number ts)) (sym listed) (rw map_push (marked_more s.numbers after.numbers (map term_number s.list.items) t.0 set h.marked));
      has = subst (HasTerms b) (sym listed) (HasTerms-push b s.list.items t h.has at);
      are = ap (terms_at b) listed ∙ map_push (term_at b) s.list.items t;
    }

pub none_found : (b : Forms) (s : FormulaList) → s.list.items ≡ [] → marked s.numbers ≡ none → Holds b s []
none_found b s listed set = record {
  marked = subst (λ fs. AreMarked s.numbers (map formula_number fs)) (sym listed) (marked_none s.numbers set);
  has = subst (HasFormulas b) (sym listed) tt;
  are = ap (formulas_at b) listed;
}

pub no_term_found : (b : Forms) (s : TermList) → s.list.items ≡ [] → marked s.numbers ≡ none → HoldsTerms b s []
no_term_found b s listed set = record {
  marked = subst (λ ts. AreMarked s.numbers (map term_number ts)) (sym listed) (marked_none s.numbers set);
  has = subst (HasTerms b) (sym listed) tt;
  are = ap (terms_at b) listed;
}
