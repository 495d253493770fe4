-- Equalities that hold, and one more merge.
use Rattle.std.proofs.Common.{◌≡◌, ℕ, ◌≤◌, List, [], ◌∷◌, ◌++◌, length, take, Bool, true, false, not, Option, Some, None, refl, sym, ◌∙◌, ap, subst, inl, inr, ⊎_elim, arith}
use Rattle.std.specs.Prelude.{is_some, slice_get}
use Rattle.std.proofs.lemmas.Bool.{false≢true}
use Rattle.std.proofs.lemmas.List.{length_push, take_all}
use Rattle.ss_logic.specs.Terms.{Term, term_then, no_terms}
use Rattle.ss_logic.specs.Formulas.{Literal, Equal}
use Rattle.ss_terms.specs.declared.forms.TermId.{TermId}
use Rattle.ss_terms.specs.declared.forms.FormulaId.{FormulaId}
use Rattle.ss_terms.specs.Forms.{Forms, TermShape, term_at, formula_at, HasTerm}
use Rattle.ss_terms.specs.Apart.{AreApart}
use Rattle.ss_equality_rules.specs.declared.Merge.{Merge}
use Rattle.ss_equality_rules.specs.Equal.{IsEqual, Equations, AreFormsOf}
use Rattle.ss_equality_rules.proofs.Lists.{pushed}
use Rattle.ss_search_clashes.specs.declared.equalities.Equality.{Equality}
use Rattle.ss_search_clashes.specs.Numbered.{AreMerged}
use Rattle.ss_search_reached.specs.Known.{AreMergesWith}
use Rattle.ss_search_reached.proofs.Forms.{forms_once}
use Rattle.ss_search_reached.proofs.Kept.{begun_equal, last_merged, push_begins, merged_sides, merged_cons, more_merged}

-- ---- the sides of a formula

abbrev pub Says : Forms → FormulaId → Bool → TermId → TermId → Type 0
Says b f holds s t = formula_at b f ≡ Literal holds Equal (term_then (term_at b s) (term_then (term_at b t) no_terms))

held : (b : Bool) → not b ≡ false → b ≡ true
held true e = refl
held false e = absurd (false≢true (sym e))

lost : (b : Bool) → not b ≡ true → b ≡ false
lost true e = absurd (false≢true e)
lost false e = refl

pub holding_sides : (b : Forms) (f : FormulaId) (s : Equality) → Says b f s.holds s.left s.right → not s.holds ≡ false → Says b f true s.left s.right
holding_sides b f s is e = is ∙ ap (λ h. Literal h Equal (term_then (term_at b s.left) (term_then (term_at b s.right) no_terms))) (held s.holds e)

pub denied_sides : (b : Forms) (f : FormulaId) (s : Equality) → Says b f s.holds s.left s.right → not s.holds ≡ true → (x y : Term) → formula_at b f ≡ Literal true Equal (term_then x (term_then y no_terms)) → ⊥
denied_sides b f s is e x y k =
    let clash : Literal false Equal (term_then (term_at b s.left) (term_then (term_at b s.right) no_terms)) ≡ Literal true Equal (term_then x (term_then y no_terms)) =
    sym (is ∙ ap (λ h. Literal h Equal (term_then (term_at b s.left) (term_then (term_at b s.right) no_terms))) (lost s.holds e)) ∙ k in
    cc

-- ---- one more merge

pub still_equal : (old new : Equations) → new.terms ≡ old.terms → take (length old.merges) new.merges ≡ old.merges → (x y : ℕ) → IsEqual old.terms old.merges x y → IsEqual new.terms new.merges x y
still_equal old new t e x y h = subst (λ ts. IsEqual ts new.merges x y) (sym t) (begun_equal old.terms old.merges new.merges e h)

pub no_merge : (ms : List Merge) → take (length ms) ms ≡ ms
no_merge ms = take_all (length ms) ms (omega arith)

module _ (b : Forms) (apart : AreApart b) (old new : Equations) (s t : TermId) (because : ℕ) (old_forms : AreFormsOf b old.terms) (new_forms : AreFormsOf b new.terms) (e : new.merges ≡ old.merges ++ record { left = s; right = t; because = because } ∷ []) where
  abbrev last : Merge
  last = record { left = s; right = t; because = because }

  pub same_terms : new.terms ≡ old.terms
  same_terms = forms_once b apart new.terms old.terms new_forms old_forms

  pub begins : take (length old.merges) new.merges ≡ old.merges
  begins = push_begins old.merges new.merges last e

  pub are_equal : IsEqual new.terms new.merges s.0 t.0
  are_equal = last_merged new.terms old.merges new.merges last e

  -- with a formula that says so
  pub trial_merged : (known : List FormulaId) (f : FormulaId) → AreMerged b old.terms old.merges known → HasTerm b s → HasTerm b t → Says b f true s t → AreMerged b new.terms new.merges (f ∷ known)
  trial_merged known f merged hs ht is = merged_cons b new.terms new.merges f known
      (merged_sides b new.terms new.merges f s t hs ht is are_equal)
      (subst (λ ts. AreMerged b ts new.merges known) (sym same_terms) (more_merged b old.terms old.merges new.merges known begins merged))

  pub fewer : (mark : ℕ) → mark ≡ length old.merges → mark ≤ length new.merges
  fewer mark m = let l = length_push old.merges last in let k = ap length e in omega (arith, m, l, k)

  pub taken_back : (after : Equations) (mark : ℕ) → mark ≡ length old.merges → after ≡ record { terms = new.terms; merges = take mark new.merges } → after ≡ old
  taken_back after mark m u =
      u ∙ ap (λ (ts : List TermShape). let r : Equations = record { terms = ts; merges = take mark new.merges } in r) same_terms
      ∙ ap (λ (ms : List Merge). let r : Equations = record { terms = old.terms; merges = ms } in r) (ap (λ n. take n new.merges) m ∙ begins)

pub is_nothing : {A : Type 0} (o : Option A) (none : Bool) → is_some o ≡ not none → none ≡ true → o ≡ None
is_nothing None none e t = refl
is_nothing (Some x) none e t = absurd (false≢true (sym (e ∙ ap not t)))

-- ---- the reason of one more merge

pub one_reason : (b : Forms) (f : FormulaId) (s t : TermId) (because : ℕ) (old new : List Merge) → Says b f true s t → new ≡ old ++ record { left = s; right = t; because = because } ∷ [] → AreMergesWith b (formula_at b f) because old new
one_reason b f s t because old new is e k m at = ⊎_elim
    (λ before. inl before)
    (λ last. inr (subst (λ (n : Merge). (n.because ≡ because) × (formula_at b f ≡ Literal true Equal (term_then (term_at b n.left) (term_then (term_at b n.right) no_terms)))) last.1 (refl, is)))
    (pushed old (record { left = s; right = t; because = because }) m k (ap (λ ms. slice_get ms k) (sym e) ∙ at))
