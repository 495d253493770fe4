-- What formulas come out as, by their numbers.
use Rattle.std.proofs.Common.{◌≡◌, ℕ, zero, suc, ◌+◌, ◌<◌, List, [], ◌∷◌, ◌++◌, length, take, get_or, Bool, true, false, not, ◌||◌, ◌&&◌, refl, sym, ◌∙◌, ap, subst, ⊎_elim, ◌≢◌, Result, Ok, Err, Vec, Global, arith, if◌then◌else◌}
use Rattle.std.specs.Prelude.{IfOk}
use Rattle.std.specs.List.{list_any, list_all}
use Rattle.std.specs.Bool.{beq}
use Rattle.std.proofs.lemmas.Bool.{cases_eq, eq-eqb, ne_eqb}
use Rattle.std.proofs.lemmas.List.{map_push, take_more}
use Rattle.std.proofs.lemmas.List.Folds.{list_any-append, list_all-append}
use Rattle.ss_bit_set.specs.declared.bit_set.BitSet.{BitSet}
use Rattle.ss_bit_set.specs.Marked.{marked}
use Rattle.ss_paths.specs.Sets.{put, none}
use Rattle.ss_logic.specs.declared.Sort.{Sort}
use Rattle.ss_logic.specs.Formulas.{Formula, formulas_from}
use Rattle.ss_logic_countermodels.specs.Refuting.{Model, comes_out, all_come_true, some_comes_true}
use Rattle.ss_terms.specs.Lists.{SmallVec}
use Rattle.ss_terms.specs.declared.forms.TermId.{TermId}
use Rattle.ss_terms.specs.declared.forms.FormulaId.{FormulaId}
use Rattle.ss_terms.specs.declared.forms.Predicate as form
use Rattle.ss_terms.specs.declared.forms.Formula.TheVariants.{Literal as LiteralForm, And as AndForm, Or as OrForm, Forall as ForallForm, Exists as ExistsForm}
use Rattle.ss_terms.specs.Forms.{Forms, formula_at, formulas_at, IsFormulaForm}
use Rattle.ss_terms.proofs.Same.{formula_id}
use Rattle.ss_search_models.specs.declared.outcomes.Outcomes.{Outcomes}
use Rattle.ss_search_models.specs.Tellings.{told_of}
use Rattle.ss_search_models.specs.Found.{AreOutcomes, Finds}

pub nothing_known : (b : Forms) (m : Model) (o : Outcomes) → marked o.known ≡ none → AreOutcomes b m o
unfolding none
nothing_known b m o e = record { right = λ f k. absurd (off (sym (ap (λ s. s f.0) e) ∙ k)) }
  where
    off : false ≡ true → ⊥
    off x = cc

and_false : (v : Bool) → (v && false) ≡ false
and_false true = refl
and_false false = refl

or_true : (v : Bool) → (v || true) ≡ true
or_true true = refl
or_true false = refl

module _ (b : Forms) (m : Model) where
  pub kept_outcome : (o : Outcomes) (known trues : BitSet) (f : FormulaId) (v : Bool) → Finds b m o v (comes_out m (formula_at b f)) → marked known ≡ put f.0 true (marked o.known) → marked trues ≡ put f.0 v (marked o.trues) →
      Finds b m (record { known = known; trues = trues }) v (comes_out m (formula_at b f))
  unfolding put
  kept_outcome o known trues f v h k t = record {
    outcomes = record {
      right = λ g at.
          ⊎_elim
          (λ (same : f.0 ≡ g.0).
          ap (λ s. s g.0) t ∙ ap (λ x. if x then v else marked o.trues g.0) (eq-eqb f.0 g.0 same) ∙ h.is ∙ ap (λ i. comes_out m (formula_at b i)) (formula_id f g same))
          (λ (other : f.0 ≢ g.0).
          ap (λ s. s g.0) t ∙ ap (λ x. if x then v else marked o.trues g.0) (ne_eqb f.0 g.0 other)
          ∙ h.outcomes.right g (sym (ap (λ x. if x then true else marked o.known g.0) (ne_eqb f.0 g.0 other)) ∙ sym (ap (λ s. s g.0) k) ∙ at))
          (cases_eq f.0 g.0);
    };
    is = h.is;
  }

  pub ok_finds : {E : Type 0} (r : Result Bool E) (o : Outcomes) (x y : Bool) → x ≡ y → IfOk r (λ v. Finds b m o v x) → IfOk r (λ v. Finds b m o v y)
  ok_finds (Ok v) o x y e h = subst (Finds b m o v) e h
  ok_finds (Err z) o x y e h = tt

  pub ok_found : {E : Type 0} (r : Result Bool E) (o : Outcomes) (x : Bool) → IfOk r (λ v. Finds b m o v x) → IfOk r (λ v. v ≡ x)
  ok_found (Ok v) o x h = h.is
  ok_found (Err z) o x h = tt

  -- ---- parts

  all_true-map : (fs : List Formula) → all_come_true m (formulas_from fs) ≡ list_all (comes_out m) fs
  all_true-map [] = refl
  all_true-map (f ∷ fs) = ap (λ v. comes_out m f && v) (all_true-map fs)

  some_true-map : (fs : List Formula) → some_comes_true m (formulas_from fs) ≡ list_any (comes_out m) fs
  some_true-map [] = refl
  some_true-map (f ∷ fs) = ap (λ v. comes_out m f || v) (some_true-map fs)

  module _ (f : FormulaId) where
    pub outcome_of_and : (v : SmallVec FormulaId) → IsFormulaForm b f (AndForm v) → list_all (comes_out m) (formulas_at b v.items) ≡ comes_out m (formula_at b f)
    outcome_of_and v n = sym (all_true-map (formulas_at b v.items)) ∙ sym (ap (comes_out m) n.built)

    pub outcome_of_or : (v : SmallVec FormulaId) → IsFormulaForm b f (OrForm v) → list_any (comes_out m) (formulas_at b v.items) ≡ comes_out m (formula_at b f)
    outcome_of_or v n = sym (some_true-map (formulas_at b v.items)) ∙ sym (ap (comes_out m) n.built)

    pub outcome_of_literal : (h : Bool) (p : form.Predicate) (v : SmallVec TermId) (g : Formula) (t : Bool) → IsFormulaForm b f (LiteralForm h p v) → g ≡ told_of (formula_at b f) → t ≡ m.truth g → beq t h ≡ comes_out m (formula_at b f)
    outcome_of_literal h p v g t n told e = ap (λ x. beq x h) (e ∙ ap m.truth (told ∙ ap told_of n.built)) ∙ sym (ap (comes_out m) n.built)

    pub outcome_of_forall : (ss : Vec Sort Global) (g : FormulaId) (t : Bool) → IsFormulaForm b f (ForallForm ss g) → t ≡ m.truth (formula_at b f) → t ≡ comes_out m (formula_at b f)
    outcome_of_forall ss g t n e = e ∙ ap m.truth n.built ∙ sym (ap (comes_out m) n.built)

    pub outcome_of_exists : (ss : Vec Sort Global) (i : FormulaId) (g : Formula) (t : Bool) → IsFormulaForm b f (ExistsForm ss i) → g ≡ told_of (formula_at b f) → t ≡ m.truth g → not t ≡ comes_out m (formula_at b f)
    outcome_of_exists ss i g t n told e = ap not (e ∙ ap m.truth (told ∙ ap told_of n.built)) ∙ sym (ap (comes_out m) n.built)

  -- ---- a list

  taken : (fs : List FormulaId) (i : ℕ) (d : FormulaId) → i < length fs → formulas_at b (take (i + 1) fs) ≡ formulas_at b (take i fs) ++ formula_at b (get_or fs i d) ∷ []
  taken fs i d at = ap (formulas_at b) (take_more fs i d at) ∙ map_push (formula_at b) (take i fs) (get_or fs i d)

  pub all_next : (fs : List FormulaId) (i : ℕ) (d : FormulaId) (v : Bool) → i < length fs → list_all (comes_out m) (formulas_at b (take i fs)) ≡ true → v ≡ comes_out m (formula_at b (get_or fs i d)) → v ≡ true →
      list_all (comes_out m) (formulas_at b (take (i + 1) fs)) ≡ true
  all_next fs i d v at h e t =
      ap (list_all (comes_out m)) (taken fs i d at)
      ∙ list_all-append (comes_out m) (formulas_at b (take i fs)) (formula_at b (get_or fs i d) ∷ [])
      ∙ ap (λ x. x && (comes_out m (formula_at b (get_or fs i d)) && true)) h
      ∙ ap (λ x. x && true) (sym e ∙ t)

  pub some_next : (fs : List FormulaId) (i : ℕ) (d : FormulaId) (v : Bool) → i < length fs → list_any (comes_out m) (formulas_at b (take i fs)) ≡ false → v ≡ comes_out m (formula_at b (get_or fs i d)) → v ≡ false →
      list_any (comes_out m) (formulas_at b (take (i + 1) fs)) ≡ false
  some_next fs i d v at h e t =
      ap (list_any (comes_out m)) (taken fs i d at)
      ∙ list_any-append (comes_out m) (formulas_at b (take i fs)) (formula_at b (get_or fs i d) ∷ [])
      ∙ ap (λ x. x || (comes_out m (formula_at b (get_or fs i d)) || false)) h
      ∙ ap (λ x. x || false) (sym e ∙ t)

  -- one that comes out false is enough, and one that comes out true
  not_all : (fs : List FormulaId) (i : ℕ) (d : FormulaId) → i < length fs → comes_out m (formula_at b (get_or fs i d)) ≡ false → list_all (comes_out m) (formulas_at b fs) ≡ false
  not_all [] i d at h = absurd (omega arith)
  not_all (f ∷ fs) zero d at h = ap (λ x. x && list_all (comes_out m) (formulas_at b fs)) h
  not_all (f ∷ fs) (suc i) d at h = ap (λ x. comes_out m (formula_at b f) && x) (not_all fs i d (omega arith) h) ∙ and_false (comes_out m (formula_at b f))

  some_one : (fs : List FormulaId) (i : ℕ) (d : FormulaId) → i < length fs → comes_out m (formula_at b (get_or fs i d)) ≡ true → list_any (comes_out m) (formulas_at b fs) ≡ true
  some_one [] i d at h = absurd (omega arith)
  some_one (f ∷ fs) zero d at h = ap (λ x. x || list_any (comes_out m) (formulas_at b fs)) h
  some_one (f ∷ fs) (suc i) d at h = ap (λ x. comes_out m (formula_at b f) || x) (some_one fs i d (omega arith) h) ∙ or_true (comes_out m (formula_at b f))

  pub all_stopped : (fs : List FormulaId) (i : ℕ) (d : FormulaId) (o : Outcomes) (v : Bool) → i < length fs → Finds b m o v (comes_out m (formula_at b (get_or fs i d))) → v ≡ false → Finds b m o false (list_all (comes_out m) (formulas_at b fs))
  all_stopped fs i d o v at h e = record { outcomes = h.outcomes; is = sym (not_all fs i d at (sym h.is ∙ e)) }

  pub some_stopped : (fs : List FormulaId) (i : ℕ) (d : FormulaId) (o : Outcomes) (v : Bool) → i < length fs → Finds b m o v (comes_out m (formula_at b (get_or fs i d))) → v ≡ true → Finds b m o true (list_any (comes_out m) (formulas_at b fs))
  some_stopped fs i d o v at h e = record { outcomes = h.outcomes; is = sym (some_one fs i d at (sym h.is ∙ e)) }
