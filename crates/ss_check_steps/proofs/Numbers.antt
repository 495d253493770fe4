-- What lines do over numbers is what they do over formulas.
use Rattle.std.proofs.Common.{◌≡◌, ℕ, zero, suc, ◌+◌, ◌*◌, ◌<◌, List, [], ◌∷◌, length, take, drop, Option, Some, None, refl, sym, ◌∙◌, ap, subst, arith, get_or, Vec, Global, Result, Ok, Err}
use Rattle.std.specs.List.{slice_get}
use Rattle.std.specs.Prelude.{option_map, IfOk}
use Rattle.std.proofs.lemmas.List.{drop_more}
use Rattle.std.proofs.lemmas.Option.{slice_get-map}
use Rattle.std.proofs.lemmas.Bool.{ne_eqb, eq-eqb}
use Rattle.ss_logic.specs.Terms.{Term}
use Rattle.ss_logic.specs.Formulas.{Formula, formulas_from, formula_list}
use Rattle.ss_logic_means.specs.Steps.{part_at, part_of, other_side, walk, count_of, cases_of}
use Rattle.ss_terms.specs.Lists.{SmallVec}
use Rattle.ss_terms.specs.declared.forms.FormulaId.{FormulaId}
use Rattle.ss_terms.specs.declared.forms.Formula.TheVariants.{And as AndForm, Or as OrForm}
use Rattle.ss_terms.specs.Forms.{Forms, formula_at, formulas_at, HasFormula, HasFormulas, IsFormulaForm, IsFormulaNumber}
use Rattle.ss_terms.proofs.Trees.{AreBelow-more}
use Rattle.ss_check_steps.specs.Numbered.{AreNumbersOf}
use Rattle.ss_terms.specs.Numbered.{IsNumberOf}

pub HasFormulas-get : (b : Forms) (fs : List FormulaId) (i : ℕ) (f : FormulaId) → HasFormulas b fs → slice_get fs i ≡ Some f → HasFormula b f
HasFormulas-get b [] i f h e = cc
HasFormulas-get b (g ∷ fs) zero f h e = let same : g ≡ f = cc in subst (λ x. HasFormula b x) same h.0
HasFormulas-get b (g ∷ fs) (suc i) f h e = HasFormulas-get b fs i f h.1 e

pub HasFormulas-take : (b : Forms) (k : ℕ) (fs : List FormulaId) → HasFormulas b fs → HasFormulas b (take k fs)
HasFormulas-take b zero fs h = tt
HasFormulas-take b (suc k) [] h = tt
HasFormulas-take b (suc k) (f ∷ fs) h = (h.0, HasFormulas-take b k fs h.1)

pub known_number : (b : Forms) (fs : List FormulaId) (i : ℕ) → HasFormulas b fs → IsNumberOf b (slice_get fs i) (slice_get (formulas_at b fs) i)
known_number b [] i h = refl
known_number b (f ∷ fs) zero h = (h.0, refl)
known_number b (f ∷ fs) (suc i) h = known_number b fs i h.1

part_number : (b : Forms) (fs : List FormulaId) (j : ℕ) → HasFormulas b fs → IsNumberOf b (slice_get fs j) (part_at (formulas_from (formulas_at b fs)) j)
part_number b [] j h = refl
part_number b (f ∷ fs) zero h = (h.0, refl)
part_number b (f ∷ fs) (suc j) h = part_number b fs j h.1

pub part_and : (b : Forms) (f : FormulaId) (v : SmallVec FormulaId) (j : ℕ) (r : Option FormulaId) → HasFormula b f → IsFormulaForm b f (AndForm v) →
    r ≡ slice_get v.items j → IsNumberOf b r (part_of j (formula_at b f))
part_and b f v j r h n e = rw (e, n.built) (part_number b v.items j (AreBelow-more f.0 (length b.formulas * 2) (omega (arith, h)) v.items n.below))

slice_get-known : (b : Forms) (known : List FormulaId) (i : ℕ) → slice_get (formulas_at b known) i ≡ option_map (formula_at b) (slice_get known i)
slice_get-known b known i = slice_get-map (formula_at b) known i

module _ (b : Forms) (known : List FormulaId) (t : Term) (path : List ℕ) (k : ℕ) (in_path : k < length path) where
  pub walk_unknown : slice_get known (get_or path k 0) ≡ None → walk (formulas_at b known) t (drop k path) ≡ None
  walk_unknown e = rw (drop_more path k 0 in_path, slice_get-known b known (get_or path k 0), e) refl

  pub walk_stuck : (f : FormulaId) → slice_get known (get_or path k 0) ≡ Some f → other_side t (formula_at b f) ≡ None → walk (formulas_at b known) t (drop k path) ≡ None
  walk_stuck f e o = rw (drop_more path k 0 in_path, slice_get-known b known (get_or path k 0), e, o) refl

  pub walk_more : (f : FormulaId) (u : Term) → slice_get known (get_or path k 0) ≡ Some f → other_side t (formula_at b f) ≡ Some u →
      walk (formulas_at b known) t (drop k path) ≡ walk (formulas_at b known) u (drop (k + 1) path)
  walk_more f u e o = rw (drop_more path k 0 in_path, slice_get-known b known (get_or path k 0), e, o) refl

count_of-from : (fs : List Formula) → count_of (formulas_from fs) ≡ length fs
count_of-from [] = refl
count_of-from (f ∷ fs) = ap suc (count_of-from fs)

formula_list-from : (fs : List Formula) → formula_list (formulas_from fs) ≡ fs
formula_list-from [] = refl
formula_list-from (f ∷ fs) = ap (λ gs. f ∷ gs) (formula_list-from fs)

length-formulas_at : (b : Forms) (fs : List FormulaId) → length (formulas_at b fs) ≡ length fs
length-formulas_at b [] = refl
length-formulas_at b (f ∷ fs) = ap suc (length-formulas_at b fs)

pub cases_of_other : (b : Forms) (f : FormulaId) (k : ℕ) (v : SmallVec FormulaId) → IsFormulaForm b f (OrForm v) → (length v.items ≡ k → ⊥) → cases_of k (formula_at b f) ≡ None
cases_of_other b f k v n h = rw (n.built, count_of-from (formulas_at b v.items), length-formulas_at b v.items, ne_eqb (length v.items) k h) refl

cases_of_or : (b : Forms) (f : FormulaId) (k : ℕ) (v : SmallVec FormulaId) → HasFormula b f → IsFormulaForm b f (OrForm v) → length v.items ≡ k →
    HasFormulas b v.items × (cases_of k (formula_at b f) ≡ Some (formulas_at b v.items))
cases_of_or b f k v l n h = (
  AreBelow-more f.0 (length b.formulas * 2) (omega (arith, l)) v.items n.below,
  rw (n.built, count_of-from (formulas_at b v.items), length-formulas_at b v.items, eq-eqb (length v.items) k h, formula_list-from (formulas_at b v.items)) refl,
)

pub cases_copied : (b : Forms) (f : FormulaId) (k : ℕ) (v : SmallVec FormulaId) (w : Vec FormulaId Global) → HasFormula b f → IsFormulaForm b f (OrForm v) → length v.items ≡ k → w.items ≡ v.items →
    AreNumbersOf b (Some w) (cases_of k (formula_at b f))
cases_copied b f k v w l n h e = let p = cases_of_or b f k v l n h in (subst (HasFormulas b) (sym e) p.0, p.1 ∙ ap (λ fs. Some (formulas_at b fs)) (sym e))

-- the number of a formula, by the formula and by the number
pub as_number : {E : Type 0} (b : Forms) (o : Option Formula) (r : Result (Option FormulaId) E) → IfOk r (λ x. IsFormulaNumber b o x) → IfOk r (λ x. IsNumberOf b x o)
as_number b None (Ok x) h = rw h refl
as_number b (Some f) (Ok x) h = rw h.1 (h.2, ap Some (sym h.3))
as_number b o (Err e) h = tt
