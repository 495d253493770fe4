-- What the formulas say of the stores.
use Rattle.std.proofs.Common.{◌≡◌, ◌↔◌, List, [], ◌∷◌, true, Result, Ok, Err, IfOk, sym, subst}
use Rattle.ss_core.specs.Tree.{ClassTree}
use Rattle.ss_logic.specs.declared.Sort.TheVariants as sort
use Rattle.ss_logic.specs.Values.{Structure}
use Rattle.ss_logic.specs.Terms.{Term, have_sorts}
use Rattle.ss_logic.specs.Formulas.{True}
use Rattle.ss_logic.specs.Frames.{CallTerms, kept, grown}
use Rattle.ss_logic.specs.FrameMeans.{IsKept, IsGrown, store_of}
use Rattle.ss_logic.specs.Sorted.{AreSorted}
use Rattle.ss_logic.proofs.Kept.{kept_from, kept_to, grown_from, grown_to}
use Rattle.ss_terms.specs.declared.forms.FormulaId.{FormulaId}
use Rattle.ss_terms.specs.Forms.{Forms, formula_at, HasFormula}

pub kept_means : (cs : List ClassTree) (s : Structure) (b : Forms) (f : FormulaId) (m : CallTerms) → AreSorted cs m → formula_at b f ≡ kept cs m → True cs s [] (formula_at b f) ↔ IsKept cs s m
kept_means cs s b f m sorted e = (λ t. kept_from cs s m sorted (subst (True cs s []) e t), λ k. subst (True cs s []) (sym e) (kept_to cs s m sorted k))

pub grown_means : (cs : List ClassTree) (s : Structure) (b : Forms) (f : FormulaId) (before after : Term) → have_sorts cs (sort.Store ∷ sort.Store ∷ []) (before ∷ after ∷ []) ≡ true → formula_at b f ≡ grown before after →
    True cs s [] (formula_at b f) ↔ IsGrown (store_of cs s before) (store_of cs s after)
grown_means cs s b f before after sorted e = (λ t. grown_from cs s before after sorted (subst (True cs s []) e t), λ k. subst (True cs s []) (sym e) (grown_to cs s before after sorted k))

-- ---- of what a call returns

pub made_kept_means : {E : Type 0} (r : Result FormulaId E) (cs : List ClassTree) (b : Forms) (m : CallTerms) → IfOk r (λ f. HasFormula b f × (formula_at b f ≡ kept cs m)) →
    IfOk r (λ f. (s : Structure) → AreSorted cs m → True cs s [] (formula_at b f) ↔ IsKept cs s m)
made_kept_means (Ok f) cs b m h = λ s sorted. kept_means cs s b f m sorted h.1
made_kept_means (Err z) cs b m h = tt

pub made_grown_means : {E : Type 0} (r : Result FormulaId E) (b : Forms) (before after : Term) → IfOk r (λ f. HasFormula b f × (formula_at b f ≡ grown before after)) →
    IfOk r (λ f. (cs : List ClassTree) (s : Structure) → have_sorts cs (sort.Store ∷ sort.Store ∷ []) (before ∷ after ∷ []) ≡ true → True cs s [] (formula_at b f) ↔ IsGrown (store_of cs s before) (store_of cs s after))
made_grown_means (Ok f) b before after h = λ cs s sorted. grown_means cs s b f before after sorted h.1
made_grown_means (Err z) b before after h = tt
