-- What a candidate makes true, as formulas of the bank.
use Rattle.std.proofs.Common.{◌≡◌, ℕ, ◌+◌, ◌<◌, List, [], ◌∷◌, ◌++◌, length, get_or, take, map, Bool, true, Option, Some, None, sym, ◌∙◌, ap, subst, if◌then◌else◌}
use Rattle.std.specs.Prelude.{IfNone, is_some, not}
use Rattle.std.proofs.lemmas.Bool.{false≢true}
use Rattle.std.proofs.lemmas.List.{map_push, take_more}
use Rattle.ss_core.specs.Tree.{ClassTree}
use Rattle.ss_logic.specs.Formulas.{Formula, neg}
use Rattle.ss_linear_rules.specs.Two.{Two}
use Rattle.ss_logic_countermodels.specs.Refuting.{Model, as_told}
use Rattle.ss_terms.specs.declared.forms.FormulaId.{FormulaId}
use Rattle.ss_terms.specs.Forms.{Forms, formula_at, formulas_at, HasFormula, HasFormulas}

pub told_so : (m : Model) (f : Formula) (v : Bool) (g : Formula) → v ≡ m.truth f → g ≡ (if v then f else neg f) → g ≡ as_told m f
told_so m f v g is e = e ∙ ap (λ x. if x then f else neg f) is

pub formulas_pushed : (b : Forms) (old new : List FormulaId) (f : FormulaId) → new ≡ old ++ f ∷ [] → HasFormulas b old → HasFormula b f → HasFormulas b new
formulas_pushed b old new f is h k = subst (λ (fs : List FormulaId). HasFormulas b fs) (sym is) (pushed old h)
  where
    pushed : (fs : List FormulaId) → HasFormulas b fs → HasFormulas b (fs ++ f ∷ [])
    pushed [] h = (k, tt)
    pushed (g ∷ fs) h = (h.0, pushed fs h.1)

pub told_more : (b : Forms) (m : Model) (fs : List FormulaId) (i : ℕ) (d : FormulaId) (old new : List FormulaId) (f : FormulaId) → i < length fs → formulas_at b old ≡ map (as_told m) (formulas_at b (take i fs)) → new ≡ old ++ f ∷ [] → formula_at b f ≡ as_told m (formula_at b (get_or fs i d)) → formulas_at b new ≡ map (as_told m) (formulas_at b (take (i + 1) fs))
told_more b m fs i d old new f l h is e =
    ap (formulas_at b) is ∙ map_push (formula_at b) old f
    ∙ ap (λ gs. gs ++ formula_at b f ∷ []) h
    ∙ ap (λ g. map (as_told m) (formulas_at b (take i fs)) ++ g ∷ []) e
    ∙ sym (ap (λ gs. map (as_told m) (formulas_at b gs)) (take_more fs i d l) ∙ ap (map (as_told m)) (map_push (formula_at b) (take i fs) (get_or fs i d)) ∙ map_push (as_told m) (formulas_at b (take i fs)) (formula_at b (get_or fs i d)))

pub none_found : {X : Type 0} (o : Option X) (none : Bool) (P : Type 0) → is_some o ≡ not none → none ≡ true → IfNone o P → P
none_found None none P e t h = h
none_found (Some x) none P e t h = absurd (false≢true (sym (e ∙ ap not t)))

pub two_of : (cs : List ClassTree) (fs gs es hs : List Formula) → fs ≡ gs → es ≡ hs → Two cs (gs ++ hs) → Two cs (fs ++ es)
two_of cs fs gs es hs f e two = subst (λ (known : List Formula). Two cs known) (sym (ap (λ x. x ++ es) f ∙ ap (λ x. gs ++ x) e)) two
