-- What choices make known, as formulas of a bank.
use Rattle.std.proofs.Common.{◌≡◌, ℕ, zero, suc, ◌+◌, ◌<◌, List, [], ◌∷◌, ◌++◌, map, take, Some, sym, ◌∙◌, ap, subst}
use Rattle.std.specs.Prelude.{slice_get}
use Rattle.std.proofs.lemmas.List.{map_push, take_more}
use Rattle.std.proofs.lemmas.Option.{slice_get_within, get_or_from_slice_get}
use Rattle.ss_logic.specs.declared.Sort.{Sort}
use Rattle.ss_logic.specs.Terms.{Term}
use Rattle.ss_logic.specs.Formulas.{Formula, Or, Exists, formulas_from, neg, put}
use Rattle.ss_logic_means.specs.Origins as words
use Rattle.ss_logic_means.specs.Origins.{opened_at, chosen_at}
use Rattle.ss_logic_means.proofs.Matched.{none_is}
use Rattle.ss_terms.specs.declared.forms.FormulaId.{FormulaId}
use Rattle.ss_terms.specs.Forms.{Forms, terms_at, formula_at, formulas_at, HasFormula, HasFormulas, HasTerms, AreBelow, IsGrown}
use Rattle.ss_terms.proofs.Grown.{HasFormula-grown, formulas_at-grown, terms_at-grown}
use Rattle.ss_rules_opened.specs.declared.opening.Choice.{Choice}
use Rattle.ss_rules_opened.specs.Choices.{choice_of, choice_at, choices_at, HasChoices}
use Rattle.ss_search_path.proofs.Forms.{opened_here}
use Rattle.ss_search_procedure.specs.declared.choosing.Said.{Said}
use Rattle.ss_search_procedure.specs.Starting.{IsSaid}

-- ---- one choice

pub either_is : (b : Forms) (parts : List FormulaId) (none body : FormulaId) (w : Formula) → parts ≡ none ∷ body ∷ [] → formula_at b none ≡ neg w → Or (formulas_from (formulas_at b parts)) ≡ Or (formulas_from (neg w ∷ formula_at b body ∷ []))
either_is b parts none body w e is = ap (λ fs. Or (formulas_from (formulas_at b fs))) e ∙ ap (λ x. Or (formulas_from (x ∷ formula_at b body ∷ []))) is

pub has_both : (n : ℕ) (parts : List FormulaId) (none body : FormulaId) → parts ≡ none ∷ body ∷ [] → none.0 < n → body.0 < n → AreBelow n parts
has_both n parts none body e h k = subst (AreBelow n) (sym e) (h, (k, tt))

pub exists_said : (a m b : Forms) (whole body : FormulaId) (ts : List Term) (ss : List Sort) → formula_at a whole ≡ Exists ss (formula_at a body) → formula_at m whole ≡ formula_at a whole →
    (made : FormulaId) → formula_at m made ≡ put ts (formula_at a body) → HasFormula m made → IsGrown m b → (f : FormulaId) → HasFormula b f → formula_at b f ≡ Or (formulas_from (neg (formula_at m whole) ∷ formula_at m made ∷ [])) →
    (s : Said) → s.formula ≡ f → s.body ≡ made → IsSaid b s (choice_of (formula_at a whole) ts)
exists_said a m b whole body ts ss form same made is has grown f has_f at s is_f is_made = record {
  has_formula = subst (HasFormula b) (sym is_f) has_f;
  formula = ap (formula_at b) is_f ∙ at ∙ ap (λ x. Or (formulas_from (neg x ∷ formula_at m made ∷ []))) (same ∙ form) ∙ ap (λ y. Or (formulas_from (neg (Exists ss (formula_at a body)) ∷ y ∷ []))) is ∙ sym (ap (λ w. chosen_at w ts) form);
  has_body = subst (HasFormula b) (sym is_made) (HasFormula-grown m b grown made has);
  body = ap (formula_at b) is_made ∙ grown.same_formulas made has ∙ is ∙ sym (ap (λ w. opened_at w ts w) form ∙ opened_here ss (formula_at a body) ts);
}

-- of another formula the choice says that formula
pub itself_said : (b : Forms) (whole : FormulaId) (ts : List Term) (x : Formula) → formula_at b whole ≡ x → chosen_at x ts ≡ x → opened_at x ts x ≡ x → HasFormula b whole → IsSaid b (record { formula = whole; body = whole }) (choice_of (formula_at b whole) ts)
itself_said b whole ts x form chosen opened has = record {
  has_formula = has;
  formula = form ∙ sym chosen ∙ sym (ap (λ w. chosen_at w ts) form);
  has_body = has;
  body = form ∙ sym opened ∙ sym (ap (λ w. opened_at w ts w) form);
}

-- ---- one after the other

pub take_found : {A : Type 0} (xs : List A) (i : ℕ) (x : A) → slice_get xs i ≡ Some x → take (i + 1) xs ≡ take i xs ++ x ∷ []
take_found xs i x e = take_more xs i x (slice_get_within xs i x e) ∙ ap (λ y. take i xs ++ y ∷ []) (get_or_from_slice_get xs i x x e)

pub choice_at-grown : (a b : Forms) → IsGrown a b → (c : Choice) → HasFormula a c.whole → HasTerms a c.constants.items → choice_at b c ≡ choice_at a c
choice_at-grown a b g c h k = ap (λ w. choice_of w (terms_at b c.constants.items)) (g.same_formulas c.whole h) ∙ ap (choice_of (formula_at a c.whole)) (terms_at-grown a b g c.constants.items k)

pub has_choice : (b : Forms) (cs : List Choice) (i : ℕ) (c : Choice) → slice_get cs i ≡ Some c → HasChoices b cs → HasFormula b c.whole × HasTerms b c.constants.items
has_choice b [] i c e h = none_is c e
has_choice b (x ∷ cs) zero c e h = let same : x ≡ c = cc in subst (λ (y : Choice). HasFormula b y.whole × HasTerms b y.constants.items) same (h.0, h.1)
has_choice b (x ∷ cs) (suc i) c e h = has_choice b cs i c e h.2

-- one formula more, of the next choice
pub said_more : (a m b : Forms) → IsGrown m b → (cs : List Choice) (i : ℕ) (c : Choice) → slice_get cs i ≡ Some c → (h : words.Choice → Formula) (old new : List FormulaId) (f : FormulaId) →
    HasFormulas m old → formulas_at m old ≡ map h (choices_at a (take i cs)) → new ≡ old ++ f ∷ [] → formula_at b f ≡ h (choice_at m c) → choice_at m c ≡ choice_at a c → formulas_at b new ≡ map h (choices_at a (take (i + 1) cs))
said_more a m b grown cs i c at h old new f has are is says same =
    ap (formulas_at b) is ∙ map_push (formula_at b) old f ∙ ap (λ xs. xs ++ formula_at b f ∷ []) (formulas_at-grown m b grown old has ∙ are)
    ∙ ap (λ x. map h (choices_at a (take i cs)) ++ x ∷ []) (says ∙ ap h same)
    ∙ sym (ap (λ xs. map h (choices_at a xs)) (take_found cs i c at) ∙ ap (map h) (map_push (choice_at a) (take i cs) c) ∙ map_push h (choices_at a (take i cs)) (choice_at a c))
