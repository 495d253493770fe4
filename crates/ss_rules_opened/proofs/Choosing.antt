-- Choices that are noted, one after the other.
use Rattle.std.proofs.Common.{◌≡◌, List, [], ◌∷◌, ◌++◌, Bool, true, false, Some, None, refl, cond, sym, ◌∙◌, ap, subst, Result, Ok, Err}
use Rattle.std.specs.Prelude.{find, OnOk}
use Rattle.std.specs.List.{Contains}
use Rattle.std.proofs.lemmas.Bool.{false≢true}
use Rattle.std.proofs.lemmas.List.{map_push}
use Rattle.ss_core.specs.Tree.{ClassTree}
use Rattle.ss_logic.specs.Terms.{Term}
use Rattle.ss_logic.specs.Formulas.{Formula, Literal, And, Or, Forall, Exists, neg}
use Rattle.ss_logic.specs.Occurring.{quantified_in, quantified, all_terms}
use Rattle.ss_logic.specs.Opened.{is_exists}
use Rattle.ss_logic_means.specs.Origins as spec
use Rattle.ss_logic_means.specs.Starting.{IsStart}
use Rattle.ss_logic.proofs.Lists.{contains_head, contains_cons}
use Rattle.ss_logic.proofs.Occurring.{from_collected}
use Rattle.ss_logic_means.proofs.Starting.{at_first, goes_on}
use Rattle.ss_terms.specs.declared.forms.FormulaId.{FormulaId}
use Rattle.ss_terms.specs.Forms.{Forms, terms_at, formula_at, formulas_at, HasTerms, HasFormula, IsFormulaNumber, IsGrown}
use Rattle.ss_terms.proofs.Grown.{HasFormula-grown, HasTerms-grown, terms_at-grown}
use Rattle.ss_rules_opened.specs.declared.opening.Opening.{Opening}
use Rattle.ss_rules_opened.specs.declared.opening.Choice.{Choice}
use Rattle.ss_rules_opened.specs.Opening.{used_after, list_after, IsOpening}
use Rattle.ss_rules_opened.specs.Choices.{choice_of, choices_after, choice_at, choices_at, HasChoices, StillStart}
use Rattle.ss_rules_opened.proofs.Going.{number_some}

-- ---- as the bank grows

module _ (a b : Forms) (g : IsGrown a b) where
  pub HasChoices-grown : (choices : List Choice) → HasChoices a choices → HasChoices b choices
  HasChoices-grown [] h = tt
  HasChoices-grown (c ∷ choices) h = (HasFormula-grown a b g c.whole h.0, HasTerms-grown a b g c.constants.items h.1, HasChoices-grown choices h.2)

  pub choices_at-grown : (choices : List Choice) → HasChoices a choices → choices_at b choices ≡ choices_at a choices
  choices_at-grown [] h = refl
  choices_at-grown (c ∷ choices) h =
      ap (λ w. choice_of w (terms_at b c.constants.items) ∷ choices_at b choices) (g.same_formulas c.whole h.0)
      ∙ ap (λ ts. choice_of (formula_at a c.whole) ts ∷ choices_at b choices) (terms_at-grown a b g c.constants.items h.1)
      ∙ ap (λ xs. choice_at a c ∷ xs) (choices_at-grown choices h.2)

pub HasChoices-push : (b : Forms) (choices more : List Choice) (c : Choice) → more ≡ choices ++ c ∷ [] → HasChoices b choices → HasFormula b c.whole → HasTerms b c.constants.items → HasChoices b more
HasChoices-push b choices more c e h k l = subst (HasChoices b) (sym e) (by choices h)
  where
    by : (xs : List Choice) → HasChoices b xs → HasChoices b (xs ++ c ∷ [])
    by [] h = (k, l, tt)
    by (x ∷ xs) h = (h.0, h.1, by xs h.2)

pub choices_push : (b : Forms) (choices more : List Choice) (c : Choice) → more ≡ choices ++ c ∷ [] → choices_at b more ≡ choices_at b choices ++ choice_at b c ∷ []
choices_push b choices more c e = ap (choices_at b) e ∙ map_push (choice_at b) choices c

-- ---- one `exists` more

found_there : (p : Formula → Bool) (xs : List Formula) (x : Formula) → find p xs ≡ Some x → Contains xs x × (p x ≡ true)
found_there p [] x e = absurd (none x e)
  where
    none : (x : Formula) → None ≡ Some x → ⊥
    none x e = cc
found_there p (y ∷ xs) x e = by (p y) refl e (found_there p xs x)
  where
    by : (b : Bool) → p y ≡ b → cond b (Some y) (find p xs) ≡ Some x → (find p xs ≡ Some x → Contains xs x × (p x ≡ true)) → Contains (y ∷ xs) x × (p x ≡ true)
    by true is e later = let same : y ≡ x = cc in (subst (Contains (y ∷ xs)) same (contains_head y xs), ap p (sym same) ∙ is)
    by false is e later = let r = later e in (contains_cons y xs x r.0, r.1)

pub start_goes_on : (cs : List ClassTree) (premises : List Formula) (goal : Formula) (used : List Term) (fs : List Formula) (choices : List spec.Choice) (x : Formula) → find is_exists (quantified fs) ≡ Some x → IsStart cs premises goal used fs choices →
    IsStart cs premises goal (used_after x used) (list_after x used fs) (choices_after x used choices)
start_goes_on cs premises goal used fs choices (Exists ss h) e start =
    let there = from_collected quantified_in fs (Exists ss h) (found_there is_exists (quantified fs) (Exists ss h) e).0 in
    goes_on cs premises goal used fs choices start ss h there.0 there.1 there.2
start_goes_on cs premises goal used fs choices (Literal sign p ts) e start = absurd (false≢true (found_there is_exists (quantified fs) (Literal sign p ts) e).1)
start_goes_on cs premises goal used fs choices (And gs) e start = absurd (false≢true (found_there is_exists (quantified fs) (And gs) e).1)
start_goes_on cs premises goal used fs choices (Or gs) e start = absurd (false≢true (found_there is_exists (quantified fs) (Or gs) e).1)
start_goes_on cs premises goal used fs choices (Forall ss h) e start = absurd (false≢true (found_there is_exists (quantified fs) (Forall ss h) e).1)

-- the same, as the bank has them
module _ (b c : Forms) (s after : Opening) (choices more : List Choice) (f : FormulaId) (found : IsFormulaNumber b (find is_exists (quantified (formulas_at b s.list.items))) (Some f))
    (done : IsOpening c after (used_after (formula_at b f) (terms_at b s.used.items)) (list_after (formula_at b f) (terms_at b s.used.items) (formulas_at b s.list.items)))
    (noted : choices_at c more ≡ choices_after (formula_at b f) (terms_at b s.used.items) (choices_at b choices)) where
  pub still_start : (cs : List ClassTree) (premises : List Formula) (goal : Formula) → IsStart cs premises goal (terms_at b s.used.items) (formulas_at b s.list.items) (choices_at b choices) →
      IsStart cs premises goal (terms_at c after.used.items) (formulas_at c after.list.items) (choices_at c more)
  still_start cs premises goal start =
      let next = start_goes_on cs premises goal (terms_at b s.used.items) (formulas_at b s.list.items) (choices_at b choices) (formula_at b f) (number_some b (find is_exists (quantified (formulas_at b s.list.items))) f found) start in
      subst (λ xs. IsStart cs premises goal (terms_at c after.used.items) (formulas_at c after.list.items) xs) (sym noted)
      (subst (λ fs. IsStart cs premises goal (terms_at c after.used.items) fs (choices_after (formula_at b f) (terms_at b s.used.items) (choices_at b choices))) (sym done.list)
      (subst (λ ts. IsStart cs premises goal ts (list_after (formula_at b f) (terms_at b s.used.items) (formulas_at b s.list.items)) (choices_after (formula_at b f) (terms_at b s.used.items) (choices_at b choices))) (sym done.used) next))

pub all_started : (cs : List ClassTree) (premises : List Formula) (goal : Formula) (used : List Term) (fs : List Formula) (choices : List spec.Choice) (gs : List Formula) (more : List spec.Choice) →
    used ≡ all_terms fs → fs ≡ premises ++ neg goal ∷ [] → choices ≡ [] → StillStart cs used fs choices gs more → (others : List Term) × IsStart cs premises goal others gs more
all_started cs premises goal used fs choices gs more e f none still =
    still premises goal
    (subst (λ xs. IsStart cs premises goal used fs xs) (sym none)
    (subst (λ ts. IsStart cs premises goal ts fs []) (sym e)
    (subst (λ xs. IsStart cs premises goal (all_terms xs) xs []) (sym f) (at_first cs premises goal))))

-- ---- results

pub on_ok : {A E P : Type 0} (r : Result A E) → P → OnOk r P
on_ok (Ok x) h = h
on_ok (Err z) h = tt

pub ok_then : {A E P Q : Type 0} (r : Result A E) → (P → Q) → OnOk r P → OnOk r Q
ok_then (Ok x) k h = k h
ok_then (Err z) k h = tt
