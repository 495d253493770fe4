-- The formulas of a ground form are reached, one after the other.
use Rattle.std.proofs.Common.{◌≡◌, ℕ, ◌+◌, ◌<◌, ◌≤◌, List, [], ◌∷◌, ◌++◌, length, map, take, get_or, true, refl, sym, ◌∙◌, ap, subst, ⊎_elim}
use Rattle.std.specs.List.{Contains}
use Rattle.std.proofs.lemmas.List.{take_more, take_all, map_push}
use Rattle.std.proofs.lemmas.List.Elements.{Contains-append_left, Contains-push, Contains-push_cases}
use Rattle.ss_core.specs.Tree.{ClassTree}
use Rattle.ss_logic.specs.Formulas.{Formula, is_well_formed}
use Rattle.ss_logic_means.specs.Steps as tree
use Rattle.ss_logic_means.specs.Steps.{Derives}
use Rattle.ss_logic_countermodels.specs.Refuting.{told_in, told}
use Rattle.ss_logic_means.specs.Origins.{AreAccepted, AreOrigins}
use Rattle.ss_logic_means.proofs.Whole.{listed_formed}
use Rattle.ss_terms.specs.declared.forms.FormulaId.{FormulaId}
use Rattle.ss_terms.specs.Forms.{Forms, formula_at, formulas_at, HasFormula, HasFormulas, IsGrown, IsBankOf}
use Rattle.ss_terms.proofs.Grown.{HasFormulas-grown, formulas_at-grown}
use Rattle.ss_deriv.specs.Lines.{lines_of}
use Rattle.ss_rules_opened.specs.declared.opening.Choice.{Choice}
use Rattle.ss_rules_opened.specs.Choices.{choices_at, HasChoices}
use Rattle.ss_rules_opened.specs.declared.origins.Origin.{Origin}
use Rattle.ss_rules_opened.specs.Views.{origins_at, HasOrigins}
use Rattle.ss_rules_opened.proofs.Noting.{ComeFrom-grown}
use Rattle.ss_rules.specs.declared.form.Grounded.{Grounded}
use Rattle.ss_rules.specs.Grounds.{IsGrounded}
use Rattle.ss_rules.proofs.GroundNoted.{grounded_later}
use Rattle.ss_search_path.specs.declared.path.Path.{Path}
use Rattle.ss_search_path.specs.Paths.{known_on, IsPath, IsSame}
use Rattle.ss_search_path.proofs.Going.{goes_nowhere, path_goes}
use Rattle.ss_logic.specs.Includes.{Includes}
use Rattle.ss_logic.proofs.Lists.{contains_none}
use Rattle.ss_search_procedure_rules.proofs.Occurring.{to_collected}
use Rattle.ss_search_path.specs.declared.standing.Given.{Given}
use Rattle.ss_search_path.specs.declared.standing.Standing.{Standing}
use Rattle.ss_search_path.specs.Standing.{body_of, choices_in, IsGiven, AreStanding}
use Rattle.ss_search_procedure.specs.Starting.{IsGround}
use Rattle.ss_search_procedure.proofs.Told.{told_formed}
use Rattle.ss_search_reaching.specs.declared.reaching.Reaching.{Reaching}
use Rattle.ss_search_reaching.specs.Reaching.{facts_of, IsReaching, Shows}
use Rattle.ss_search_procedure.specs.declared.setting.Settling.{Settling}
use Rattle.ss_search_procedure.specs.declared.settling.Settled.{Settled}
use Rattle.ss_search_procedure.specs.declared.settling.Settled.TheVariants as settled
use Rattle.ss_search_procedure.specs.Decisions.{bank_of, settled_ones, decisions_of, reached_in, IsSetting, IsState, HasLed}
use Rattle.ss_search_procedure.specs.Answers.{IfClosed}
use Rattle.ss_search_procedure.specs.Ground.{first_settled, IsGroundOf, AreFirst}
use Rattle.ss_search_procedure.proofs.Tried.{one_more}

-- ---- as the bank grows

module _ (cs : List ClassTree) (premises : List Formula) (goal : Formula) (a b : Forms) (g : Grounded) (grown : IsGrown a b) where
  pub ground_grown : IsGroundOf cs premises goal a g → IsGroundOf cs premises goal b g
  ground_grown h = record {
    has_formulas = HasFormulas-grown a b grown g.formulas.items h.has_formulas;
    grounded = subst (λ (fs : List Formula). IsGrounded cs premises goal b fs g.origins.items g.choices.items) (sym (formulas_at-grown a b grown g.formulas.items h.has_formulas))
        (grounded_later cs premises goal a b (formulas_at a g.formulas.items) (formulas_at a g.formulas.items) g.origins.items g.origins.items g.choices.items g.choices.items grown refl h.grounded
        (λ ps f choices come. ComeFrom-grown a b grown cs ps f choices (formulas_at a g.formulas.items) g.origins.items come));
    formed = h.formed;
    invariants = h.invariants;
  }

-- ---- how many are reached

module _ (s : Settling) where
  pub none_reached : (r : Reaching) → IsReaching s.given r → reached_in s r ≡ [] → AreFirst s 0 r
  none_reached r h none = record {
    reaching = h;
    known = λ x c. absurd (contains_none x c);
    only = λ x c. absurd (contains_none x (subst (λ (fs : List Formula). Contains fs x) none c));
  }

  module _ (k : ℕ) (d : FormulaId) (within : k < length s.formulas.now) where
    abbrev f : Formula
    f = formula_at (bank_of s) (get_or s.formulas.now k d)

    one_more_settled : first_settled s (k + 1) ≡ first_settled s k ++ f ∷ []
    one_more_settled = ap (formulas_at (bank_of s)) (take_more s.formulas.now k d within) ∙ map_push (formula_at (bank_of s)) (take k s.formulas.now) (get_or s.formulas.now k d)

    more_settled : Includes (first_settled s (k + 1)) (first_settled s k)
    more_settled x c = subst (λ (fs : List Formula). Contains fs x) (sym one_more_settled) (Contains-append_left (first_settled s k) (f ∷ []) x c)

    -- the next one is reached already
    pub next_there : (r : Reaching) → AreFirst s k r → Contains (reached_in s r) f → AreFirst s (k + 1) r
    next_there r h there = record {
      reaching = h.reaching;
      known = one_more (bank_of s) (Contains (reached_in s r)) s.formulas.now k d within h.known there;
      only = λ x c. more_settled x (h.only x c);
    }

    -- it is reached now
    pub next_reached : (old new : Reaching) → AreFirst s k old → IsReaching s.given new → reached_in s new ≡ reached_in s old ++ f ∷ [] → AreFirst s (k + 1) new
    next_reached old new h state more = record {
      reaching = state;
      known = one_more (bank_of s) (Contains (reached_in s new)) s.formulas.now k d within
          (λ x c. subst (λ (fs : List Formula). Contains fs x) (sym more) (Contains-append_left (reached_in s old) (f ∷ []) x (h.known x c)))
          (subst (λ (fs : List Formula). Contains fs f) (sym more) (Contains-push (reached_in s old) f));
      only = λ x c. ⊎_elim
          (λ before. more_settled x (h.only x before))
          (λ last. subst (Contains (first_settled s (k + 1))) last (subst (λ (fs : List Formula). Contains fs f) (sym one_more_settled) (Contains-push (first_settled s k) f)))
          (Contains-push_cases (reached_in s old) f x (subst (λ (fs : List Formula). Contains fs x) more c));
    }

  pub all_reached : IsSetting s → (n : ℕ) (r : Reaching) → length s.formulas.now ≤ n → AreFirst s n r → IsState s r
  all_reached h n r all first =
      let are : first_settled s n ≡ settled_ones s = ap (formulas_at (bank_of s)) (take_all n s.formulas.now all) in
      record {
        reaching = first.reaching;
        decisions = λ p o. subst (λ (fs : List Formula). Contains fs p) (sym h.decisions) (to_collected told_in (settled_ones s) o.0 p (subst (λ (fs : List Formula). Contains fs o.0) are (first.only o.0 o.1)) o.2);
        known = λ x c. first.known x (subst (λ (fs : List Formula). Contains fs x) (sym are) c);
      }

  -- ---- the path that leads there

  module _ (cs : List ClassTree) (premises : List Formula) (goal : Formula) where
    settled_formed : IsSetting s → IsGround cs premises goal s.given (settled_ones s) → (p : Formula) → Contains (decisions_of s) p → is_well_formed cs [] p ≡ true
    settled_formed h ground p c =
        told_formed cs (settled_ones s)
        (listed_formed cs premises goal (choices_in s.given) ground.formed ground.accepted ground.invariants (settled_ones s) (origins_at (bank_of s) s.given.origins.now) ground.origins) p
        (subst (λ (fs : List Formula). Contains fs p) h.decisions c)

    pub has_led : IsSetting s → IsBankOf cs (bank_of s) → IsGround cs premises goal s.given (settled_ones s) → (path : Path) (none all : Reaching) (standings : List Standing) → IsSame path none.path → IsSame none.path all.path →
        IsPath cs premises goal (bank_of s) [] path → Shows cs s.given none → AreStanding cs s.given (known_on (bank_of s) path) (settled_ones s) standings →
        (Shows cs s.given none → AreStanding cs s.given (facts_of s.given none) (settled_ones s) standings → Shows cs s.given all) → HasLed cs premises goal s all
    has_led h of ground path none all standings begins goes is_path nothing stand shown = record {
      shown = record {
        bank = of;
        formed = settled_formed h ground;
        shows = shown nothing (subst (λ (fs : List Formula). AreStanding cs s.given fs (settled_ones s) standings) (ap (formulas_at (bank_of s)) (sym begins.known)) stand);
      };
      path =
          path_goes cs premises goal (bank_of s) [] none.path all.path (path_goes cs premises goal (bank_of s) [] path none.path is_path (goes_nowhere cs premises goal (bank_of s) path none.path begins))
          (goes_nowhere cs premises goal (bank_of s) none.path all.path goes);
    }

-- ---- the ground form, where what the choices make known is in the bank

pub is_setting : (s : Settling) (w : Grounded) → s.formulas.now ≡ w.formulas.items → HasFormulas (bank_of s) w.formulas.items → IsGiven s.given → HasFormulas (bank_of s) s.decisions.now → decisions_of s ≡ told (formulas_at (bank_of s) w.formulas.items) → IsSetting s
is_setting s w are has given has_choices told_are = record {
  given = given;
  formulas = subst (HasFormulas (bank_of s)) (sym are) has;
  in_bank = has_choices;
  decisions = told_are ∙ ap (λ (xs : List FormulaId). told (formulas_at (bank_of s) xs)) (sym are);
}

module _ (g : Given) (fs : List FormulaId) (w : Grounded) (are : fs ≡ w.formulas.items) (choices_are : g.choices.now ≡ w.choices.items) (origins_are : g.origins.now ≡ w.origins.items) (cs : List ClassTree) (premises : List Formula) (goal : Formula)
    (h : IsGroundOf cs premises goal g.bank.now w) where
  pub is_given : formulas_at g.bank.now g.bodies.now ≡ map body_of (choices_at g.bank.now w.choices.items) → IsGiven g
  is_given bodies_are = record {
    choices = subst (HasChoices g.bank.now) (sym choices_are) h.grounded.has_choices;
    bodies = bodies_are ∙ ap (λ (xs : List Choice). map body_of (choices_at g.bank.now xs)) (sym choices_are);
    origins = subst (HasOrigins g.bank.now) (sym origins_are) h.grounded.come.has;
  }

  pub ground_here : IsGround cs premises goal g (formulas_at g.bank.now fs)
  ground_here = record {
    formed = h.formed;
    invariants = h.invariants;
    accepted = subst (λ (xs : List Choice). AreAccepted cs premises goal (choices_at g.bank.now xs)) (sym choices_are) (h.grounded.accepted h.formed);
    origins = subst (λ (os : List Origin). AreOrigins cs premises goal (choices_in g) (formulas_at g.bank.now fs) (origins_at g.bank.now os)) (sym origins_are)
        (subst (λ (xs : List FormulaId). AreOrigins cs premises goal (choices_in g) (formulas_at g.bank.now xs) (origins_at g.bank.now w.origins.items)) (sym are)
        (subst (λ (xs : List Choice). AreOrigins cs premises goal (choices_at g.bank.now xs) (formulas_at g.bank.now w.formulas.items) (origins_at g.bank.now w.origins.items)) (sym choices_are) h.grounded.come.are));
  }

-- the same obligation in a bank that has grown
pub ground_later : (cs : List ClassTree) (a b : Forms) (w : Grounded) → IsGrown a b → (premises : List FormulaId) (goal : FormulaId) → HasFormulas a premises → HasFormula a goal → IsGroundOf cs (formulas_at a premises) (formula_at a goal) a w →
    IsGroundOf cs (formulas_at b premises) (formula_at b goal) b w
ground_later cs a b w grown premises goal has_premises has_goal h =
    subst (λ (ps : List Formula). IsGroundOf cs ps (formula_at b goal) b w) (sym (formulas_at-grown a b grown premises has_premises))
    (subst (λ (f : Formula). IsGroundOf cs (formulas_at a premises) f b w) (sym (grown.same_formulas goal has_goal)) (ground_grown cs (formulas_at a premises) (formula_at a goal) a b w grown h))

-- what is derived then was to be derived before
module _ (cs : List ClassTree) (a b : Forms) (grown : IsGrown a b) (premises : List FormulaId) (goal : FormulaId) (has_premises : HasFormulas a premises) (has_goal : HasFormula a goal) where
  derives_before : (lines : List tree.Line) → Derives cs (formulas_at b premises) (formula_at b goal) lines → Derives cs (formulas_at a premises) (formula_at a goal) lines
  derives_before lines d =
      subst (λ (f : Formula). Derives cs (formulas_at a premises) f lines) (grown.same_formulas goal has_goal)
      (subst (λ (ps : List Formula). Derives cs ps (formula_at b goal) lines) (formulas_at-grown a b grown premises has_premises) d)

  pub closed_before : (x : Settled) → IfClosed (λ d. Derives cs (formulas_at b premises) (formula_at b goal) (lines_of b d)) x → IfClosed (λ d. Derives cs (formulas_at a premises) (formula_at a goal) (lines_of b d)) x
  closed_before (settled.Closed d) h = derives_before (lines_of b d) h
  closed_before (settled.Countered m) h = tt
  closed_before settled.Spent h = tt
