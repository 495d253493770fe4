-- Decisions and their negations.
use Rattle.std.proofs.Common.{◌≡◌, List, [], ◌∷◌, true, ◌||◌, refl, sym, ◌∙◌, subst, ◌⊎◌, inl, inr, ⊎_elim}
use Rattle.std.specs.List.{Contains}
use Rattle.std.proofs.lemmas.List.Elements.{Contains-append_cases}
use Rattle.ss_core.specs.Tree.{ClassTree}
use Rattle.ss_logic.specs.Formulas.{Formula, Formulas, Literal, And, Or, Forall, Exists, no_formulas, formula_then, is_well_formed, neg}
use Rattle.ss_logic.proofs.Truth.{neg_neg}
use Rattle.ss_logic_means.specs.Steps.{is_literal, is_quantified}
use Rattle.ss_logic_countermodels.specs.Refuting.{told_in, all_told_in}
use Rattle.ss_terms.proofs.Tested.{neg_formed}
use Rattle.ss_logic.proofs.Lists.{contains_none, contains_split}
use Rattle.ss_search_procedure_rules.proofs.Occurring.{from_collected}
use Rattle.ss_search_reaching.specs.declared.reaching.Reaching.{Reaching}
use Rattle.ss_search_procedure.specs.declared.setting.Settling.{Settling}
use Rattle.ss_search_procedure.specs.Decisions.{settled_ones, decisions_of, IsSetting, IsAmong, IsSide, IsShown}
use Rattle.ss_search_procedure.proofs.Going.{among_negation}
use Rattle.ss_search_procedure.proofs.Deciding.{choice_among}

-- ---- what is told is a literal or quantified

abbrev IsBasic : Formula → Type 0
IsBasic f = (is_literal f || is_quantified f) ≡ true

single : (f x : Formula) → Contains (f ∷ []) x → f ≡ x
single f x c = ⊎_elim (λ e. e) (λ n. absurd (contains_none x n)) (contains_split f [] x c)

mutual
  told_basic : (f x : Formula) → Contains (told_in f) x → IsBasic x
  told_basic (Literal sign p ts) x c = subst IsBasic (single (Literal true p ts) x c) refl
  told_basic (And fs) x c = all_told_basic fs x c
  told_basic (Or fs) x c = all_told_basic fs x c
  told_basic (Forall ss f) x c = subst IsBasic (single (Forall ss f) x c) refl
  told_basic (Exists ss f) x c = subst IsBasic (single (Forall ss (neg f)) x c) refl

  all_told_basic : (fs : Formulas) (x : Formula) → Contains (all_told_in fs) x → IsBasic x
  all_told_basic no_formulas x c = absurd (contains_none x c)
  all_told_basic (formula_then f fs) x c = ⊎_elim (λ a. told_basic f x a) (λ b. all_told_basic fs x b) (Contains-append_cases (told_in f) (all_told_in fs) x c)

neg_basic : (f : Formula) → IsBasic f → IsBasic (neg f)
neg_basic (Literal sign p ts) h = refl
neg_basic (And fs) h = h
neg_basic (Or fs) h = h
neg_basic (Forall ss f) h = refl
neg_basic (Exists ss f) h = refl

module _ (s : Settling) where
  pub chosen_side : (f : Formula) → Contains (decisions_of s) f → IsSide s f
  chosen_side f c = inl c

  pub side_negation : (f g : Formula) → g ≡ neg f → IsSide s f → IsSide s g
  side_negation f g e h = ⊎_elim
      (λ c. inr (subst (λ x. Contains (decisions_of s) (neg x)) (sym e) (subst (Contains (decisions_of s)) (sym (neg_neg f)) c)))
      (λ c. inl (subst (Contains (decisions_of s)) (sym e) c))
      h

  pub side_among : IsSetting s → (f : Formula) → IsSide s f → IsAmong s f
  side_among h f side = ⊎_elim (λ c. choice_among s h f c) (λ c. among_negation s (neg f) f (sym (neg_neg f)) (choice_among s h (neg f) c)) side

  chosen_basic : IsSetting s → (f : Formula) → Contains (decisions_of s) f → IsBasic f
  chosen_basic h f c = let r = from_collected told_in (settled_ones s) f (subst (λ fs. Contains fs f) h.decisions c) in told_basic r.0 f r.2

  pub side_basic : IsSetting s → (f : Formula) → IsSide s f → (is_literal f || is_quantified f) ≡ true
  side_basic h f side = ⊎_elim (λ c. chosen_basic h f c) (λ c. subst IsBasic (neg_neg f) (neg_basic (neg f) (chosen_basic h (neg f) c))) side

  pub side_formed : (cs : List ClassTree) (r : Reaching) → IsShown cs s r → (f : Formula) → IsSide s f → is_well_formed cs [] f ≡ true
  side_formed cs r h f side = ⊎_elim (λ c. h.formed f c) (λ c. sym (neg_formed cs [] f) ∙ h.formed (neg f) c) side
