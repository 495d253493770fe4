-- The lines that make choices, one after the other.
use Rattle.std.proofs.Common.{◌≡◌, ℕ, zero, suc, List, [], ◌∷◌, ◌++◌, map, take, true, ◌&&◌, Some, sym, ◌∙◌, ap, subst, append_assoc}
use Rattle.std.specs.Prelude.{slice_get}
use Rattle.std.proofs.lemmas.Bool.{and_parts}
use Rattle.std.proofs.lemmas.List.{append-nil}
use Rattle.ss_core.specs.Tree.{ClassTree}
use Rattle.ss_logic.specs.Terms.{Term}
use Rattle.ss_logic.specs.Formulas.{Formula, Literal, And, Or, Forall, Exists, is_well_formed, neg, put}
use Rattle.ss_logic.proofs.Truth.{neg_neg}
use Rattle.ss_logic.specs.Shapes.{when}
use Rattle.ss_logic.proofs.Options.{when_some, and_then_some}
use Rattle.ss_logic_means.proofs.Sorting.{neg_formed}
use Rattle.ss_logic_means.specs.Steps.{State, Open, are_constants, are_new, chosen, choice, step, run}
use Rattle.ss_logic_means.proofs.Matched.{none_is}
use Rattle.ss_logic_means.specs.Origins.{Choice, chosen_at, chosen_by, choose}

choice_is : (used : List Formula) (w : Formula) (ts : List Term) (x : Formula) → choice used w ts ≡ Some x → chosen_at w ts ≡ x
choice_is used (Exists ss g) ts x e = (when_some (are_constants ss ts && are_new (g ∷ used) ts) (chosen ss g ts) x e).1
choice_is used (Literal s p us) ts x e = cc
choice_is used (And fs) ts x e = cc
choice_is used (Or fs) ts x e = cc
choice_is used (Forall ss g) ts x e = cc

pub whole_formed : (cs : List ClassTree) (used : List Formula) (w : Formula) (ts : List Term) (x : Formula) → choice used w ts ≡ Some x → is_well_formed cs [] (chosen_at w ts) ≡ true → is_well_formed cs [] w ≡ true
whole_formed cs used (Exists ss g) ts x e h =
    let p = and_parts (is_well_formed cs [] (Forall ss (neg g))) (is_well_formed cs [] (put ts g) && true) h in
    subst (λ f. is_well_formed cs [] f ≡ true) (neg_neg (Exists ss g)) (neg_formed cs [] (neg (Exists ss g)) p.0)
whole_formed cs used (Literal s p us) ts x e h = cc
whole_formed cs used (And fs) ts x e h = cc
whole_formed cs used (Or fs) ts x e h = cc
whole_formed cs used (Forall ss g) ts x e h = cc

-- the choice may be made where these are known
pub record IsStep (cs : List ClassTree) (premises : List Formula) (goal : Formula) (known : List Formula) (c : Choice) : Type 0 where
  pub fact : choice (goal ∷ premises ++ known) c.whole c.constants ≡ Some (chosen_by c)
  pub formed : is_well_formed cs [] (chosen_by c) ≡ true

module _ (cs : List ClassTree) (premises : List Formula) (goal : Formula) where
  step_is : (known : List Formula) (c : Choice) (s : State) → step cs premises goal (Open known []) (choose c) ≡ Some s → IsStep cs premises goal known c × (Open (known ++ chosen_by c ∷ []) [] ≡ s)
  step_is known c s e =
      let made = and_then_some (λ (x : Formula). when (is_well_formed cs [] x) (Open (known ++ x ∷ []) [])) (choice (goal ∷ premises ++ known) c.whole c.constants) s e in
      let taken = when_some (is_well_formed cs [] made.0) (Open (known ++ made.0 ∷ []) []) s made.2 in
      let here = choice_is (goal ∷ premises ++ known) c.whole c.constants made.0 made.1 in (
        record { fact = made.1 ∙ ap Some (sym here); formed = subst (λ (x : Formula). is_well_formed cs [] x ≡ true) (sym here) taken.0 },
        ap (λ (x : Formula). Open (known ++ x ∷ []) []) here ∙ taken.1,
      )

  pub steps : (choices : List Choice) (known : List Formula) (s : State) → run cs premises goal (Open known []) (map choose choices) ≡ Some s →
      (i : ℕ) (c : Choice) → slice_get choices i ≡ Some c → IsStep cs premises goal (known ++ map chosen_by (take i choices)) c
  steps [] known s e i c at = none_is c at
  steps (d ∷ choices) known s e zero c at =
      let next = and_then_some (λ (t : State). run cs premises goal t (map choose choices)) (step cs premises goal (Open known []) (choose d)) s e in
      let same : d ≡ c = cc in
      subst (λ (x : Choice). IsStep cs premises goal (known ++ []) x) same (subst (λ (k : List Formula). IsStep cs premises goal k d) (sym (append-nil known)) (step_is known d next.0 next.1).0)
  steps (d ∷ choices) known s e (suc i) c at =
      let next = and_then_some (λ (t : State). run cs premises goal t (map choose choices)) (step cs premises goal (Open known []) (choose d)) s e in
      let later = subst (λ (t : State). run cs premises goal t (map choose choices) ≡ Some s) (sym (step_is known d next.0 next.1).1) next.2 in
      subst (λ (k : List Formula). IsStep cs premises goal k c) (append_assoc known (chosen_by d ∷ []) (map chosen_by (take i choices))) (steps choices (known ++ chosen_by d ∷ []) s later i c at)
