-- What was tried, and what stays open.
use Rattle.std.proofs.Common.{ℕ, suc, ◌+◌, ◌-◌, ◌<◌, ◌≤◌, List, [], ◌∷◌, length, take, get_or, sym, ◌∙◌, ap, subst, inr, ◌⊎◌, ⊎_elim}
use Rattle.std.specs.List.{Contains}
use Rattle.std.proofs.lemmas.List.{take_more, take_all, map-append}
use Rattle.std.proofs.lemmas.List.Elements.{Contains-append_cases}
use Rattle.ss_core.specs.Tree.{ClassTree}
use Rattle.ss_logic.specs.Formulas.{Formula, neg}
use Rattle.ss_logic.proofs.Truth.{neg_neg}
use Rattle.ss_terms.specs.declared.forms.FormulaId.{FormulaId}
use Rattle.ss_terms.specs.Forms.{Forms, formula_at, formulas_at}
use Rattle.ss_logic.specs.Includes.{Includes}
use Rattle.ss_search_procedure_rules.specs.Closed.{IsSaturated, StaysOpen}
use Rattle.ss_logic.proofs.Lists.{contains_none, contains_split}
use Rattle.ss_search_procedure_rules.proofs.Open.{open_isn't_closed}
use Rattle.ss_search_reaching.specs.declared.reaching.Reaching.{Reaching}
use Rattle.ss_search_procedure.specs.declared.setting.Settling.{Settling}
use Rattle.ss_search_procedure.specs.Decisions.{decisions_of, reached_in, first_decisions, IsState, IsTried, AreTried}

-- ---- by decisions, one after the other

-- what holds of the first formulas and of the next holds of one more
pub one_more : (b : Forms) (P : Formula → Type 0) (fs : List FormulaId) (i : ℕ) (d : FormulaId) → i < length fs → ((p : Formula) → Contains (formulas_at b (take i fs)) p → P p) → P (formula_at b (get_or fs i d)) →
    (p : Formula) → Contains (formulas_at b (take (i + 1) fs)) p → P p
one_more b P fs i d h before here p c = ⊎_elim
    (λ k. before p k)
    (λ k. ⊎_elim (λ e. subst P e here) (λ n. absurd (contains_none p n)) (contains_split (formula_at b (get_or fs i d)) [] p k))
    (Contains-append_cases (formulas_at b (take i fs)) (formula_at b (get_or fs i d) ∷ []) p
    (subst (λ gs. Contains gs p) (ap (formulas_at b) (take_more fs i d h) ∙ map-append (formula_at b) (take i fs) (get_or fs i d ∷ [])) c))

pub all_of_them : (b : Forms) (P : Formula → Type 0) (fs : List FormulaId) (i : ℕ) → length fs ≤ i → ((p : Formula) → Contains (formulas_at b (take i fs)) p → P p) → (p : Formula) → Contains (formulas_at b fs) p → P p
all_of_them b P fs i h all p c = all p (subst (λ gs. Contains (formulas_at b gs) p) (sym (take_all i fs h)) c)

-- ---- what was tried

module _ (s : Settling) (cs : List ClassTree) where
  pub tried : (depth : ℕ) (old new : Reaching) (p : Formula) → Includes (reached_in s new) (reached_in s old) → Contains (reached_in s new) p → StaysOpen cs depth (reached_in s new) → IsTried cs depth (reached_in s old) p
  tried depth old new p more there stays = inr (inr (λ c. open_isn't_closed cs depth (reached_in s new) stays (p ∷ reached_in s old) with_it c))
    where
      with_it : Includes (reached_in s new) (p ∷ reached_in s old)
      with_it x h = ⊎_elim (λ e. subst (Contains (reached_in s new)) e there) (λ k. more x k) (contains_split p (reached_in s old) x h)

  pub nothing_follows : (depth : ℕ) (r : Reaching) → IsSaturated cs (reached_in s r) → IsState s r → ((p : Formula) → Contains (decisions_of s) p → AreTried cs depth (reached_in s r) p) → StaysOpen cs (suc depth) (reached_in s r)
  nothing_follows depth r saturated has h = (
    saturated,
    λ p c. ⊎_elim
        (λ o. (h p (has.decisions p o)).0)
        (λ o. subst (IsTried cs depth (reached_in s r)) (neg_neg p) (h (neg p) (has.decisions (neg p) o)).1)
        c,
  )

  pub none_tried : (depth : ℕ) (known : List Formula) (p : Formula) → Contains (first_decisions s 0) p → AreTried cs depth known p
  none_tried depth known p c = absurd (contains_none p c)
