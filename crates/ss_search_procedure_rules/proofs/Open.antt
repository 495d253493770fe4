-- Closed lists are closed with more formulas and at greater depth; what stays open isn't closed.
use Rattle.std.proofs.Common.{ℕ, zero, suc, List, ◌∷◌, subst, inl, inr, ⊎_elim}
use Rattle.std.specs.List.{Contains}
use Rattle.ss_core.specs.Tree.{ClassTree}
use Rattle.ss_logic.specs.Formulas.{Formula, neg}
use Rattle.ss_logic.proofs.Truth.{neg_neg}
use Rattle.ss_logic.specs.Includes.{Includes}
use Rattle.ss_search_procedure_rules.specs.Closed.{IsSaturated, OccursIn, IsDecision, Closed, at_once, by_split, StaysOpen, IsTotal}
use Rattle.ss_logic.proofs.Lists.{includes_cons, includes_all}

-- ---- more formulas, greater depth

pub occurs_in_more : (fs gs : List Formula) (p : Formula) → Includes gs fs → OccursIn fs p → OccursIn gs p
occurs_in_more fs gs p i (f, h, k) = (f, i f h, k)

pub choice_of_more : (fs gs : List Formula) (p : Formula) → Includes gs fs → IsDecision fs p → IsDecision gs p
choice_of_more fs gs p i c = ⊎_elim (λ a. inl (occurs_in_more fs gs p i a)) (λ a. inr (occurs_in_more fs gs (neg p) i a)) c

pub closed_with_more : (cs : List ClassTree) (depth : ℕ) (fs gs : List Formula) → Includes gs fs → Closed cs depth fs → Closed cs depth gs
closed_with_more cs depth fs gs i (at_once n) = at_once (λ r has s. n r (λ f h. has f (i f h)) s)
closed_with_more cs (suc depth) fs gs i (by_split p c a b) = by_split p (choice_of_more fs gs p i c)
    (closed_with_more cs depth (p ∷ fs) (p ∷ gs) (includes_cons p gs fs i) a)
    (closed_with_more cs (suc depth) (neg p ∷ fs) (neg p ∷ gs) (includes_cons (neg p) gs fs i) b)

pub closed_deeper : (cs : List ClassTree) (depth : ℕ) (fs : List Formula) → Closed cs depth fs → Closed cs (suc depth) fs
closed_deeper cs depth fs (at_once n) = at_once n
closed_deeper cs (suc depth) fs (by_split p c a b) = by_split p c (closed_deeper cs depth (p ∷ fs) a) (closed_deeper cs (suc depth) (neg p ∷ fs) b)

-- ---- open

saturated_of : (cs : List ClassTree) (depth : ℕ) (reached : List Formula) → StaysOpen cs depth reached → IsSaturated cs reached
saturated_of cs zero reached s = s
saturated_of cs (suc depth) reached s = s.0

pub open_less_deep : (cs : List ClassTree) (depth : ℕ) (reached : List Formula) → StaysOpen cs (suc depth) reached → StaysOpen cs depth reached
open_less_deep cs zero reached s = s.0
open_less_deep cs (suc depth) reached s = (s.0, λ p c. ⊎_elim (λ a. inl a) (λ b. inr (⊎_elim (λ a. inl a) (λ n. inr (λ k. n (closed_deeper cs depth (p ∷ reached) k))) b)) (s.1 p c))

pub open_isn't_closed : (cs : List ClassTree) (depth : ℕ) (reached : List Formula) → StaysOpen cs depth reached → (fs : List Formula) → Includes reached fs → Closed cs depth fs → ⊥
open_isn't_closed cs depth reached s fs i (at_once n) = n reached i (saturated_of cs depth reached s)
open_isn't_closed cs (suc depth) reached s fs i (by_split p c a b) = ⊎_elim
    (λ h. open_isn't_closed cs depth reached (open_less_deep cs depth reached s) (p ∷ fs) (includes_all p reached fs h i) a)
    (λ r. ⊎_elim
    (λ h. open_isn't_closed cs (suc depth) reached s (neg p ∷ fs) (includes_all (neg p) reached fs h i) b)
    (λ n. n (closed_with_more cs depth (p ∷ fs) (p ∷ reached) (includes_cons p reached fs i) a))
    r)
    (s.1 p (choice_of_more fs reached p i c))

-- ---- total

-- where of each decision one side is reached, nothing more follows at any depth
pub total_stays_open : (cs : List ClassTree) (depth : ℕ) (reached : List Formula) → IsSaturated cs reached → IsTotal reached → StaysOpen cs depth reached
total_stays_open cs zero reached s t = s
total_stays_open cs (suc depth) reached s t = (
  s,
  λ p c. ⊎_elim
      (λ o. ⊎_elim (λ h. inl h) (λ h. inr (inl h)) (t p o))
      (λ o. ⊎_elim (λ h. inr (inl h)) (λ h. inl (subst (Contains reached) (neg_neg p) h)) (t (neg p) o))
      c,
)
