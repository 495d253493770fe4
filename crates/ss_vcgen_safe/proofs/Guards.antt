-- The formulas of guards, where a guard is true and where it is false.
use Rattle.std.proofs.Common.{◌≡◌, ℕ, List, [], ◌∷◌, ◌++◌, true, false, sym, ◌∙◌, ap}
use Rattle.std.proofs.lemmas.Bool.{false≢true}
use Rattle.ss_core.specs.Tree.{ClassTree}
use Rattle.ss_logic.specs.Values.{truth, as_truth, Structure}
use Rattle.ss_logic.specs.Formulas.{Formula, True, Hold, neg}
use Rattle.ss_logic.proofs.Truth.{not_both, formula_stable}
use Rattle.ss_logic.specs.Express.{or_of}
use Rattle.ss_vcgen_heaps.specs.Positions.{Guard, Always, When, Never, is_true, guard_term, guard_formula, under, side}
use Rattle.ss_vcgen_safe.specs.At.{IsOn, IsOff}

pub hold_more : (cs : List ClassTree) (m : Structure) (fs gs : List Formula) → Hold cs m fs → Hold cs m gs → Hold cs m (fs ++ gs)
hold_more cs m [] gs h t = t
hold_more cs m (f ∷ fs) gs h t = (h.0, hold_more cs m fs gs h.1 t)

module _ (cs : List ClassTree) (m : Structure) where
  is_true_on : (n : ℕ) → m.truths n ≡ true → True cs m [] (is_true (guard_term n))
  is_true_on n h = ap truth h

  neg_is_true_off : (n : ℕ) → m.truths n ≡ false → True cs m [] (neg (is_true (guard_term n)))
  neg_is_true_off n h = λ e. false≢true (sym h ∙ ap as_truth e)

  pub guard_formula_on : (g : Guard) → IsOn g m → True cs m [] (guard_formula g)
  guard_formula_on Always h = tt
  guard_formula_on (When n) h = is_true_on n h
  guard_formula_on Never h = absurd h

  pub under_on : (g : Guard) (f : Formula) → True cs m [] f → True cs m [] (under g f)
  under_on Always f t = t
  under_on (When n) f t = λ none. none.1.0 t
  under_on Never f t = tt

  pub under_off : (g : Guard) (f : Formula) → IsOff g m → True cs m [] (under g f)
  under_off Always f h = absurd h
  under_off (When n) f h = λ none. none.0 (neg_is_true_off n h)
  under_off Never f h = tt

  -- what holds under a guard that is true holds
  pub from_under : (g : Guard) (f : Formula) → IsOn g m → True cs m [] (under g f) → True cs m [] f
  from_under Always f h t = t
  from_under (When n) f h t = formula_stable cs m [] f (λ k. t ((λ x. not_both cs m [] (is_true (guard_term n)) (is_true_on n h) x), (k, tt)))
  from_under Never f h t = absurd h

  pub side_on : (g : Guard) (n : ℕ) (f : Formula) → IsOn g m → True cs m [] f → True cs m [] (side g n f)
  side_on Always n f h t = λ none. none.1.0 t
  side_on (When g) n f h t = λ none. none.1.0 (is_true_on g h, (t, tt))
  side_on Never n f h t = absurd h

  pub side_off : (g : Guard) (n : ℕ) (f : Formula) → m.truths n ≡ false → True cs m [] (side g n f)
  side_off Always n f e = λ none. none.0 (neg_is_true_off n e)
  side_off (When g) n f e = λ none. none.0 (neg_is_true_off n e)
  side_off Never n f e = λ none. none.0 (neg_is_true_off n e)

  -- the premise of a join: where n is true one of the two is reached
  abbrev pub either_guard : Guard → Guard → ℕ → Formula
  either_guard g h n = or_of (neg (is_true (guard_term n)) ∷ guard_formula g ∷ guard_formula h ∷ [])

  pub join_off : (g h : Guard) (n : ℕ) → m.truths n ≡ false → True cs m [] (either_guard g h n)
  join_off g h n e = λ none. none.0 (neg_is_true_off n e)

  pub join_first_on : (g h : Guard) (n : ℕ) → IsOn g m → True cs m [] (either_guard g h n)
  join_first_on g h n t = λ none. none.1.0 (guard_formula_on g t)

  pub join_second_on : (g h : Guard) (n : ℕ) → IsOn h m → True cs m [] (either_guard g h n)
  join_second_on g h n t = λ none. none.1.1.0 (guard_formula_on h t)
