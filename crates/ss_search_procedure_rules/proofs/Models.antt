-- What is saturated and total is a model, and what is closed has none.
use Rattle.std.proofs.Common.{◌≡◌, List, [], ◌∷◌, Bool, true, false, not, ◌&&◌, ◌||◌, refl, sym, ◌∙◌, ap, subst, inl, inr, ◌⊎◌, ⊎_elim}
use Rattle.std.specs.Bool.{beq}
use Rattle.std.specs.List.{Contains}
use Rattle.std.proofs.lemmas.Bool.{true≢false, and_from}
use Rattle.std.proofs.lemmas.List.Elements.{Contains-append_left, Contains-append_right}
use Rattle.ss_logic.specs.Formulas.{Formula, Formulas, Literal, And, Or, Forall, Exists, no_formulas, formula_then, formula_list, neg, neg_all}
use Rattle.ss_logic.proofs.Truth.{neg_neg}
use Rattle.ss_core.specs.Tree.{ClassTree}
use Rattle.ss_logic_countermodels.specs.Refuting.{Model, Agrees, Refutes, comes_out, all_come_true, some_comes_true, told_in, all_told_in, facts_of}
use Rattle.ss_logic.specs.Includes.{Includes}
use Rattle.ss_search_procedure_rules.specs.Closed.{is_basic, basics, Fits, MayHold, AllMayHold, SomeMayHold, TwoMayHold, IsSatisfied, IsSaturated, IsTotal}
use Rattle.ss_logic.proofs.Lists.{contains_head, contains_cons, contains_split, contains_none, contains_filter, all_at, all_from}
use Rattle.ss_search_procedure_rules.proofs.Told.{is_told, atom_told, is_atom, Tells, model_of_fewer}
use Rattle.ss_search_procedure_rules.proofs.Sums.{two_of_more}

-- ---- negations

beq_not : (t s : Bool) → beq t (not s) ≡ not (beq t s)
beq_not true true = refl
beq_not true false = refl
beq_not false true = refl
beq_not false false = refl

not_twice : (b : Bool) → b ≡ not (not b)
not_twice true = refl
not_twice false = refl

not_and : (a b : Bool) → (not a || not b) ≡ not (a && b)
not_and true b = refl
not_and false b = refl

not_or : (a b : Bool) → (not a && not b) ≡ not (a || b)
not_or true b = refl
not_or false b = refl

mutual
  pub negated : (m : Model) (f : Formula) → comes_out m (neg f) ≡ not (comes_out m f)
  negated m (Literal sign p ts) = beq_not (m.truth (Literal true p ts)) sign
  negated m (And fs) = some_negated m fs
  negated m (Or fs) = all_negated m fs
  negated m (Forall ss f) = ap (λ g. not (m.truth (Forall ss g))) (neg_neg f)
  negated m (Exists ss f) = not_twice (m.truth (Forall ss (neg f)))

  some_negated : (m : Model) (fs : Formulas) → some_comes_true m (neg_all fs) ≡ not (all_come_true m fs)
  some_negated m no_formulas = refl
  some_negated m (formula_then f fs) = ap (λ b. b || some_comes_true m (neg_all fs)) (negated m f) ∙ ap (λ b. not (comes_out m f) || b) (some_negated m fs) ∙ not_and (comes_out m f) (all_come_true m fs)

  all_negated : (m : Model) (fs : Formulas) → all_come_true m (neg_all fs) ≡ not (some_comes_true m fs)
  all_negated m no_formulas = refl
  all_negated m (formula_then f fs) = ap (λ b. b && all_come_true m (neg_all fs)) (negated m f) ∙ ap (λ b. not (comes_out m f) && b) (all_negated m fs) ∙ not_or (comes_out m f) (some_comes_true m fs)

pub not_both : (m : Model) (f : Formula) → comes_out m f ≡ true → comes_out m (neg f) ≡ true → ⊥
not_both m f a b = true≢false (sym b ∙ negated m f ∙ ap not a)

or_left : (a b : Bool) → a ≡ true → (a || b) ≡ true
or_left a b e = ap (λ x. x || b) e

or_right : (a b : Bool) → b ≡ true → (a || b) ≡ true
or_right true b e = refl
or_right false b e = e

two_some : (known : List Formula) (fs : Formulas) → TwoMayHold known fs → SomeMayHold known fs
two_some known no_formulas h = h
two_some known (formula_then f fs) h = ⊎_elim (λ a. inl a.0) (λ b. inr (two_some known fs b)) h

-- ---- saturated and total

module _ (cs : List ClassTree) (reached : List Formula) (saturated : IsSaturated cs reached) (total : IsTotal reached) where
  abbrev m : Model
  m = saturated.model

  basic_true : (f : Formula) → is_basic f ≡ true → Contains reached f → comes_out m f ≡ true
  basic_true f b h = all_at (comes_out m) (basics reached) f saturated.refutes.agrees.true_ones (contains_filter is_basic reached f h b)

  -- what fits the known literals is opposed to none
  unopposed : (f g : Formula) → Fits (f ∷ basics reached) → is_basic g ≡ true → Contains reached g → neg g ≡ f → ⊥
  unopposed f g x b h e =
      let all : (k : Formula) → Contains (f ∷ basics reached) k → comes_out x.model k ≡ true = λ k. all_at (comes_out x.model) (f ∷ basics reached) k x.agrees.true_ones in
      not_both x.model g
      (all g (contains_cons f (basics reached) g (contains_filter is_basic reached g h b)))
      (subst (λ k. comes_out x.model k ≡ true) (sym e) (all f (contains_head f (basics reached))))

  abbrev TotalOn : List Formula → Type 0
  TotalOn told = (p : Formula) → Contains told p → Contains reached p ⊎ Contains reached (neg p)

  mutual
    may_true : (f : Formula) → TotalOn (told_in f) → MayHold (basics reached) f → comes_out m f ≡ true
    may_true (Literal true p ts) t h = ⊎_elim
        (λ k. basic_true (Literal true p ts) refl k)
        (λ k. absurd (unopposed (Literal true p ts) (Literal false p ts) h refl k refl))
        (t (Literal true p ts) (contains_head (Literal true p ts) []))
    may_true (Literal false p ts) t h = ⊎_elim
        (λ k. absurd (unopposed (Literal false p ts) (Literal true p ts) h refl k refl))
        (λ k. basic_true (Literal false p ts) refl k)
        (t (Literal true p ts) (contains_head (Literal true p ts) []))
    may_true (And fs) t h = all_may_true fs t h
    may_true (Or fs) t h = some_may_true fs t h
    may_true (Forall ss f) t h = ⊎_elim
        (λ k. basic_true (Forall ss f) refl k)
        (λ k. absurd (unopposed (Forall ss f) (Exists ss (neg f)) h refl k (ap (Forall ss) (neg_neg f))))
        (t (Forall ss f) (contains_head (Forall ss f) []))
    may_true (Exists ss f) t h = ⊎_elim
        (λ k. absurd (unopposed (Exists ss f) (Forall ss (neg f)) h refl k (ap (Exists ss) (neg_neg f))))
        (λ k. basic_true (Exists ss f) refl (subst (Contains reached) (ap (Exists ss) (neg_neg f)) k))
        (t (Forall ss (neg f)) (contains_head (Forall ss (neg f)) []))

    all_may_true : (fs : Formulas) → TotalOn (all_told_in fs) → AllMayHold (basics reached) fs → all_come_true m fs ≡ true
    all_may_true no_formulas t h = refl
    all_may_true (formula_then f fs) t h = and_from (comes_out m f) (all_come_true m fs)
        (may_true f (λ p k. t p (Contains-append_left (told_in f) (all_told_in fs) p k)) h.0)
        (all_may_true fs (λ p k. t p (Contains-append_right (told_in f) (all_told_in fs) p k)) h.1)

    some_may_true : (fs : Formulas) → TotalOn (all_told_in fs) → SomeMayHold (basics reached) fs → some_comes_true m fs ≡ true
    some_may_true no_formulas t h = absurd h
    some_may_true (formula_then f fs) t h = ⊎_elim
        (λ a. or_left (comes_out m f) (some_comes_true m fs) (may_true f (λ p k. t p (Contains-append_left (told_in f) (all_told_in fs) p k)) a))
        (λ b. or_right (comes_out m f) (some_comes_true m fs) (some_may_true fs (λ p k. t p (Contains-append_right (told_in f) (all_told_in fs) p k)) b))
        h

  mutual
    reached_true : (f : Formula) → Contains reached f → comes_out m f ≡ true
    reached_true (Literal sign p ts) h = basic_true (Literal sign p ts) refl h
    reached_true (And fs) h = all_reached fs (saturated.parts fs h)
    reached_true (Or fs) h = ⊎_elim
        (λ a. some_met fs a)
        (λ b. some_may_true fs (λ p k. total p (Or fs, h, k)) (two_some (basics reached) fs b))
        (saturated.branches fs h)
    reached_true (Forall ss f) h = basic_true (Forall ss f) refl h
    reached_true (Exists ss f) h = basic_true (Exists ss f) refl h

    all_reached : (fs : Formulas) → Includes reached (formula_list fs) → all_come_true m fs ≡ true
    all_reached no_formulas i = refl
    all_reached (formula_then f fs) i = and_from (comes_out m f) (all_come_true m fs)
        (reached_true f (i f (contains_head f (formula_list fs))))
        (all_reached fs (λ g k. i g (contains_cons f (formula_list fs) g k)))

    some_met : (fs : Formulas) → IsSatisfied reached fs → some_comes_true m fs ≡ true
    some_met no_formulas s = absurd (contains_none s.0 s.1)
    some_met (formula_then f fs) s = ⊎_elim
        (λ e. or_left (comes_out m f) (some_comes_true m fs) (reached_true f (subst (Contains reached) (sym e) s.2)))
        (λ k. or_right (comes_out m f) (some_comes_true m fs) (some_met fs (s.0, k, s.2)))
        (contains_split f (formula_list fs) s.0 s.1)

  pub tells : (fs : List Formula) → Includes reached fs → Tells (basics reached) fs
  tells fs i = record {
    formulas = λ g p h k.
        let t = is_told g p k in
        ⊎_elim
        (λ a. (p, contains_filter is_basic reached p a t.basic, t.in_itself))
        (λ b. (neg p, contains_filter is_basic reached (neg p) b t.negation_basic, t.in_negation))
        (total p (g, i g h, k));
    atoms = λ g a h k.
        let t = is_told g a (atom_told g a k) in
        let s = is_atom g a k in
        ⊎_elim
        (λ x. (a, contains_filter is_basic reached a x t.basic, s.in_itself))
        (λ x. (neg a, contains_filter is_basic reached (neg a) x t.negation_basic, s.in_negation))
        (total a (g, i g h, atom_told g a k));
  }

  pub agreeing : (fs : List Formula) → Includes reached fs → Agrees saturated.model fs
  agreeing fs i = model_of_fewer m (basics reached) fs (tells fs i) (all_from (comes_out m) fs (λ f k. reached_true f (i f k))) saturated.refutes.agrees

  pub is_model : (fs : List Formula) → Includes reached fs → Includes (facts_of cs saturated.model (basics reached)) (facts_of cs saturated.model fs) → Refutes cs saturated.model fs
  is_model fs i facts = record {
    agrees = agreeing fs i;
    numbers = λ t. saturated.refutes.numbers (two_of_more cs (facts_of cs m fs) (facts_of cs m (basics reached)) facts t);
  }
