-- The choices of a ground form, one after the other.
use Rattle.std.proofs.Common.{◌≡◌, ℕ, List, [], ◌∷◌, ◌++◌, map, true, false, ◌&&◌, Option, Some, None, refl, sym, ◌∙◌, ap, subst, ⊎_elim, map-id}
use Rattle.std.specs.Prelude.{option_and_then}
use Rattle.std.specs.List.{Contains, list_any}
use Rattle.std.proofs.lemmas.Bool.{and_parts, and_from, or_parts}
use Rattle.std.proofs.lemmas.List.{map_push}
use Rattle.std.proofs.lemmas.List.Folds.{list_any-append}
use Rattle.std.proofs.lemmas.List.Elements.{Contains-append_left, Contains-push, Contains-append_cases, Contains-push_cases}
use Rattle.ss_core.specs.Tree.{ClassTree}
use Rattle.ss_logic.specs.declared.Sort.{Sort}
use Rattle.ss_logic.specs.Terms.{Term}
use Rattle.ss_logic.specs.Formulas.{Formula, Forall, Exists, are_bound_sorts, is_well_formed, avoids, neg, put}
use Rattle.ss_logic.proofs.Truth.{neg_neg}
use Rattle.ss_logic.specs.Shapes.{when}
use Rattle.ss_logic_means.specs.Sorts.{AreWellFormed}
use Rattle.ss_logic_means.proofs.Sorting.{more_formed, neg_formed}
use Rattle.ss_logic_means.proofs.Putting.{choice_formed}
use Rattle.ss_logic_means.specs.Steps.{Line, Choose, State, Open, are_constants, are_new, chosen, choice, step, run}
use Rattle.ss_logic.specs.Occurring.{quantified_in, all_terms}
use Rattle.ss_logic.specs.Opened.{is_numbered, fresh_constants, replaced}
use Rattle.ss_logic.proofs.Lists.{contains_split, contains_none, map_from, all_from}
use Rattle.ss_logic_means.specs.Origins.{Choice, opened_at, opened_by, chosen_by, choose, AreAccepted}
use Rattle.ss_logic_means.specs.Starting.{Avoids, IsStart}
use Rattle.ss_logic_means.proofs.Fresh.{AllAvoid, fresh_are_new, fresh_are_constants, fresh_avoid}
use Rattle.ss_logic_means.proofs.Avoiding.{neg_avoids, put_avoids, replaced_avoids, quantified_avoids, terms_avoid_all}
use Rattle.ss_logic_means.proofs.Formed.{each_formed, all_formed, quantified_formed, replaced_formed}

-- ---- formulas opened by one choice more

opened_more : (choices : List Choice) (c : Choice) (f : Formula) → opened_by (choices ++ c ∷ []) f ≡ opened_at c.whole c.constants (opened_by choices f)
opened_more [] c f = refl
opened_more (d ∷ choices) c f = opened_more choices c (opened_at d.whole d.constants f)

all_opened_more : (choices : List Choice) (c : Choice) (fs : List Formula) → map (opened_at c.whole c.constants) (map (opened_by choices) fs) ≡ map (opened_by (choices ++ c ∷ [])) fs
all_opened_more choices c [] = refl
all_opened_more choices c (f ∷ fs) =
    ap (λ x. x ∷ map (opened_at c.whole c.constants) (map (opened_by choices) fs)) (sym (opened_more choices c f))
    ∙ ap (λ xs. opened_by (choices ++ c ∷ []) f ∷ xs) (all_opened_more choices c fs)

all_avoid : (used : List Term) (fs : List Formula) → ((f : Formula) → Contains fs f → Avoids used f) → AllAvoid used fs
all_avoid used fs h s k none = all_from (avoids s k) fs (λ f c. h f c s k none)

module _ (cs : List ClassTree) (premises : List Formula) (goal : Formula) where
  -- ---- one line more

  none_is : (s : State) → None ≡ Some s → ⊥
  none_is s e = cc

  run_next : (state : State) (lines : List Line) (line : Line) (s t : State) → run cs premises goal state lines ≡ Some s → step cs premises goal s line ≡ Some t → run cs premises goal state (lines ++ line ∷ []) ≡ Some t
  run_next state [] line s t e f =
      let same : state ≡ s = cc in
      ap (option_and_then (λ (next : State). run cs premises goal next [])) (ap (λ (x : State). step cs premises goal x line) same ∙ f)
  run_next state (l ∷ lines) line s t e f = by (step cs premises goal state l) e (λ u k. run_next u lines line s t k f)
    where
      by : (o : Option State) → option_and_then (λ (next : State). run cs premises goal next lines) o ≡ Some s → ((u : State) → run cs premises goal u lines ≡ Some s → run cs premises goal u (lines ++ line ∷ []) ≡ Some t) →
          option_and_then (λ (next : State). run cs premises goal next (lines ++ line ∷ [])) o ≡ Some t
      by None e later = absurd (none_is s e)
      by (Some u) e later = later u e

  -- ---- the choices so far

  pub at_first : IsStart cs premises goal (all_terms (premises ++ neg goal ∷ [])) (premises ++ neg goal ∷ []) []
  at_first = record {
    opened = map-id (premises ++ neg goal ∷ []);
    given = λ f c. ⊎_elim (λ e. subst (Avoids (all_terms (premises ++ neg goal ∷ []))) e goal_avoids) (λ k. avoid f (Contains-append_left premises (neg goal ∷ []) f k)) (contains_split goal premises f c);
    known = λ f c. absurd (contains_none f c);
    listed = avoid;
    formed = λ h. more_formed cs [] premises (neg goal ∷ []) h.1 (neg_formed cs [] goal h.0, tt);
    accepted = λ h. refl;
  }
    where
      avoid : (f : Formula) → Contains (premises ++ neg goal ∷ []) f → Avoids (all_terms (premises ++ neg goal ∷ [])) f
      avoid f c = terms_avoid_all (premises ++ neg goal ∷ []) f c

      goal_avoids : Avoids (all_terms (premises ++ neg goal ∷ [])) goal
      goal_avoids s k none = subst (λ x. avoids s k x ≡ true) (neg_neg goal) (neg_avoids s k (neg goal) (avoid (neg goal) (Contains-push premises (neg goal)) s k none))

  -- the next `exists`, at constants that are new
  module _ (used : List Term) (fs : List Formula) (choices : List Choice) (start : IsStart cs premises goal used fs choices) (ss : List Sort) (h f : Formula) (in_list : Contains fs f) (there : Contains (quantified_in f) (Exists ss h)) where
    abbrev ts : List Term
    ts = fresh_constants ss used

    abbrev next : Choice
    next = record { whole = Exists ss h; constants = fresh_constants ss used }

    exists_avoids : Avoids used (Exists ss h)
    exists_avoids s k none = quantified_avoids s k f (Exists ss h) there (start.listed f in_list s k none)

    not_used : (s : Sort) (k : ℕ) → list_any (is_numbered s k) (ts ++ used) ≡ false → (list_any (is_numbered s k) ts ≡ false) × (list_any (is_numbered s k) used ≡ false)
    not_used s k none = or_parts (list_any (is_numbered s k) ts) (list_any (is_numbered s k) used) (sym (list_any-append (is_numbered s k) ts used) ∙ none)

    still : (x : Formula) → Avoids used x → Avoids (ts ++ used) x
    still x a s k none = a s k (not_used s k none).1

    body_avoids : Avoids (ts ++ used) (put ts h)
    body_avoids s k none = let p = not_used s k none in put_avoids s k ts (fresh_avoid s k ss used p.0) h (exists_avoids s k p.1)

    chosen_avoids : Avoids (ts ++ used) (chosen ss h ts)
    chosen_avoids s k none =
        and_from (avoids s k (neg h)) (avoids s k (put ts h) && true) (neg_avoids s k h (exists_avoids s k (not_used s k none).1)) (and_from (avoids s k (put ts h)) true (body_avoids s k none) refl)

    -- ---- the line

    module _ (given : AreWellFormed cs [] (goal ∷ premises)) where
      exists_formed : is_well_formed cs [] (Exists ss h) ≡ true
      exists_formed = quantified_formed cs [] f (Exists ss h) there (each_formed cs [] fs (start.formed given) f in_list)

      are : are_constants ss ts ≡ true
      are = fresh_are_constants ss used (and_parts (are_bound_sorts ss) (is_well_formed cs ss h) exists_formed).0

      new : are_new (h ∷ goal ∷ premises ++ map chosen_by choices) ts ≡ true
      new = fresh_are_new ss used (h ∷ goal ∷ premises ++ map chosen_by choices) (all_avoid used (h ∷ goal ∷ premises ++ map chosen_by choices) each)
        where
          each : (x : Formula) → Contains (h ∷ goal ∷ premises ++ map chosen_by choices) x → Avoids used x
          each x c = ⊎_elim
              (λ e. subst (Avoids used) e exists_avoids)
              (λ k. ⊎_elim (λ a. start.given x a) (λ b. start.known x b) (Contains-append_cases (goal ∷ premises) (map chosen_by choices) x k))
              (contains_split h (goal ∷ premises ++ map chosen_by choices) x c)

      is_chosen : choice (goal ∷ premises ++ map chosen_by choices) (Exists ss h) ts ≡ Some (chosen ss h ts)
      is_chosen = ap (λ b. when b (chosen ss h ts)) (and_from (are_constants ss ts) (are_new (h ∷ goal ∷ premises ++ map chosen_by choices) ts) are new)

      chosen_formed : is_well_formed cs [] (chosen ss h ts) ≡ true
      chosen_formed = choice_formed cs ss h ts exists_formed are

      is_step : step cs premises goal (Open (map chosen_by choices) []) (Choose (Exists ss h) ts) ≡ Some (Open (map chosen_by choices ++ chosen ss h ts ∷ []) [])
      is_step =
          ap (option_and_then (λ (x : Formula). when (is_well_formed cs [] x) (Open (map chosen_by choices ++ x ∷ []) []))) is_chosen
          ∙ ap (λ b. when b (Open (map chosen_by choices ++ chosen ss h ts ∷ []) [])) chosen_formed

      put_formed : is_well_formed cs [] (put ts h) ≡ true
      put_formed = (and_parts (is_well_formed cs [] (put ts h)) true (and_parts (is_well_formed cs [] (Forall ss (neg h))) (is_well_formed cs [] (put ts h) && true) chosen_formed).1).0

      next_accepted : AreAccepted cs premises goal (choices ++ next ∷ [])
      next_accepted =
          ap (run cs premises goal (Open [] [])) (map_push choose choices next)
          ∙ run_next (Open [] []) (map choose choices) (choose next) (Open (map chosen_by choices) []) (Open (map chosen_by choices ++ chosen ss h ts ∷ []) []) (start.accepted given) is_step
          ∙ ap (λ (known : List Formula). Some (Open known [])) (sym (map_push chosen_by choices next))

    pub goes_on : IsStart cs premises goal (fresh_constants ss used ++ used) (map (replaced (Exists ss h) (put (fresh_constants ss used) h)) fs) (choices ++ (record { whole = Exists ss h; constants = fresh_constants ss used }) ∷ [])
    goes_on = record {
      opened = sym (all_opened_more choices next (premises ++ neg goal ∷ [])) ∙ ap (map (opened_at (Exists ss h) ts)) start.opened;
      given = λ x c. still x (start.given x c);
      known = λ x c. ⊎_elim
          (λ k. still x (start.known x k))
          (λ e. subst (Avoids (ts ++ used)) e chosen_avoids)
          (Contains-push_cases (map chosen_by choices) (chosen_by next) x (subst (λ xs. Contains xs x) (map_push chosen_by choices next) c));
      listed = λ y c.
          let r = map_from (replaced (Exists ss h) (put ts h)) fs y c in
          subst (Avoids (ts ++ used)) r.2 (λ s k none. replaced_avoids s k (Exists ss h) (put ts h) (body_avoids s k none) r.0 (still r.0 (start.listed r.0 r.1) s k none));
      formed = λ g. all_formed cs [] (map (replaced (Exists ss h) (put ts h)) fs) (λ y c.
          let r = map_from (replaced (Exists ss h) (put ts h)) fs y c in
          subst (λ x. is_well_formed cs [] x ≡ true) r.2 (replaced_formed cs (Exists ss h) (put ts h) (put_formed g) r.0 (each_formed cs [] fs (start.formed g) r.0 r.1)));
      accepted = next_accepted;
    }
