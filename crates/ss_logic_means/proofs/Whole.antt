-- Formulas that come from well formed premises are well formed.
use Rattle.std.proofs.Common.{◌≡◌, ℕ, zero, suc, ◌+◌, ◌≤◌, List, [], ◌∷◌, ◌++◌, length, map, take, true, false, ◌&&◌, Option, Some, None, refl, sym, ◌∙◌, ap, subst, ⊎_elim, arith}
use Rattle.std.specs.Prelude.{slice_get, option_map}
use Rattle.std.proofs.lemmas.List.{take_all}
use Rattle.std.proofs.lemmas.Bool.{and_parts, and_from}
use Rattle.ss_core.specs.Tree.{ClassTree}
use Rattle.ss_logic.specs.declared.Sort.TheVariants as sort
use Rattle.ss_logic.specs.Terms.{Term, have_sorts}
use Rattle.ss_logic.specs.Formulas.{Good, Formula, Forall, Exists, no_atom, is_well_formed, neg, put}
use Rattle.ss_logic.specs.Shapes.{when, class_of_term}
use Rattle.ss_logic.specs.GoodRules.{good_sentence, good_instance_of}
use Rattle.ss_logic.proofs.Options.{mapped_some, if_some, when_some, and_then_some}
use Rattle.ss_logic.specs.Invariants.{invariants_at, invariants_of}
use Rattle.ss_logic_means.specs.Scenes.{AreInvariants}
use Rattle.ss_logic_means.specs.Sorts.{HasSort, AreWellFormed}
use Rattle.ss_logic_means.proofs.Stated.{instance_formed as invariants_formed}
use Rattle.ss_logic_means.proofs.Standing.{get_found}
use Rattle.ss_logic_means.proofs.Sorting.{formed_one, neg_formed}
use Rattle.ss_logic_means.proofs.Sentences.{sorted_from}
use Rattle.ss_logic_means.proofs.Ruling.{instance_formed}
use Rattle.ss_logic_means.proofs.Goods.{good_instance_formed}
use Rattle.ss_logic_means.proofs.Putting.{forall_formed}
use Rattle.ss_logic_means.specs.Steps.{State, Open, are_constants, are_new, chosen, choice, step, run}
use Rattle.ss_logic.specs.Occurring.{quantified_in}
use Rattle.ss_logic.specs.Asked.{Asked, Rule, OfGood, OfInvariants, if_good, said}
use Rattle.ss_logic_means.specs.Origins.{Choice, opened_at, opened_by, chosen_at, chosen_by, choose, AreAccepted, Origin, Premise, Denied, Said, Instance, IsInstance, IsOrigin, AreOrigins}
use Rattle.ss_logic.proofs.Occurring.{from_collected}
use Rattle.ss_logic.proofs.Lists.{contains_head, contains_cons, contains_split, contains_none}
use Rattle.ss_logic_means.proofs.Matched.{none_is, some_is}
use Rattle.ss_logic_means.proofs.Formed.{EachFormed, each_formed, quantified_formed, replaced_formed}

-- what an instance of a rule says is well formed, also where it says it of good stores alone
where_good_formed : (cs : List ClassTree) (s : Term) (g f : Formula) → if_good s g ≡ f → HasSort cs [] sort.Store s → is_well_formed cs [] g ≡ true → is_well_formed cs [] f ≡ true
where_good_formed cs s g f e h k =
    subst (λ x. is_well_formed cs [] x ≡ true) e
    (and_from (is_well_formed cs [] (no_atom Good (s ∷ []))) (is_well_formed cs [] g && true) (formed_one cs [] false Good sort.Store s refl h) (and_from (is_well_formed cs [] g) true k refl))

invariants_store : (cs : List ClassTree) (s : Term) (ts : List Term) (g : Formula) → invariants_of cs s ts ≡ Some g → HasSort cs [] sort.Store s
invariants_store cs s (o ∷ t ∷ []) g e = (sorted_from cs (sort.Store ∷ sort.Rest ∷ []) (s ∷ o ∷ []) (if_some (have_sorts cs (sort.Store ∷ sort.Rest ∷ []) (s ∷ o ∷ [])) (invariants_at cs s o (class_of_term t)) g e).0).0
invariants_store cs s [] g e = none_is g e
invariants_store cs s (o ∷ []) g e = none_is g e
invariants_store cs s (o ∷ t ∷ u ∷ ts) g e = none_is g e

said_formed : (cs : List ClassTree) → AreInvariants cs → (asked : Asked) (f : Formula) → said cs asked ≡ Some f → is_well_formed cs [] f ≡ true
said_formed cs are (Rule name ts) f e = instance_formed cs name ts f e
said_formed cs are (OfGood name s ts) f e =
    let r = mapped_some (if_good s) (good_instance_of cs name s ts) f e in
    let k = if_some (have_sorts cs (sort.Store ∷ []) (s ∷ [])) (good_sentence cs name s ts) r.0 r.1 in
    where_good_formed cs s r.0 f r.2 (sorted_from cs (sort.Store ∷ []) (s ∷ []) k.0).0 (good_instance_formed cs name s ts r.0 r.1)
said_formed cs are (OfInvariants s ts) f e =
    let r = mapped_some (if_good s) (invariants_of cs s ts) f e in
    where_good_formed cs s r.0 f r.2 (invariants_store cs s ts r.0 r.1) (invariants_formed cs are s r.0 ts r.1)

module _ (cs : List ClassTree) (premises : List Formula) (goal : Formula) where
  abbrev F : Formula → Type 0
  F f = is_well_formed cs [] f ≡ true

  -- ---- what was chosen, and what was opened

  choice_is : (used : List Formula) (w : Formula) (ts : List Term) (f : Formula) → choice used w ts ≡ Some f → chosen_at w ts ≡ f
  choice_is used (Exists ss g) ts f e = (when_some (are_constants ss ts && are_new (g ∷ used) ts) (chosen ss g ts) f e).1
  choice_is used w ts f e = none_is f e

  chosen_formed : (known : List Formula) (choices : List Choice) (s : State) → run cs premises goal (Open known []) (map choose choices) ≡ Some s → EachFormed cs [] (map chosen_by choices)
  chosen_formed known [] s e f c = absurd (contains_none f c)
  chosen_formed known (d ∷ choices) s e f c =
      let next = and_then_some (λ (t : State). run cs premises goal t (map choose choices)) (step cs premises goal (Open known []) (choose d)) s e in
      let fact = and_then_some (λ (x : Formula). when (is_well_formed cs [] x) (Open (known ++ x ∷ []) [])) (choice (goal ∷ premises ++ known) d.whole d.constants) next.0 next.1 in
      let taken = when_some (is_well_formed cs [] fact.0) (Open (known ++ fact.0 ∷ []) []) next.0 fact.2 in
      let here = choice_is (goal ∷ premises ++ known) d.whole d.constants fact.0 fact.1 in
      ⊎_elim
      (λ i. subst (λ x. F x) (sym here ∙ i) taken.0)
      (λ k. chosen_formed (known ++ fact.0 ∷ []) choices s (subst (λ (t : State). run cs premises goal t (map choose choices) ≡ Some s) (sym taken.1) next.2) f k)
      (contains_split (chosen_by d) (map chosen_by choices) f c)

  at_formed : (w : Formula) (ts : List Term) (f : Formula) → F (chosen_at w ts) → F f → F (opened_at w ts f)
  at_formed (Exists ss g) ts f h k =
      let p = and_parts (is_well_formed cs [] (Forall ss (neg g))) (is_well_formed cs [] (put ts g) && true) h in
      let q = and_parts (is_well_formed cs [] (put ts g)) true p.1 in
      replaced_formed cs (Exists ss g) (put ts g) q.0 f k
  at_formed w ts f h k = k

  opened_formed : (choices : List Choice) → EachFormed cs [] (map chosen_by choices) → (f : Formula) → F f → F (opened_by choices f)
  opened_formed [] h f k = k
  opened_formed (d ∷ choices) h f k =
      opened_formed choices (λ x c. h x (contains_cons (chosen_by d) (map chosen_by choices) x c)) (opened_at d.whole d.constants f)
      (at_formed d.whole d.constants f (h (chosen_by d) (contains_head (chosen_by d) (map chosen_by choices))) k)

  -- ---- one after the other

  got_formed : (fs : List Formula) → AreWellFormed cs [] fs → (i : ℕ) (f : Formula) → slice_get fs i ≡ Some f → F f
  got_formed [] h i f e = none_is f e
  got_formed (g ∷ fs) h zero f e = subst (λ x. F x) (some_is g f e) h.0
  got_formed (g ∷ fs) h (suc i) f e = got_formed fs h.1 i f e

  mapped_formed : (h : Formula → Formula) → ((f : Formula) → F f → F (h f)) → (o : Option Formula) (f : Formula) → ((g : Formula) → o ≡ Some g → F g) → option_map h o ≡ Some f → F f
  mapped_formed h keeps None f all e = none_is f e
  mapped_formed h keeps (Some g) f all e = subst (λ x. F x) (some_is (h g) f e) (keeps g (all g refl))

  forall_instance_formed : (before : List Formula) (w : Formula) (ts : List Term) (f : Formula) → AreWellFormed cs [] before → IsInstance cs before w ts f → F f
  forall_instance_formed before (Forall ss g) ts f h is =
      let o = from_collected quantified_in before (Forall ss g) is.0 in
      let whole = quantified_formed cs [] o.0 (Forall ss g) o.2 (each_formed cs [] before h o.0 o.1) in
      subst (λ x. F x) is.1
      (and_from (is_well_formed cs [] (neg (Forall ss g))) (is_well_formed cs [] (put ts g) && true) (neg_formed cs [] (Forall ss g) whole)
      (and_from (is_well_formed cs [] (put ts g)) true (forall_formed cs ss g ts whole (is.2 h)) refl))
  forall_instance_formed before w ts f h is = absurd is

  module _ (choices : List Choice) (given : AreWellFormed cs [] (goal ∷ premises)) (accepted : AreAccepted cs premises goal choices) (invariants : AreInvariants cs) where
    opens : (f : Formula) → F f → F (opened_by choices f)
    opens f h = opened_formed choices (chosen_formed [] choices (Open (map chosen_by choices) []) accepted) f h

    one_formed : (before : List Formula) (o : Origin) (f : Formula) → AreWellFormed cs [] before → IsOrigin cs premises goal choices before o f → F f
    one_formed before (Premise i) f h is = mapped_formed (opened_by choices) opens (slice_get premises i) f (λ g e. got_formed premises given.1 i g e) is
    one_formed before Denied f h is = subst (λ x. F x) is (opens (neg goal) (neg_formed cs [] goal given.0))
    one_formed before (Said asked) f h is = said_formed cs invariants asked f is
    one_formed before (Instance w ts) f h is = forall_instance_formed before w ts f h is

    with_last : (fs : List Formula) (f : Formula) → AreWellFormed cs [] fs → F f → AreWellFormed cs [] (fs ++ f ∷ [])
    with_last [] f h k = (k, tt)
    with_last (g ∷ fs) f h k = (h.0, with_last fs f h.1 k)

    taken_more : (fs : List Formula) (k : ℕ) (f : Formula) → slice_get fs k ≡ Some f → take (suc k) fs ≡ take k fs ++ f ∷ []
    taken_more [] k f e = none_is f e
    taken_more (g ∷ fs) zero f e = ap (λ x. x ∷ []) (some_is g f e)
    taken_more (g ∷ fs) (suc k) f e = ap (λ xs. g ∷ xs) (taken_more fs k f e)

    module _ (fs : List Formula) (os : List Origin) (are : AreOrigins cs premises goal choices fs os) where
      front_formed : (n : ℕ) → n ≤ length fs → AreWellFormed cs [] (take n fs)
      front_formed zero l = tt
      front_formed (suc n) l =
          let h = front_formed n (omega (arith, l)) in
          let f = get_found fs n (omega (arith, l)) in
          let c = are.count in
          let o = get_found os n (omega (arith, l, c)) in
          subst (AreWellFormed cs []) (sym (taken_more fs n f.0 f.1)) (with_last (take n fs) f.0 h (one_formed (take n fs) o.0 f.0 h (are.each n f.0 o.0 f.1 o.1)))

      pub listed_formed : AreWellFormed cs [] fs
      listed_formed = subst (AreWellFormed cs []) (take_all (length fs) fs (omega arith)) (front_formed (length fs) (omega arith))
