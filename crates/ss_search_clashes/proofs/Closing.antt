-- Lines that close a case close it before others that wait.
use Rattle.std.proofs.Common.{◌≡◌, ℕ, List, [], ◌∷◌, ◌++◌, map, Bool, true, false, ◌&&◌, ◌==◌, Option, Some, None, refl, sym, ◌∙◌, ap, append_assoc}
use Rattle.std.specs.Prelude.{slice_get, option_and_then}
use Rattle.std.proofs.lemmas.Bool.{and_from, eq-eqb}
use Rattle.ss_core.specs.Tree.{ClassTree}
use Rattle.ss_logic.specs.Formulas.{Formula, Formulas, Or, formula_list, is_well_formed, neg}
use Rattle.ss_logic.specs.Shapes.{when}
use Rattle.ss_logic_means.specs.Steps.{Line, Split, Cut, Clash, Case, Premise, Denied, Part, Inst, Choose, Rule, GoodLine, InvariantsLine, Chain, Cong, Swap, Sum, Nowhere, count_of, cases_of, is_cut, fact_of, is_clash, State, Open, Between, open_cases, add_fact, split_case, cut_case, close_case, step, run}
use Rattle.ss_logic_means.proofs.Sound.{and_then_some, when_some}
use Rattle.ss_search_clashes.specs.Closing.{Closes, cases_in_turn, CloseEach}

when_true : {A : Type 0} (b : Bool) (x : A) → b ≡ true → when b x ≡ Some x
when_true true x e = refl
when_true false x e = cc

module _ (cs : List ClassTree) (premises : List Formula) (goal : Formula) where
  -- ---- cases that wait after

  abbrev behind : List (List Formula) → State → State
  behind others (Open known waiting) = Open known (waiting ++ others)
  behind others (Between waiting) = Between (waiting ++ others)

  module _ (others : List (List Formula)) where
    fact_after : (known : List Formula) (waiting : List (List Formula)) (o : Option Formula) (next : State) → add_fact cs known waiting o ≡ Some next → add_fact cs known (waiting ++ others) o ≡ Some (behind others next)
    fact_after known waiting None next e = cc
    fact_after known waiting (Some f) next e =
        let w = when_some (is_well_formed cs [] f) (Open (known ++ f ∷ []) waiting) next e in
        when_true (is_well_formed cs [] f) (Open (known ++ f ∷ []) (waiting ++ others)) w.0 ∙ ap (λ s. Some (behind others s)) w.1

    opened_after : (known : List Formula) (waiting : List (List Formula)) (fs : List Formula) → behind others (open_cases known waiting fs) ≡ open_cases known (waiting ++ others) fs
    opened_after known waiting fs = ap Between (append_assoc (map (λ f. known ++ f ∷ []) fs) waiting others)

    split_after : (known : List Formula) (waiting : List (List Formula)) (k : ℕ) (o : Option Formula) (next : State) → split_case known waiting k o ≡ Some next → split_case known (waiting ++ others) k o ≡ Some (behind others next)
    split_after known waiting k o next e = by (option_and_then (cases_of k) o) e
      where
        by : (p : Option (List Formula)) → option_and_then (λ fs. Some (open_cases known waiting fs)) p ≡ Some next → option_and_then (λ fs. Some (open_cases known (waiting ++ others) fs)) p ≡ Some (behind others next)
        by None h = cc
        by (Some fs) h = let same : open_cases known waiting fs ≡ next = cc in ap Some (sym (opened_after known waiting fs)) ∙ ap (λ s. Some (behind others s)) same

    cut_after : (known : List Formula) (waiting : List (List Formula)) (f : Formula) (next : State) → cut_case cs known waiting f ≡ Some next → cut_case cs known (waiting ++ others) f ≡ Some (behind others next)
    cut_after known waiting f next e =
        let w = when_some (is_cut f && is_well_formed cs [] f) (open_cases known waiting (f ∷ neg f ∷ [])) next e in
        when_true (is_cut f && is_well_formed cs [] f) (open_cases known (waiting ++ others) (f ∷ neg f ∷ [])) w.0
        ∙ ap Some (sym (opened_after known waiting (f ∷ neg f ∷ []))) ∙ ap (λ s. Some (behind others s)) w.1

    close_after : (known : List Formula) (waiting : List (List Formula)) (i j : ℕ) (next : State) → close_case known waiting i j ≡ Some next → close_case known (waiting ++ others) i j ≡ Some (behind others next)
    close_after known waiting i j next e =
        let w = when_some (is_clash i j (slice_get known i) (slice_get known j)) (Between waiting) next e in
        when_true (is_clash i j (slice_get known i) (slice_get known j)) (Between (waiting ++ others)) w.0 ∙ ap (λ s. Some (behind others s)) w.1

    step_after : (state : State) (line : Line) (next : State) → step cs premises goal state line ≡ Some next → step cs premises goal (behind others state) line ≡ Some (behind others next)
    step_after (Open known waiting) (Split i k) next e = split_after known waiting k (slice_get known i) next e
    step_after (Open known waiting) (Cut f) next e = cut_after known waiting f next e
    step_after (Open known waiting) (Clash i j) next e = close_after known waiting i j next e
    step_after (Open known waiting) (Premise i) next e = fact_after known waiting (fact_of cs premises goal known (Premise i)) next e
    step_after (Open known waiting) Denied next e = fact_after known waiting (fact_of cs premises goal known Denied) next e
    step_after (Open known waiting) (Part i j) next e = fact_after known waiting (fact_of cs premises goal known (Part i j)) next e
    step_after (Open known waiting) (Inst i ts) next e = fact_after known waiting (fact_of cs premises goal known (Inst i ts)) next e
    step_after (Open known waiting) (Choose f ts) next e = fact_after known waiting (fact_of cs premises goal known (Choose f ts)) next e
    step_after (Open known waiting) (Rule name ts) next e = fact_after known waiting (fact_of cs premises goal known (Rule name ts)) next e
    step_after (Open known waiting) (GoodLine name i ts) next e = fact_after known waiting (fact_of cs premises goal known (GoodLine name i ts)) next e
    step_after (Open known waiting) (InvariantsLine i ts) next e = fact_after known waiting (fact_of cs premises goal known (InvariantsLine i ts)) next e
    step_after (Open known waiting) (Chain x y is) next e = fact_after known waiting (fact_of cs premises goal known (Chain x y is)) next e
    step_after (Open known waiting) (Cong x y is) next e = fact_after known waiting (fact_of cs premises goal known (Cong x y is)) next e
    step_after (Open known waiting) (Swap i f js) next e = fact_after known waiting (fact_of cs premises goal known (Swap i f js)) next e
    step_after (Open known waiting) (Sum d ps) next e = fact_after known waiting (fact_of cs premises goal known (Sum d ps)) next e
    step_after (Open known waiting) Case next e = cc
    step_after (Open known waiting) Nowhere next e = cc
    step_after (Between []) line next e = cc
    step_after (Between (known ∷ waiting)) Case next e = let same : Open known waiting ≡ next = cc in ap (λ s. Some (behind others s)) same
    step_after (Between (known ∷ waiting)) line next e = cc

    run_behind : (lines : List Line) (state next : State) → run cs premises goal state lines ≡ Some next → run cs premises goal (behind others state) lines ≡ Some (behind others next)
    run_behind [] state next e = let same : state ≡ next = cc in ap (λ s. Some (behind others s)) same
    run_behind (line ∷ lines) state next e =
        let s = and_then_some (λ x. run cs premises goal x lines) (step cs premises goal state line) next e in
        ap (option_and_then (λ x. run cs premises goal x lines)) (step_after state line s.0 s.1) ∙ run_behind lines s.0 next s.2

    pub closes_after : (known : List Formula) (lines : List Line) → Closes cs premises goal known lines → run cs premises goal (Open known others) lines ≡ Some (Between others)
    closes_after known lines e = run_behind lines (Open known []) (Between []) e

  -- ---- lines after lines

  pub run_after : (lines more : List Line) (state between : State) → run cs premises goal state lines ≡ Some between → run cs premises goal state (lines ++ more) ≡ run cs premises goal between more
  run_after [] more state between e = let same : state ≡ between = cc in ap (λ s. run cs premises goal s more) same
  run_after (line ∷ lines) more state between e =
      let s = and_then_some (λ x. run cs premises goal x lines) (step cs premises goal state line) between e in
      ap (option_and_then (λ x. run cs premises goal x (lines ++ more))) s.1 ∙ run_after lines more s.0 between s.2

  -- ---- one line more

  step_of_fact : (known : List Formula) (line : Line) (f : Formula) → fact_of cs premises goal known line ≡ Some f → step cs premises goal (Open known []) line ≡ add_fact cs known [] (Some f)
  step_of_fact known (Split i k) f e = cc
  step_of_fact known (Cut g) f e = cc
  step_of_fact known (Clash i j) f e = cc
  step_of_fact known line f e = ap (add_fact cs known []) e

  pub closes_fact : (known : List Formula) (line : Line) (f : Formula) (lines : List Line) → fact_of cs premises goal known line ≡ Some f → is_well_formed cs [] f ≡ true →
      Closes cs premises goal (known ++ f ∷ []) lines → Closes cs premises goal known (line ∷ lines)
  closes_fact known line f lines is formed e =
      ap (option_and_then (λ x. run cs premises goal x lines)) (step_of_fact known line f is ∙ when_true (is_well_formed cs [] f) (Open (known ++ f ∷ []) []) formed) ∙ e

  pub closes_clash : (known : List Formula) (i j : ℕ) → is_clash i j (slice_get known i) (slice_get known j) ≡ true → Closes cs premises goal known (Clash i j ∷ [])
  closes_clash known i j e = ap (option_and_then (λ x. run cs premises goal x [])) (when_true (is_clash i j (slice_get known i) (slice_get known j)) (Between []) e)

  -- cases that wait, each closed in its turn
  in_turn : (known : List Formula) (fs : List Formula) (others : List (List Line)) → CloseEach cs premises goal known fs others → run cs premises goal (Between (map (λ f. known ++ f ∷ []) fs)) (cases_in_turn others) ≡ Some (Between [])
  in_turn known [] [] h = refl
  in_turn known [] (lines ∷ others) h = absurd h
  in_turn known (f ∷ fs) [] h = absurd h
  in_turn known (f ∷ fs) (lines ∷ others) h =
      run_after lines (cases_in_turn others) (Open (known ++ f ∷ []) (map (λ g. known ++ g ∷ []) fs)) (Between (map (λ g. known ++ g ∷ []) fs))
      (closes_after (map (λ g. known ++ g ∷ []) fs) (known ++ f ∷ []) lines h.0)
      ∙ in_turn known fs others h.1

  none_after : {A : Type 0} (xs : List A) → xs ++ [] ≡ xs
  none_after [] = refl
  none_after (x ∷ xs) = ap (λ ys. x ∷ ys) (none_after xs)

  opened : (known : List Formula) (fs : List Formula) (others : List (List Line)) → CloseEach cs premises goal known fs others → run cs premises goal (open_cases known [] fs) (cases_in_turn others) ≡ Some (Between [])
  opened known fs others h = ap (λ ws. run cs premises goal (Between ws) (cases_in_turn others)) (none_after (map (λ f. known ++ f ∷ []) fs)) ∙ in_turn known fs others h

  pub closes_split : (known : List Formula) (i : ℕ) (fs : Formulas) (others : List (List Line)) → slice_get known i ≡ Some (Or fs) → CloseEach cs premises goal known (formula_list fs) others →
      Closes cs premises goal known (Split i (count_of fs) ∷ cases_in_turn others)
  closes_split known i fs others is h =
      ap (option_and_then (λ x. run cs premises goal x (cases_in_turn others)))
      (ap (split_case known [] (count_of fs)) is ∙ ap (option_and_then (λ gs. Some (open_cases known [] gs))) (when_true (count_of fs == count_of fs) (formula_list fs) (eq-eqb (count_of fs) (count_of fs) refl)))
      ∙ opened known (formula_list fs) others h

  pub closes_cut : (known : List Formula) (f : Formula) (one two : List Line) → is_cut f ≡ true → is_well_formed cs [] f ≡ true → Closes cs premises goal (known ++ f ∷ []) one → Closes cs premises goal (known ++ neg f ∷ []) two →
      Closes cs premises goal known (Cut f ∷ cases_in_turn (one ∷ two ∷ []))
  closes_cut known f one two cut formed a b =
      ap (option_and_then (λ x. run cs premises goal x (cases_in_turn (one ∷ two ∷ []))))
      (when_true (is_cut f && is_well_formed cs [] f) (open_cases known [] (f ∷ neg f ∷ [])) (and_from (is_cut f) (is_well_formed cs [] f) cut formed))
      ∙ opened known (f ∷ neg f ∷ []) (one ∷ two ∷ []) (a, (b, tt))
