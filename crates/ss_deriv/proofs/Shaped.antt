-- What derives a goal has the shape.
use Rattle.std.proofs.Common.{◌≡◌, ℕ, suc, ◌+◌, List, [], ◌∷◌, ◌++◌, length, map, Bool, true, false, Option, Some, None, refl, sym, ◌∙◌, ap, option_and_then, zero-add}
use Rattle.std.specs.Prelude.{◌&&◌, ◌==◌, slice_get}
use Rattle.std.proofs.lemmas.List.{length-append, length-map}
use Rattle.std.proofs.lemmas.Bool.{eqb-true}
use Rattle.ss_core.specs.Tree.{ClassTree}
use Rattle.ss_logic.specs.Shapes.{when}
use Rattle.ss_logic.proofs.Options.{when_some, and_then_some}
use Rattle.ss_logic.specs.Formulas.{Formula, And, Or, Forall, Exists, Literal, Formulas, no_formulas, formula_then, formula_list, is_well_formed, neg}
use Rattle.ss_logic_means.specs.Steps as tree
use Rattle.ss_logic_means.specs.Steps.{State, Open, Between, count_of, cases_of, open_cases, add_fact, is_clash, is_cut, fact_of, step, run, Derives}
use Rattle.ss_deriv.specs.Shape.{Place, InCase, BetweenCases, after, after_all}
use Rattle.ss_deriv.specs.Trees.{turn, EndsEachCase}

place : State → Place
place (Open known waiting) = InCase (length waiting)
place (Between waiting) = BetweenCases (length waiting)

module _ (cs : List ClassTree) where
  added : (known : List Formula) (waiting : List (List Formula)) (o : Option Formula) (next : State) → add_fact cs known waiting o ≡ Some next → Some (InCase (length waiting)) ≡ Some (place next)
  unfolding place
  added known waiting None next e = cc
  added known waiting (Some f) next e = by_test (is_well_formed cs [] f) e
    where
      by_test : (t : Bool) → when t (Open (known ++ f ∷ []) waiting) ≡ Some next → Some (InCase (length waiting)) ≡ Some (place next)
      by_test false h = cc
      by_test true h = let same : Open (known ++ f ∷ []) waiting ≡ next = cc in ap (λ s. Some (place s)) same

  opened : (known : List Formula) (waiting : List (List Formula)) (fs : List Formula) (k : ℕ) → length fs ≡ k → BetweenCases (k + length waiting) ≡ place (open_cases known waiting fs)
  unfolding place
  opened known waiting fs k e = ap BetweenCases (sym (length-append (map (λ f. known ++ f ∷ []) fs) waiting ∙ ap (λ n. n + length waiting) (length-map fs (λ f. known ++ f ∷ []) ∙ e)))

  length-list : (gs : Formulas) → length (formula_list gs) ≡ count_of gs
  length-list no_formulas = refl
  length-list (formula_then g gs) = ap suc (length-list gs)

  count_cases : (k : ℕ) (f : Formula) (fs : List Formula) → cases_of k f ≡ Some fs → length fs ≡ k
  count_cases k (Literal s p ts) fs e = cc
  count_cases k (And gs) fs e = cc
  count_cases k (Or gs) fs e = let w = when_some (count_of gs == k) (formula_list gs) fs e in ap length (sym w.1) ∙ length-list gs ∙ eqb-true (count_of gs) k w.0
  count_cases k (Forall ss f) fs e = cc
  count_cases k (Exists ss f) fs e = cc

  module _ (premises : List Formula) (goal : Formula) where
    in_case : (known : List Formula) (waiting : List (List Formula)) (line : tree.Line) (next : State) →
        step cs premises goal (Open known waiting) line ≡ Some next → after (InCase (length waiting)) (turn line) ≡ Some (place next)
    unfolding place
    in_case known waiting (tree.Split i k) next e =
        let p = and_then_some (λ fs. Some (open_cases known waiting fs)) (option_and_then (cases_of k) (slice_get known i)) next e in
        let q = and_then_some (cases_of k) (slice_get known i) p.0 p.1 in
        let same : open_cases known waiting p.0 ≡ next = cc in
        ap Some (opened known waiting p.0 k (count_cases k q.0 p.0 q.2)) ∙ ap (λ s. Some (place s)) same
    in_case known waiting (tree.Cut f) next e =
        let w = when_some (is_cut f && is_well_formed cs [] f) (open_cases known waiting (f ∷ neg f ∷ [])) next e in
        ap Some (opened known waiting (f ∷ neg f ∷ []) 2 refl) ∙ ap (λ s. Some (place s)) w.1
    in_case known waiting (tree.Clash i j) next e =
        let w = when_some (is_clash i j (slice_get known i) (slice_get known j)) (Between waiting) next e in
        ap (λ n. Some (BetweenCases n)) (zero-add (length waiting)) ∙ ap (λ s. Some (place s)) w.1
    in_case known waiting tree.Case next e = cc
    in_case known waiting tree.Nowhere next e = cc
    in_case known waiting (tree.Premise i) next e = added known waiting (fact_of cs premises goal known (tree.Premise i)) next e
    in_case known waiting tree.Denied next e = added known waiting (fact_of cs premises goal known tree.Denied) next e
    in_case known waiting (tree.Part i j) next e = added known waiting (fact_of cs premises goal known (tree.Part i j)) next e
    in_case known waiting (tree.Inst i ts) next e = added known waiting (fact_of cs premises goal known (tree.Inst i ts)) next e
    in_case known waiting (tree.Choose f ts) next e = added known waiting (fact_of cs premises goal known (tree.Choose f ts)) next e
    in_case known waiting (tree.Rule name ts) next e = added known waiting (fact_of cs premises goal known (tree.Rule name ts)) next e
    in_case known waiting (tree.GoodLine name i ts) next e = added known waiting (fact_of cs premises goal known (tree.GoodLine name i ts)) next e
    in_case known waiting (tree.InvariantsLine i ts) next e = added known waiting (fact_of cs premises goal known (tree.InvariantsLine i ts)) next e
    in_case known waiting (tree.Chain x y is) next e = added known waiting (fact_of cs premises goal known (tree.Chain x y is)) next e
    in_case known waiting (tree.Cong x y is) next e = added known waiting (fact_of cs premises goal known (tree.Cong x y is)) next e
    in_case known waiting (tree.Swap i f js) next e = added known waiting (fact_of cs premises goal known (tree.Swap i f js)) next e
    in_case known waiting (tree.Sum d ps) next e = added known waiting (fact_of cs premises goal known (tree.Sum d ps)) next e

    between : (waiting : List (List Formula)) (line : tree.Line) (next : State) → step cs premises goal (Between waiting) line ≡ Some next → after (BetweenCases (length waiting)) (turn line) ≡ Some (place next)
    unfolding place
    between [] line next e = cc
    between (known ∷ waiting) tree.Case next e = let same : Open known waiting ≡ next = cc in ap (λ s. Some (place s)) same
    between (known ∷ waiting) line next e = cc

    stepped : (state : State) (line : tree.Line) (next : State) → step cs premises goal state line ≡ Some next → after (place state) (turn line) ≡ Some (place next)
    unfolding place
    stepped (Open known waiting) line next e = in_case known waiting line next e
    stepped (Between waiting) line next e = between waiting line next e

    ran : (lines : List tree.Line) (state last : State) → run cs premises goal state lines ≡ Some last → after_all (place state) (map turn lines) ≡ Some (place last)
    ran [] state last e = let same : state ≡ last = cc in ap (λ s. Some (place s)) same
    ran (line ∷ lines) state last e =
        let p = and_then_some (λ next. run cs premises goal next lines) (step cs premises goal state line) last e in
        ap (option_and_then (λ next. after_all next (map turn lines))) (stepped state line p.0 p.1) ∙ ran lines p.0 last p.2

    pub Derives-ends : (lines : List tree.Line) → Derives cs premises goal lines → EndsEachCase lines
    unfolding place
    Derives-ends lines d = ran lines (Open [] []) (Between []) d
