-- Lines derive the goal exactly where none of them is bad.
use Rattle.std.proofs.Common.{◌≡◌, ℕ, ◌+◌, List, [], ◌∷◌, Option, Some, None, refl, option_and_then}
use Rattle.ss_core.specs.Tree.{ClassTree}
use Rattle.ss_logic.specs.Formulas.{Formula}
use Rattle.ss_logic_means.specs.Steps.{State, Open, Between, Line, step, run, Derives, bad_from, first_bad, either_way}

run-from_none : (cs : List ClassTree) (premises : List Formula) (goal : Formula) (state : State) (lines : List Line) (n : ℕ) → bad_from cs premises goal state lines n ≡ None → run cs premises goal state lines ≡ Some (Between [])
run-from_none cs ps g (Between []) [] n e = refl
run-from_none cs ps g (Between (c ∷ others)) [] n e = cc
run-from_none cs ps g (Open k w) [] n e = cc
run-from_none cs ps g state (line ∷ lines) n e = by_step (step cs ps g state line) (λ next h. run-from_none cs ps g next lines (n + 1) h) e
  where
    by_step : (o : Option State) → ((next : State) → bad_from cs ps g next lines (n + 1) ≡ None → run cs ps g next lines ≡ Some (Between [])) →
        either_way (Some n) (λ next. bad_from cs ps g next lines (n + 1)) o ≡ None → option_and_then (λ next. run cs ps g next lines) o ≡ Some (Between [])
    by_step None ih h = cc
    by_step (Some next) ih h = ih next h

bad_refutes : (cs : List ClassTree) (premises : List Formula) (goal : Formula) (state : State) (lines : List Line) (k n : ℕ) → bad_from cs premises goal state lines k ≡ Some n → run cs premises goal state lines ≡ Some (Between []) → ⊥
bad_refutes cs ps g (Between []) [] k n e d = cc
bad_refutes cs ps g (Between (c ∷ others)) [] k n e d = cc
bad_refutes cs ps g (Open known waiting) [] k n e d = cc
bad_refutes cs ps g state (line ∷ lines) k n e d = by_step (step cs ps g state line) (λ next h r. bad_refutes cs ps g next lines (k + 1) n h r) e d
  where
    by_step : (o : Option State) → ((next : State) → bad_from cs ps g next lines (k + 1) ≡ Some n → run cs ps g next lines ≡ Some (Between []) → ⊥) →
        either_way (Some k) (λ next. bad_from cs ps g next lines (k + 1)) o ≡ Some n → option_and_then (λ next. run cs ps g next lines) o ≡ Some (Between []) → ⊥
    by_step None ih h r = cc
    by_step (Some next) ih h r = ih next h r

pub Derives-no_bad : (cs : List ClassTree) (premises : List Formula) (goal : Formula) (lines : List Line) → first_bad cs premises goal lines ≡ None → Derives cs premises goal lines
Derives-no_bad cs premises goal lines e = run-from_none cs premises goal (Open [] []) lines 1 e

pub bad-not_derived : (cs : List ClassTree) (premises : List Formula) (goal : Formula) (lines : List Line) (n : ℕ) → first_bad cs premises goal lines ≡ Some n → Derives cs premises goal lines → ⊥
bad-not_derived cs premises goal lines n e d = bad_refutes cs premises goal (Open [] []) lines 1 n e d
