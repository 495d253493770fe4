use Rattle.std.proofs.Common.{◌≡◌, ◌<◌, ℕ, ℤ, List, [], ◌∷◌, Some}
use Rattle.ss_core.specs.Tree.{ClassTree}
use Rattle.ss_logic.specs.Formulas.{Formula}
use Rattle.ss_linear_sums.specs.Linear as linear
use Rattle.ss_linear_rules.specs.Two as two
use Rattle.ss_linear_rules.specs.Two.{IsUnit}
use Rattle.ss_linear_rules.specs.Few.{IsNone}
use Rattle.ss_linear.specs.Results.{AreFacts}
use Rattle.ss_linear.proofs.few.with_first.Given as goal

abbrev pub invariant-loop-j : goal.invariant-loop-j
invariant-loop-j l =
    (cs : List ClassTree) (known : List Formula) → AreFacts cs l.context.bank.now known l.context.facts.now → two.fact_at cs known l.i ≡ Some (linear.fact_at l.context.bank.now l.a) →
    (k : ℕ) → k < l.j → (w u : ℤ) → IsUnit w → IsUnit u → IsNone cs known ((k, w) ∷ (l.i, u) ∷ [])
