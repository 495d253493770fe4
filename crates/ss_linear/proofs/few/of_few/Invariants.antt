use Rattle.std.proofs.Common.{◌<◌, ℕ, List}
use Rattle.ss_core.specs.Tree.{ClassTree}
use Rattle.ss_logic.specs.Formulas.{Formula}
use Rattle.ss_linear_network.specs.Made.{numbers_at}
use Rattle.ss_linear.specs.Contradictions.{IsClear}
use Rattle.ss_linear.specs.Results.{AreFacts}
use Rattle.ss_linear.proofs.few.of_few.Given as goal

abbrev pub invariant-loop-i : goal.invariant-loop-i
invariant-loop-i l =
    (cs : List ClassTree) (known : List Formula) → AreFacts cs l.bank known l.facts → (k : ℕ) → k < l.i → IsClear cs known (numbers_at l.bank l.numbers) k
