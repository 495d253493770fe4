use Rattle.std.proofs.Common.{ℕ, ◌<◌, ◌≤◌, List}
use Rattle.ss_core.specs.Tree.{ClassTree}
use Rattle.ss_logic.specs.Formulas.{Formula}
use Rattle.ss_linear_rules.specs.Two as two
use Rattle.ss_linear_network.specs.Made.{numbers_at}
use Rattle.ss_linear.specs.Met.{Meets, MeetsSome}
use Rattle.ss_linear.specs.Results.{AreFacts}
use Rattle.ss_linear.proofs.met.all_seen.Given as goal

abbrev pub invariant-loop-k : goal.invariant-loop-k
invariant-loop-k l = record {
  met : (cs : List ClassTree) (known : List Formula) → AreFacts cs l.bank known l.facts → (k : ℕ) → k < l.k → Meets (numbers_at l.bank l.numbers) (two.fact_at cs known k);
  said : (cs : List ClassTree) (known : List Formula) → AreFacts cs l.bank known l.facts → (k : ℕ) → k < l.k → l.from ≤ k → MeetsSome (numbers_at l.bank l.numbers) (two.fact_at cs known k);
}
