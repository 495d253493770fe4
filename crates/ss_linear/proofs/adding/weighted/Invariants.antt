use Rattle.std.proofs.Common.{◌≡◌, pos, List, drop}
use Rattle.ss_core.specs.Tree.{ClassTree}
use Rattle.ss_logic.specs.Formulas.{Formula}
use Rattle.ss_logic.specs.Sums as sums
use Rattle.ss_linear_sums.specs.Linear.{sum_at, HasParts}
use Rattle.ss_linear.specs.Results.{AreFacts}
use Rattle.ss_linear.proofs.adding.weighted.Given as goal

abbrev pub invariant-loop-part : goal.invariant-loop-part
invariant-loop-part l = record {
  has : HasParts l.bank l.sum.parts.items;
  goes_on : (cs : List ClassTree) (known : List Formula) → AreFacts cs l.bank known l.facts →
      sums.weighted cs known (sum_at l.bank l.sum) (drop l.part-index l.parts) ≡ sums.weighted cs known (sums.number_sum (pos 0)) l.parts;
}
