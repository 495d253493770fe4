use Rattle.std.proofs.Common.{List}
use Rattle.ss_core.specs.Tree.{ClassTree}
use Rattle.ss_logic.specs.Formulas.{Formula}
use Rattle.ss_linear_network.specs.Made.{AreNodesOf, IsNetworkOf, IsSound}
use Rattle.ss_linear.specs.Results.{AreFacts}
use Rattle.ss_linear.proofs.differences.network.Given as goal

abbrev pub invariant-loop-k : goal.invariant-loop-k
invariant-loop-k l = record {
  nodes : AreNodesOf l.bank l.made.nodes;
  sound : IsSound l.made;
  network : (cs : List ClassTree) (known : List Formula) → AreFacts cs l.bank known l.facts → IsNetworkOf l.bank cs known l.made l.k;
}
