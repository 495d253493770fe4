use Rattle.std.proofs.Common.{◌≡◌, take}
use Rattle.ss_linear_rules.specs.Nodes.{origins_at}
use Rattle.ss_linear_network.proofs.network.weights_of.Given as goal

abbrev pub invariant-loop-k : goal.invariant-loop-k
invariant-loop-k l = l.weights.items ≡ origins_at l.origins (take l.k-index l.places)
