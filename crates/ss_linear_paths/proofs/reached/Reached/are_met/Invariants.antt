use Rattle.std.proofs.Common.{ℕ, ◌<◌}
use Rattle.ss_linear_paths.specs.Edges.{edge_at, IsMet}
use Rattle.ss_linear_paths.proofs.reached.Reached.are_met.Given as goal

abbrev pub invariant-loop-edge : goal.invariant-loop-edge
invariant-loop-edge l = (j : ℕ) → j < l.edge-index → IsMet l.self.labels.items (edge_at l.edges j)
