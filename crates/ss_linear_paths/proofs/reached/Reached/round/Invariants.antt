use Rattle.std.proofs.Common.{length}
use Rattle.ss_linear_paths.specs.Paths.{lists, IsLooked}
use Rattle.ss_linear_paths.proofs.reached.Reached.round.Given as goal

abbrev pub invariant-loop-k : goal.invariant-loop-k
invariant-loop-k l = IsLooked (length l.initial.self.labels.items) l.edges l.initial.self.labels.items (lists l.initial.self.paths.items) 0 l.self.labels.items (lists l.self.paths.items) l.k
