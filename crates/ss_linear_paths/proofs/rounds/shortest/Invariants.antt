use Rattle.ss_linear_paths.specs.Paths.{lists, AreReached, IsRound}
use Rattle.ss_linear_paths.proofs.rounds.shortest.Given as goal

abbrev pub invariant-loop : goal.invariant-loop
invariant-loop l = record {
  reached : AreReached l.nodes l.edges l.reached.labels.items (lists l.reached.paths.items);
  round : IsRound l.edges l.reached.labels.items (lists l.reached.paths.items) l.counter 0;
}
