use Rattle.std.proofs.Common.{◌≡◌, ℕ, [], length, pos}
use Rattle.ss_linear_paths.specs.Edges.{label}
use Rattle.ss_linear_paths.specs.Paths.{lists, path_at}
use Rattle.ss_linear_paths.proofs.reached.Reached.new.Given as goal

abbrev pub invariant-loop : goal.invariant-loop
invariant-loop l = record {
  labels : length l.labels.items ≡ l.counter;
  paths : length l.paths.items ≡ l.counter;
  zeros : (v : ℕ) → label l.labels.items v ≡ pos 0;
  empty : (v : ℕ) → path_at (lists l.paths.items) v ≡ [];
}
