use Rattle.std.proofs.Common.{◌≡◌, ◌≢◌, ℕ, ◌<◌}
use Rattle.ss_linear_paths.specs.Paths.{back}
use Rattle.ss_linear_paths.proofs.reached.steps_back.Given as goal

abbrev pub invariant-loop-n : goal.invariant-loop-n
invariant-loop-n l = record { here : l.at ≡ back l.edges l.end l.path l.n; before : (i : ℕ) → i < l.n → back l.edges l.end l.path i ≢ l.node }
