use Rattle.std.proofs.Common.{◌≡◌, map, drop}
use Rattle.std.specs.Prelude.{◌&&◌}
use Rattle.ss_typed.specs.View.{param}
use Rattle.ss_nonnull_rules.specs.Overrides.{agree}
use Rattle.ss_nonnull.proofs.overrides.agree_along.Given as goal

abbrev pub invariant-loop-place : goal.invariant-loop-place
invariant-loop-place l = (l.same && agree (map param (drop l.place l.params)) (map param (drop l.place l.others))) ≡ agree (map param l.params) (map param l.others)
