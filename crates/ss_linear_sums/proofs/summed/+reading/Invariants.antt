use Rattle.std.proofs.Common.{◌+◌, ◌*◌}
use Rattle.std.specs.Prelude.{max}
use Rattle.ss_linear_sums.proofs.summed.+reading.Given as goal

abbrev pub decreases-both : goal.decreases-both
decreases-both l = 3 * max l.x.0 l.y.0 + 3

abbrev pub decreases-times : goal.decreases-times
decreases-times l = 3 * l.x.0 + 3

abbrev pub decreases-made : goal.decreases-made
decreases-made l = 3 * l.t.0 + 1

abbrev pub decreases-linear : goal.decreases-linear
decreases-linear l = 3 * l.t.0 + 2
