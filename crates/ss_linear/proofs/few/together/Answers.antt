use Rattle.std.proofs.Common.{refl, rules, SFits, to_z-of_z}
use Rattle.std.specs.Int.{w128}
use Rattle.ss_linear_network.proofs.Making.{some_if}
use Rattle.ss_linear.proofs.few.together.Goals as goal

pub returns-in-Some-times : goal.returns-in-Some-times
returns-in-Some-times c =
    let fx : SFits w128 c.in-Some.x = search rules in
    let fy : SFits w128 c.in-Some-times.y = search rules in
    let x = rw (to_z-of_z c.ranges.w, to_z-of_z c.ranges.a) at c.in-Some.ensures in
    let y = rw (to_z-of_z c.ranges.u, to_z-of_z c.ranges.b) at c.in-Some-times.ensures in
    some_if _ c.checked_add.result _ _ (rw (to_z-of_z fx, x, to_z-of_z fy, y) at c.checked_add.ensures) refl
