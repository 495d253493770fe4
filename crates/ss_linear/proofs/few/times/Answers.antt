use Rattle.std.proofs.Common.{refl, rules, SFits, to_z-of_z}
use Rattle.std.specs.Int.{w128}
use Rattle.ss_linear_network.proofs.Making.{some_if}
use Rattle.ss_linear.proofs.few.times.Goals as goal

pub returns : goal.returns
returns c =
    let wide : SFits w128 c.wide.result = search rules in
    some_if _ c.checked_mul.result _ _ (rw (to_z-of_z wide, c.wide.ensures, to_z-of_z c.ranges.w, to_z-of_z c.ranges.n) at c.checked_mul.ensures) refl
