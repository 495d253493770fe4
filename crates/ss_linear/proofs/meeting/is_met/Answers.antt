use Rattle.std.proofs.Common.{subst, rules, SFits, to_z-of_z}
use Rattle.std.specs.Prelude.{ℤ}
use Rattle.std.specs.Int.{w128}
use Rattle.ss_linear_rules.specs.Valued.{IsMetBy}
use Rattle.ss_linear.proofs.meeting.is_met.Goals as goal

pub returns-in-Some : goal.returns-in-Some
returns-in-Some c = λ e.
    let z : SFits w128 c.in-Some.z = search rules in
    subst (λ (x : ℤ). IsMetBy c.args.a.now.is_equality x) c.in-Some.ensures (rw (to_z-of_z z) at (c.is_within.ensures e))
