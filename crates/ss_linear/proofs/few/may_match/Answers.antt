use Rattle.std.proofs.Common.{rules, SFits, to_z-of_z}
use Rattle.std.specs.Int.{w128}
use Rattle.ss_linear.proofs.Tests.{cancel_not}
use Rattle.ss_linear.proofs.few.may_match.Goals as goal

pub returns-in-Some-Some : goal.returns-in-Some-Some
returns-in-Some-Some c = λ w u x y f.
    let kc : SFits w128 c.in-Some-Some.c = search rules in
    let kd : SFits w128 c.in-Some-Some.d = search rules in
    cancel_not w u c.in-Some-Some.ensures c.in-Some-Some.ensures' (rw (to_z-of_z kc, to_z-of_z kd) at (c.are_alike.ensures w u x y f))
