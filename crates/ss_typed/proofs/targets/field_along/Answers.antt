use Rattle.std.proofs.Common.{◌<◌, length, sym, arith}
use Rattle.ss_typed.specs.View.{expr}
use Rattle.ss_typed.proofs.OwnFields.{no_field_far}
use Rattle.ss_typed.proofs.targets.field_along.Goals as goal

pub returns-else-steps-eq1 : goal.returns-else-steps-eq1
returns-else-steps-eq1 c = λ p.
    let long : 1 < length c.args.steps.now = omega arith in
    sym (no_field_far p (expr c.args.first.now) c.args.steps.now long)
