use Rattle.ss_typed.specs.View.{typed, body}
use Rattle.ss_nonnull.proofs.Wholes.{body_noted}
use Rattle.ss_nonnull.proofs.bodies.check_body.Goals as goal

pub returns : goal.returns
returns c =
    body_noted (typed c.args.fields.now.program.now) (body c.args.checked.now) _ c.args.found.now.items _ _
    c.context_of_body-context.ensures c.in_ok-check_base_call.ensures c.in_ok-check_code.ensures
