use Rattle.std.proofs.Common.{◌≡◌, sym, ap, ◌∙◌}
use Rattle.std.specs.Prelude.{if◌then◌else◌}
use Rattle.ss_core.specs.Tree.{NullExpr}
use Rattle.ss_core.specs.Parts as core_parts
use Rattle.ss_expand_expressions.specs.Views.{plain_step_after, path_of}
use Rattle.ss_expand_expressions.proofs.Shapes.{core_stepped_push}
use Rattle.ss_expand_expressions.proofs.expressions.longer_path.Goals as goal

pub returns-in_ok-push-in-Some : goal.returns-in_ok-push-in-Some
returns-in_ok-push-in-Some c = λ p first.
    let path = c.args.path in
    let begin = if path.after_call then NullExpr p else first in
    ap (λ ls. core_parts.path_front p begin ls) c.in_ok-push-in-Some.ensures.items
    ∙ core_stepped_push p begin path.steps.items c.in-Some.step
    ∙ ap (λ s. plain_step_after s p (path_of p first path)) (sym c.in-Some.is)
