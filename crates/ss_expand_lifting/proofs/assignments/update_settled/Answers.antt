use Rattle.std.proofs.Common.{◌≡◌, Some, refl, ap, ◌∙◌}
use Rattle.std.specs.Prelude.{◌||◌}
use Rattle.ss_typed.specs.Tree.{BinaryOf}
use Rattle.ss_typed.specs.View.{expr}
use Rattle.ss_expand_rules.specs.Calls.{has_call}
use Rattle.ss_expand_rules.specs.Code.{after}
use Rattle.ss_expand_rules.specs.Simple as simple
use Rattle.ss_expand_expressions.specs.Sources.{stmts_of}
use Rattle.ss_expand_lifting.specs.Contexts.{context_of}
use Rattle.ss_expand_lifting.proofs.assignments.update_settled.Goals as goal

pub returns : goal.returns
returns c =
    let s = context_of c.args.context.now in
    let target = expr c.args.target.now in
    let e = expr c.args.e.now in
    let before = stmts_of c.args.code.now.statements in
    let kinds = c.args.made.now.items in
    let read = c.in_ok-read.ensures in
    let p = c.in_ok-read.read.place in
    c.in_ok-assign_operand.ensures (BinaryOf p c.args.operator target e) before kinds
    (record {
      lifted = c.in_ok-source.ensures target before kinds read;
      place = refl;
      ty = ap Some c.operation_type.ensures;
      calls = c.are_kept-calls.ensures ∙ ap (λ b. b || c.has_call.result) read.calls ∙ ap (λ b. has_call target || b) c.has_call.ensures;
      lazy = c.is_lazy_operator.ensures;
    })
    ∙ ap (λ q. after before (simple.assign_settled s target (BinaryOf q c.args.operator target e) kinds)) read.place
