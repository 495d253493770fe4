use Rattle.std.proofs.Common.{ap, ◌∙◌}
use Rattle.ss_core.specs.View as core
use Rattle.ss_typed.specs.View.{expr}
use Rattle.ss_expand_rules.specs.Code.{Coded, after}
use Rattle.ss_expand_expressions.specs.Sources.{stmts_of}
use Rattle.ss_expand_lifting.specs.Contexts.{context_of}
use Rattle.ss_expand_programs.specs.Returns.{returned_value}
use Rattle.ss_expand_programs.proofs.Codes.{returned, left_with}
use Rattle.ss_expand_programs.proofs.leaving.leave_with.Goals as goal

pub returns : goal.returns
returns c =
    let s = context_of c.args.context.now in
    let e = expr c.args.e.now in
    let before = stmts_of c.args.code.now.statements in
    let made = c.args.made.now.items in
    returned s c.args.place before (stmts_of c.returned_value.new.code.statements) (stmts_of c.add_return.new.code.statements) (core.expr c.in_ok-value.value) c.returned_value.new.made.items (returned_value s e made)
    c.in_ok-value.ensures c.in_ok-add_return.ensures
    ∙ ap (λ (x : Coded). after before x) (left_with s c.args.place e s.exposes made)
