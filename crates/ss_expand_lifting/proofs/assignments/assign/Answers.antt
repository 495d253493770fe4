use Rattle.std.proofs.Common.{◌≡◌}
use Rattle.ss_typed.specs.View.{expr}
use Rattle.ss_expand_expressions.specs.Sources.{stmts_of}
use Rattle.ss_expand_lifting.specs.Contexts.{context_of}
use Rattle.ss_expand_lifting.proofs.Statements.{assigned_after, assigned_as_it_is}
use Rattle.ss_expand_lifting.proofs.assignments.assign.Goals as goal

pub returns-in_ok-assign_after : goal.returns-in_ok-assign_after
returns-in_ok-assign_after c =
    assigned_after (context_of c.args.context.now) (expr c.args.target.now) (expr c.args.e.now) (stmts_of c.args.code.now.statements) c.args.made.now.items _ _ _ _
    c.are_kept.ensures c.has_call.ensures c.has_call-2.ensures c.if-are_kept.true c.in_ok-assign_after.ensures

pub returns-in_ok-assign_settled : goal.returns-in_ok-assign_settled
returns-in_ok-assign_settled c =
    assigned_as_it_is (context_of c.args.context.now) (expr c.args.target.now) (expr c.args.e.now) (stmts_of c.args.code.now.statements) c.args.made.now.items _ _ _ _
    c.are_kept.ensures c.has_call.ensures c.has_call-2.ensures c.if-are_kept.false c.in_ok-assign_settled.ensures
