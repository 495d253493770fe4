use Rattle.std.proofs.Common.{◌≡◌, sym}
use Rattle.ss_typed.specs.View.{expr}
use Rattle.ss_expand_expressions.specs.Sources.{stmts_of, source_of}
use Rattle.ss_expand_lifting.specs.Contexts.{context_of}
use Rattle.ss_expand_lifting.proofs.Joins.{plain_valued, first_is_false}
use Rattle.ss_expand_lifting.proofs.Statements.{operation_called, operation_plain, no_calls}
use Rattle.ss_expand_lifting.proofs.assignments.operation_on.Goals as goal

pub returns-in_ok-source : goal.returns-in_ok-source
returns-in_ok-source c = λ t before kinds h.
    let o = c.args.operand in
    operation_called (context_of c.args.context.now) o.place c.args.operator t (expr c.args.e.now) before kinds _ o.has_call _ _
    c.are_kept.ensures h.calls c.has_call.ensures c.if-are_kept.true (c.in_ok-source.ensures t before kinds h)

pub returns-in_ok-value : goal.returns-in_ok-value
returns-in_ok-value c = λ t before kinds h.
    let o = c.args.operand in
    let s = context_of c.args.context.now in
    let e = expr c.args.e.now in
    let none = no_calls _ o.has_call _ t e c.are_kept.ensures h.calls c.has_call.ensures c.if-are_kept.false in
    operation_plain s o.place c.args.operator t e before _ _ _ _ kinds _
    (plain_valued s t before (stmts_of c.args.code.now.statements) kinds c.args.made.now.items (source_of o.source) _ h.lifted (first_is_false _ _ none)
    (c.in_ok-left.ensures t (sym h.place) (sym h.ty)))
    c.in_ok-right.ensures c.in_ok-value.ensures none
