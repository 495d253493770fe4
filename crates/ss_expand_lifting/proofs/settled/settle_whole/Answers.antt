use Rattle.std.proofs.Common.{◌≡◌, sym, ap, ◌∙◌}
use Rattle.ss_typed.specs.View.{expr}
use Rattle.ss_expand_expressions.specs.Sources.{stmts_of}
use Rattle.ss_expand_lifting.specs.Contexts.{context_of}
use Rattle.ss_expand_lifting.specs.Made.{settled_after}
use Rattle.ss_expand_lifting.proofs.Codes.{this_stays, other_settles}
use Rattle.ss_expand_lifting.proofs.settled.settle_whole.Goals as goal

pub returns-then-is_this : goal.returns-then-is_this
returns-then-is_this c =
    let h = sym c.is_this.ensures ∙ c.if-is_this.true in
    this_stays (context_of c.args.context.now) (expr c.args.e.now) _ (stmts_of c.args.code.now.statements) c.args.made.now.items h (c.in_ok-kept.ensures ∙ c.this_again-this.ensures h)

pub returns : goal.returns
returns c =
    let before = stmts_of c.args.code.now.statements in
    c.in_ok-settled.ensures (expr c.args.e.now) before c.args.made.now.items c.in_ok-operand.ensures
    ∙ ap (settled_after before) (sym (other_settles (context_of c.args.context.now) (expr c.args.e.now) c.args.made.now.items (sym c.is_this.ensures ∙ c.if-is_this.false)))
