use Rattle.std.proofs.Common.{◌≡◌, ap, subst, ◌∙◌}
use Rattle.ss_typed.specs.View.{expr}
use Rattle.ss_expand_rules.specs.Code.{after}
use Rattle.ss_expand_expressions.specs.Sources.{stmts_of, source_of}
use Rattle.ss_expand_lifting.specs.declared.lefts.Left.{Left}
use Rattle.ss_expand_lifting.specs.Contexts.{context_of}
use Rattle.ss_expand_lifting.specs.Lefts.{IsLeft}
use Rattle.ss_expand_lifting.proofs.Codes.{local_assigned}
use Rattle.ss_expand_lifting.proofs.Statements.{value_assigned}
use Rattle.ss_expand_lifting.proofs.assignments.assign_operand.Goals as goal

pub returns-in_ok-add_put-in-Local : goal.returns-in_ok-add_put-in-Local
returns-in_ok-add_put-in-Local c = λ e before kinds h.
    let a = c.in-Local in
    let target = expr c.args.target.now in
    let P : Left → Type 0 = λ l. IsLeft target l in
    local_assigned (context_of c.args.context.now) target a.place a.x _ a.field-2 e before (stmts_of c.args.code.now.statements) _ (source_of c.args.right.source) kinds _
    (subst P a.is c.left_of-left.ensures) c.number-number.ensures h.lifted c.in_ok-add_put-in-Local.ensures

pub returns-in_ok-assign_value-in_default : goal.returns-in_ok-assign_value-in_default
returns-in_ok-assign_value-in_default c = λ e before kinds h.
    let target = expr c.args.target.now in
    c.in_ok-assign_value-in_default.ensures target e before kinds c.left_of-left.ensures h
    ∙ ap (after before) (value_assigned (context_of c.args.context.now) target e kinds _ c.left_of-left.ensures c.in_default.not-Local)
