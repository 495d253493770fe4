use Rattle.std.proofs.Common.{◌≡◌, false, length, refl, sym, ap, ◌∙◌}
use Rattle.ss_typed.specs.View.{expr}
use Rattle.ss_typed.specs.Shapes.{is_this}
use Rattle.ss_expand_rules.specs.Simple as simple
use Rattle.ss_expand_expressions.specs.Sources.{stmts_of}
use Rattle.ss_typed.proofs.Grouping.{path_alone, path_some}
use Rattle.ss_expand_lifting.specs.Contexts.{context_of}
use Rattle.ss_expand_lifting.specs.Lefts.{part_tree}
use Rattle.ss_expand_lifting.specs.Made.{settled_after}
use Rattle.ss_expand_lifting.proofs.Links.{step_form_this}
use Rattle.ss_expand_lifting.proofs.Codes.{other_settles}
use Rattle.ss_expand_lifting.proofs.settled.settle_part.Goals as goal

pub returns-then-is_empty : goal.returns-then-is_empty
returns-then-is_empty c =
    let part = c.args.part in
    let before = stmts_of c.args.code.now.statements in
    let same = path_alone part.place (expr part.first.now) part.steps.now (length part.steps.now) refl c.if-is_empty.ensures in
    c.in_ok-settled.ensures ∙ ap (λ e. settled_after before (simple.settle_part (context_of c.args.context.now) e c.args.made.now.items)) (sym same)

pub returns : goal.returns
returns c =
    let part = c.args.part in
    let s = context_of c.args.context.now in
    let before = stmts_of c.args.code.now.statements in
    let other = path_some is_this (λ p. false) step_form_this part.place (expr part.first.now) part.steps.now (length part.steps.now) refl c.if-is_empty.ensures in
    c.in_ok-settled-2.ensures (part_tree part) before c.args.made.now.items c.in_ok-operand.ensures
    ∙ ap (settled_after before) (sym (other_settles s (part_tree part) c.args.made.now.items other))
