use Rattle.std.proofs.Common.{◌≡◌, take, refl, ap, ◌∙◌}
use Rattle.ss_typed.specs.View.{expr}
use Rattle.ss_typed.specs.Parts.{stepped}
use Rattle.ss_expand_expressions.specs.Sources.{stmts_of}
use Rattle.ss_expand_lifting.specs.Contexts.{context_of}
use Rattle.ss_expand_lifting.proofs.Links.{stepped_split, steps_go_along, operand_along}
use Rattle.ss_expand_lifting.proofs.lefts.part_operand.Goals as goal

pub returns : goal.returns
returns c =
    let part = c.args.part in
    let p = part.place in
    let s = context_of c.args.context.now in
    let e = expr part.first.now in
    let steps = part.steps.now in
    let before = stmts_of c.args.code.now.statements in
    let types = c.args.made.now.items in
    let front = c.in_ok-front.ensures.front s e before types _ _ refl c.in_ok-first.ensures in
    let taken = c.in_ok-front.front.length in
    let begun = stepped p e (take taken steps) in
    operand_along s _ _ before types _ _ _
    (ap (stepped p begun) c.steps_after-rest.ensures ∙ stepped_split p e steps taken)
    (c.in_ok-whole.ensures begun before types front.operand (steps_go_along p begun _ _ c.steps_after-rest.ensures front.go_on))
