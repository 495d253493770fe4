use Rattle.std.proofs.Common.{◌≡◌, true, false, suc, drop, sym, ap, ◌∙◌, add-one}
use Rattle.std.specs.Prelude.{◌||◌}
use Rattle.ss_typed.specs.Tree.{ExprTree}
use Rattle.ss_typed.specs.View.{expr}
use Rattle.ss_expand_rules.specs.Calls.{has_call}
use Rattle.ss_typed.specs.Parts.{linked, stepped}
use Rattle.ss_ast.proofs.Loops.{drop_item}
use Rattle.ss_expand_expressions.proofs.Shapes.{links_keep, steps_keep, link_with, link_without, step_with, step_without}
use Rattle.ss_typed.proofs.Grouping.{chain_is, path_is}
use Rattle.ss_expand_expressions.proofs.calls.+calls.Goals as goal

pub has_call-returns-then-has_call-3 : goal.has_call-returns-then-has_call-3
has_call-returns-then-has_call-3 t c =
    let a = c.in-Chain in
    let first : has_call (expr a.first.value) ≡ true = ap (λ e. has_call (expr e)) (sym c.deref-in-Chain.ensures) ∙ sym c.has_call-in-Chain.ensures ∙ c.if-has_call-3.true in
    c.if-has_call-3.true
    ∙ sym (ap (λ e. has_call (expr e)) a.is ∙ ap has_call (chain_is a.field-0 a.first a.links) ∙ links_keep a.field-0 (expr a.first.value) a.links.items first)

pub has_call-returns-then-has_call-4 : goal.has_call-returns-then-has_call-4
has_call-returns-then-has_call-4 t c =
    let a = c.in-Path in
    let first : has_call (expr a.first.value) ≡ true = ap (λ e. has_call (expr e)) (sym c.deref-in-Path.ensures) ∙ sym c.has_call-in-Path.ensures ∙ c.if-has_call-4.true in
    c.if-has_call-4.true
    ∙ sym (ap (λ e. has_call (expr e)) a.is ∙ ap has_call (path_is a.field-0 a.first a.steps) ∙ steps_keep a.field-0 (expr a.first.value) a.steps.items first)

pub links_have_call-returns-then-link_has_call : goal.links_have_call-returns-then-link_has_call
links_have_call-returns-then-link_has_call t c = λ p before.
    let links = c.args.links.now in
    let i = c.loop-link.link-index in
    let link = c.link-item.result in
    c.loop-link.invariant p before ∙ ap (λ ls. has_call (linked p before ls)) (drop_item links i link c.loop-link-test.true c.link-item.is)
    ∙ link_with p before link (drop (suc i) links) (c.link_has_call.ensures p before ∙ ap (λ b. has_call before || b) c.if-link_has_call.true)

pub links_have_call-loop-link-preserved : goal.links_have_call-loop-link-preserved
links_have_call-loop-link-preserved t c = λ p before.
    let links = c.args.links.now in
    let i = c.loop-link.link-index in
    let link = c.link-item.result in
    c.loop-link.invariant p before ∙ ap (λ ls. has_call (linked p before ls)) (drop_item links i link c.loop-link-test.true c.link-item.is)
    ∙ link_without p before link (drop (suc i) links) (c.link_has_call.ensures p before ∙ ap (λ b. has_call before || b) c.if-link_has_call.false)
    ∙ sym (ap (λ k. has_call (linked p before (drop k links))) (add-one i))

pub steps_have_call-returns-then-step_has_call : goal.steps_have_call-returns-then-step_has_call
steps_have_call-returns-then-step_has_call t c = λ p before.
    let steps = c.args.steps.now in
    let i = c.loop-step.step-index in
    let step = c.step-item.result in
    c.loop-step.invariant p before ∙ ap (λ ls. has_call (stepped p before ls)) (drop_item steps i step c.loop-step-test.true c.step-item.is)
    ∙ step_with p before step (drop (suc i) steps) (c.step_has_call.ensures p before ∙ ap (λ b. has_call before || b) c.if-step_has_call.true)

pub steps_have_call-loop-step-preserved : goal.steps_have_call-loop-step-preserved
steps_have_call-loop-step-preserved t c = λ p before.
    let steps = c.args.steps.now in
    let i = c.loop-step.step-index in
    let step = c.step-item.result in
    c.loop-step.invariant p before ∙ ap (λ ls. has_call (stepped p before ls)) (drop_item steps i step c.loop-step-test.true c.step-item.is)
    ∙ step_without p before step (drop (suc i) steps) (c.step_has_call.ensures p before ∙ ap (λ b. has_call before || b) c.if-step_has_call.false)
    ∙ sym (ap (λ k. has_call (stepped p before (drop k steps))) (add-one i))
