use Rattle.std.proofs.Common.{◌≡◌, ◌++◌, ◌∷◌, [], take, map, sym, ap, ◌∙◌, add-one, suc}
use Rattle.ss_typed.specs.View.{expr}
use Rattle.ss_core.specs.View as core
use Rattle.ss_core.specs.Parts as core_parts
use Rattle.ss_expand_rules.specs.Numbers.{plain}
use Rattle.ss_expand_expressions.specs.Views.{numbers_of, path_of, plain_step_after}
use Rattle.ss_typed.specs.Parts.{linked, stepped}
use Rattle.ss_expand_expressions.proofs.Shapes.{linked_next, stepped_next, core_linked_push}
use Rattle.ss_expand_expressions.proofs.expressions.+plain.Goals as goal

pub plain_links-loop-link-preserved : goal.plain_links-loop-link-preserved
plain_links-loop-link-preserved t c = λ p before.
    let ns = numbers_of c.args.numbers.now in
    let links = c.args.links.now in
    let i = c.loop-link.link-index in
    let link = c.in_ok-plain_link.field-0 in
    ap (λ ls. core_parts.chain_front p (plain ns before) ls) c.in_ok-push.ensures.items
    ∙ core_linked_push p (plain ns before) c.loop-link.list.items link
    ∙ ap (λ e. core_parts.link_after link p e) (c.loop-link.invariant p before)
    ∙ c.in_ok-plain_link.ensures p (linked p before (take i links))
    ∙ ap (plain ns) (sym (linked_next p before links i c.link-item.result c.loop-link-test.true c.link-item.is))
    ∙ ap (λ k. plain ns (linked p before (take k links))) (sym (add-one i))

pub plain_steps-loop-step-preserved : goal.plain_steps-loop-step-preserved
plain_steps-loop-step-preserved t c = λ p before.
    let ns = numbers_of c.args.numbers.now in
    let steps = c.args.steps.now in
    let i = c.loop-step.step-index in
    c.in_ok-path.ensures p (plain ns before)
    ∙ ap (λ e. plain_step_after c.in_ok-plain_step.field-0 p e) (c.loop-step.invariant p before)
    ∙ c.in_ok-plain_step.ensures p (stepped p before (take i steps))
    ∙ ap (plain ns) (sym (stepped_next p before steps i c.step-item.result c.loop-step-test.true c.step-item.is))
    ∙ ap (λ k. plain ns (stepped p before (take k steps))) (sym (add-one i))
