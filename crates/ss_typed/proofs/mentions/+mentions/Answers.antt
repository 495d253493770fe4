use Rattle.std.proofs.Common.{ap, ◌∙◌, take}
use Rattle.ss_typed.specs.Shapes.{mentions_this}
use Rattle.ss_typed.specs.Parts.{link_after, linked, step_after, stepped}
use Rattle.ss_typed.proofs.Grouping.{grouped_more}
use Rattle.ss_typed.proofs.mentions.+mentions.Goals as goal

pub links_mention_this-loop-link-preserved : goal.links_mention_this-loop-link-preserved
links_mention_this-loop-link-preserved t c = λ p before h.
    let links = c.args.links.now in
    let i = c.loop-link.link-index in
    ap mentions_this (grouped_more link_after p before links i c.link-item.result c.loop-link-test.true c.link-item.is)
    ∙ c.link_mentions_this-found.ensures p (linked p before (take i links)) (c.loop-link.invariant p before h)

pub steps_mention_this-loop-step-preserved : goal.steps_mention_this-loop-step-preserved
steps_mention_this-loop-step-preserved t c = λ p before h.
    let steps = c.args.steps.now in
    let i = c.loop-step.step-index in
    ap mentions_this (grouped_more step_after p before steps i c.step-item.result c.loop-step-test.true c.step-item.is)
    ∙ c.step_mentions_this-found.ensures p (stepped p before (take i steps)) (c.loop-step.invariant p before h)
