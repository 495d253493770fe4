use Rattle.std.proofs.Common.{ap, sym, ◌∙◌}
use Rattle.ss_core.specs.View.{classes}
use Rattle.ss_core.specs.Parts.{chain_front, path_front}
use Rattle.ss_store_rules.specs.Types.{type_of}
use Rattle.ss_vcgen_types.specs.Names.{types_of_names}
use Rattle.std.proofs.Common.{take}
use Rattle.ss_vcgen_types.proofs.Grouping.{front_next, path_next}
use Rattle.ss_vcgen_types.proofs.expressions.+types.Goals as goal

pub links_type-loop-link-preserved : goal.links_type-loop-link-preserved
links_type-loop-link-preserved t c = λ p e h.
    let i = c.loop-link.link-index in
    let all = c.args.links.now in
    c.link_type_in-left.ensures p (chain_front p e (take i all)) (c.loop-link.invariant p e h)
    ∙ sym (ap (type_of (classes c.args.list.now) (types_of_names c.args.names.now)) (front_next p e all i c.link-item.result c.loop-link-test.true c.link-item.is))

pub steps_type-loop-step-preserved : goal.steps_type-loop-step-preserved
steps_type-loop-step-preserved t c = λ p e h.
    let i = c.loop-step.step-index in
    let all = c.args.steps.now in
    c.step_type_in-from.ensures p (path_front p e (take i all)) (c.loop-step.invariant p e h)
    ∙ sym (ap (type_of (classes c.args.list.now) (types_of_names c.args.names.now)) (path_next p e all i c.step-item.result c.loop-step-test.true c.step-item.is))
