use Rattle.std.proofs.Common.{ap, ◌∙◌, take}
use Rattle.ss_typed.specs.Types.{type_of}
use Rattle.ss_typed.specs.Parts.{step_after, stepped}
use Rattle.ss_typed.proofs.Grouping.{grouped_more}
use Rattle.ss_typed.proofs.static_types.path_type.Goals as goal

pub loop-step-preserved : goal.loop-step-preserved
loop-step-preserved c = λ p e h.
    let steps = c.args.steps.now in
    let i = c.loop-step.step-index in
    ap type_of (grouped_more step_after p e steps i c.step-item.result c.loop-step-test.true c.step-item.is)
    ∙ c.step_type-ty.ensures p (stepped p e (take i steps)) (c.loop-step.invariant p e h)
