use Rattle.std.proofs.Common.{take}
use Rattle.ss_typed.specs.Parts.{stepped}
use Rattle.ss_expand_lifting.proofs.Links.{step_adds_none, step_starts}
use Rattle.ss_expand_lifting.proofs.fronts.steps_without_call.Goals as goal

pub loop-index-preserved : goal.loop-index-preserved
loop-index-preserved c = λ p e.
    step_adds_none p e c.args.steps.now c.loop-index.index c.index-steps-index.result c.step_has_call.result c.loop-index-test.true c.index-steps-index.is
    (c.step_has_call.ensures p (stepped p e (take c.loop-index.index c.args.steps.now))) c.if-step_has_call.false (c.loop-index.invariant p e)

pub returns-then-step_has_call-clause-next : goal.returns-then-step_has_call-clause-next
returns-then-step_has_call-clause-next c = λ p e.
    step_starts p e c.args.steps.now c.loop-index.index c.index-steps-index.result c.step_has_call.result c.loop-index-test.true c.index-steps-index.is
    (c.step_has_call.ensures p e) c.if-step_has_call.true
