use Rattle.std.proofs.Common.{◌≡◌, false, take, drop, sym, ap, ◌∙◌}
use Rattle.ss_expand_rules.specs.Calls.{has_call}
use Rattle.ss_typed.specs.Parts.{stepped}
use Rattle.ss_expand_lifting.proofs.Links.{steps_after_call, steps_go_on, operand_along}
use Rattle.ss_expand_lifting.proofs.fronts.front_of_path.Goals as goal

pub returns-then-operand-clause-front : goal.returns-then-operand-clause-front
returns-then-operand-clause-front c = λ s e before types code made n h.
    record { operand = h; go_on = steps_after_call c.args.place e c.args.steps.now (sym h.calls ∙ c.if-operand.true) }

pub returns-clause-front : goal.returns-clause-front
returns-clause-front c = λ s e before types code made n h.
    let p = c.args.place in
    let steps = c.args.steps.now in
    let taken = c.steps_without_call-length.result in
    let none : has_call e ≡ false = sym h.calls ∙ c.if-operand.false in
    let same : stepped p e c.first_steps.result.now ≡ stepped p e (take taken steps) = ap (λ ls. stepped p e ls) c.first_steps.ensures in
    let still : has_call (stepped p e c.first_steps.result.now) ≡ false = ap has_call same ∙ c.steps_without_call-length.ensures.front p e ∙ none in
    record {
      operand = operand_along _ _ _ _ _ _ _ _ same (c.in_ok-operand.ensures s e before types code made n h none still);
      go_on = steps_go_on p (stepped p e (take taken steps)) (drop taken steps) (c.steps_without_call-length.ensures.next p (stepped p e (take taken steps)));
    }
