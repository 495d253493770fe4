use Rattle.std.proofs.Common.{pos}
use Rattle.ss_terms.proofs.Grown.{IsGrown-then}
use Rattle.ss_terms.specs.declared.forms.Symbol.TheVariants.{Number}
use Rattle.ss_rules_basic.specs.declared.plans.Plan.TheVariants.{Leaf}
use Rattle.ss_rules_basic.proofs.Planned.{has_rest, rest_planned, there_after}
use Rattle.ss_rules_basic.proofs.plans.make_terms.Goals as goal

pub loop-plan-preserved : goal.loop-plan-preserved
loop-plan-preserved c =
    let a = c.args.b.now in
    let b = c.loop-plan.b in
    let d = c.make.new.b in
    let ps = c.args.plans.now in
    let i = c.loop-plan.plan-index in
    let v = c.loop-plan.invariant in
    let made = c.loop-plan.made.items in
    let after = c.push.new.self.items in
    let t = c.in_ok-t.t in
    let p = Leaf (Number (pos 0)) in
    record {
      grown = IsGrown-then a b d v.grown c.make.ensures.grown;
      there = there_after a ps i p c.loop-plan-test.true b d v.grown c.make.ensures.grown made after t v.there c.in_ok-push.ensures.items v.has c.make.ensures.grown c.in_ok-t.ensures.at.0;
      has = has_rest a ps i p c.loop-plan-test.true b d v.grown c.make.ensures.grown made after t v.there c.in_ok-push.ensures.items v.has;
      rest = rest_planned a ps i p c.loop-plan-test.true b d v.grown c.make.ensures.grown made after t v.there c.in_ok-push.ensures.items v.has _ v.rest (rw c.deref.ensures.value at c.in_ok-t.ensures.at.1);
    }
