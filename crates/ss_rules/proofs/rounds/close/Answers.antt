use Rattle.std.proofs.Common.{◌≡◌, ◌∙◌, length, sym, arith}
use Rattle.ss_core.specs.View as view
use Rattle.ss_terms.proofs.Grown.{IsGrown-then}
use Rattle.ss_rules_occurring.proofs.Sought.{holds_itself}
use Rattle.ss_rules.proofs.Coming.{many_come, done_come, more_come, never_closed}
use Rattle.ss_rules.proofs.rounds.close.Goals as goal

pub loop-step-preserved : goal.loop-step-preserved
loop-step-preserved c =
    let after : c.len-after.result ≡ length c.add_due.new.listed.list.list.items = c.len-after.ensures ∙ c.add_due.new.listed.list.list.ok.0 in
    let before : c.len-before.result ≡ length c.loop-step.listed.list.list.items = c.len-before.ensures ∙ c.loop-step.listed.list.list.ok.0 in
    record {
      grown = IsGrown-then c.args.bank.now c.loop-step.bank c.add_due.new.bank c.loop-step.invariant.grown c.add_due.ensures.grown;
      has = holds_itself c.add_due.new.bank c.add_due.new.listed.list _ c.in_ok-add_due.ensures.added;
      noted = λ premises goal choices h. c.in_ok-add_due.ensures.noted premises goal choices (c.loop-step.invariant.noted premises goal choices h);
      made = c.in_ok-add_due.ensures.made;
      left = more_come (view.classes c.args.context.now.classes.now) c.args.context.now.limit c.loop-step.step c.loop-step.bank c.add_due.new.bank c.loop-step.listed.list c.add_due.new.listed.list _ c.loop-step-test.true c.loop-step.invariant.left c.in_ok-add_due.ensures.added (omega (arith, after, c.if-after-limit.false)) (λ e. c.if-after-before.false (after ∙ e ∙ sym before));
    }

pub returns-then-after-limit-clause-closed : goal.returns-then-after-limit-clause-closed
returns-then-after-limit-clause-closed c =
    let after : c.len-after.result ≡ length c.add_due.new.listed.list.list.items = c.len-after.ensures ∙ c.add_due.new.listed.list.list.ok.0 in
    many_come (view.classes c.args.context.now.classes.now) c.args.context.now.limit c.loop-step.step c.loop-step.bank c.add_due.new.bank c.loop-step.listed.list c.add_due.new.listed.list _ c.loop-step-test.true c.loop-step.invariant.left c.in_ok-add_due.ensures.added (omega (arith, after, c.if-after-limit.true))

pub returns-then-after-before-clause-closed : goal.returns-then-after-before-clause-closed
returns-then-after-before-clause-closed c =
    let after : c.len-after.result ≡ length c.add_due.new.listed.list.list.items = c.len-after.ensures ∙ c.add_due.new.listed.list.list.ok.0 in
    let before : c.len-before.result ≡ length c.loop-step.listed.list.list.items = c.len-before.ensures ∙ c.loop-step.listed.list.list.ok.0 in
    done_come (view.classes c.args.context.now.classes.now) c.args.context.now.limit c.loop-step.step c.loop-step.bank c.add_due.new.bank c.loop-step.listed.list c.add_due.new.listed.list _ c.loop-step-test.true c.loop-step.invariant.left c.in_ok-add_due.ensures.added (omega (arith, after, c.if-after-limit.false)) (sym after ∙ c.if-after-before.true ∙ before)

pub returns-clause-closed : goal.returns-clause-closed
returns-clause-closed c = never_closed (view.classes c.args.context.now.classes.now) c.args.context.now.limit c.loop-step.step c.loop-step.bank c.loop-step.listed.list _ c.loop-step.invariant.has c.loop-step-test.false c.loop-step.invariant.left

pub returns-then-after-limit-clause-noted : goal.returns-then-after-limit-clause-noted
returns-then-after-limit-clause-noted c = λ premises goal choices h. c.in_ok-add_due.ensures.noted premises goal choices (c.loop-step.invariant.noted premises goal choices h)

pub returns-then-after-before-clause-noted : goal.returns-then-after-before-clause-noted
returns-then-after-before-clause-noted c = λ premises goal choices h. c.in_ok-add_due.ensures.noted premises goal choices (c.loop-step.invariant.noted premises goal choices h)
