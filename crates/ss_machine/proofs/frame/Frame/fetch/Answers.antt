use Rattle.std.proofs.Common.{◌∷◌, ◌++◌, List, sym, ap, ◌∙◌}
use Rattle.ss_machine_rules.specs.States.{Due, Statement, Test}
use Rattle.ss_core.specs.View.{expr, block}
use Rattle.ss_machine.specs.declared.frame.Behind.{Behind}
use Rattle.ss_machine.specs.Frames.{loop_of, dues_after, left_after}
use Rattle.ss_machine.proofs.Stacks.{leave_block, nothing_left}
use Rattle.ss_machine.proofs.frame.Frame.fetch.Goals as goal

pub loop-self-preserved : goal.loop-self-preserved
loop-self-preserved c =
    let f = c.loop-self.self in
    let i = c.loop-self.invariant in
    let e = leave_block f.code.now f.later.items c.pop.new.self.items c.in_ok-code.field-0 c.in_default.len_below c.in_ok-code.ensures.items in
    record {
      left = ap (λ (b : Behind). dues_after b ++ left_after c.pop.new.self.items) (sym c.in-Code.is) ∙ sym e ∙ i.left;
      locals = i.locals;
      body = i.body;
      into = i.into;
    }

pub returns-in-Test-clause-left : goal.returns-in-Test-clause-left
returns-in-Test-clause-left c =
    let f = c.loop-self.self in
    let l = c.in-Test.l.now in
    let e = leave_block f.code.now f.later.items c.pop.new.self.items c.in_ok-code.field-0 c.in_default.len_below c.in_ok-code.ensures.items in
    sym c.loop-self.invariant.left ∙ e ∙ ap (λ (b : Behind). dues_after b ++ left_after c.pop.new.self.items) c.in-Test.is
    ∙ ap (λ (ds : List Due). Test (expr l.test) (block l.body.items) (loop_of l) ∷ ds) (nothing_left f.code.now (left_after c.pop.new.self.items) c.in_default.len_below)

pub returns-in-Head-clause-left : goal.returns-in-Head-clause-left
returns-in-Head-clause-left c =
    let f = c.loop-self.self in
    let e = leave_block f.code.now f.later.items c.pop.new.self.items c.in_ok-code.field-0 c.in_default.len_below c.in_ok-code.ensures.items in
    sym c.loop-self.invariant.left ∙ e ∙ ap (λ (b : Behind). dues_after b ++ left_after c.pop.new.self.items) c.in-Head.is
    ∙ ap (λ (ds : List Due). Statement (loop_of c.in-Head.l.now) ∷ ds) (nothing_left f.code.now (left_after c.pop.new.self.items) c.in_default.len_below)
