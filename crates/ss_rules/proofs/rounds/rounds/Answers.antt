use Rattle.ss_core.specs.View as view
use Rattle.ss_terms.proofs.Grown.{IsGrown-then}
use Rattle.ss_rules.proofs.Coming.{round_stops, round_goes_on, rounds_done}
use Rattle.ss_rules.proofs.rounds.rounds.Goals as goal

pub loop-number-preserved : goal.loop-number-preserved
loop-number-preserved c = record {
  grown = IsGrown-then c.args.bank.now c.loop-number.bank c.round.new.bank c.loop-number.invariant.grown c.round.ensures.grown;
  has = c.in_ok-few.ensures.done.has;
  noted = λ premises goal choices h. c.in_ok-few.ensures.noted premises goal choices (c.loop-number.invariant.noted premises goal choices h);
  made = c.in_ok-few.ensures.made;
  left = round_goes_on (view.classes c.args.context.now.classes.now) c.args.context.now.limit c.args.count c.loop-number.number c.loop-number.bank c.round.new.bank c.loop-number.listed.list c.round.new.listed.list _ c.loop-number-test.true c.in_ok-few.few c.loop-number.invariant.left c.in_ok-few.ensures.done c.if-not-few.false;
}

pub returns-then-not-few-clause-done : goal.returns-then-not-few-clause-done
returns-then-not-few-clause-done c =
    round_stops (view.classes c.args.context.now.classes.now) c.args.context.now.limit c.args.count c.loop-number.number c.loop-number.bank c.round.new.bank c.loop-number.listed.list c.round.new.listed.list _ c.loop-number-test.true c.in_ok-few.few c.loop-number.invariant.left c.in_ok-few.ensures.done c.if-not-few.true

pub returns-clause-done : goal.returns-clause-done
returns-clause-done c = rounds_done (view.classes c.args.context.now.classes.now) c.args.context.now.limit c.args.count c.loop-number.number c.loop-number.bank c.loop-number.listed.list _ c.loop-number.invariant.has c.loop-number-test.false c.loop-number.invariant.left

pub returns-then-not-few-clause-noted : goal.returns-then-not-few-clause-noted
returns-then-not-few-clause-noted c = λ premises goal choices h. c.in_ok-few.ensures.noted premises goal choices (c.loop-number.invariant.noted premises goal choices h)
