use Rattle.std.proofs.Common.{◌≡◌, ◌+◌, ◌-◌, ◌<◌, length, get_or, arith}
use Rattle.ss_core.specs.View as view
use Rattle.ss_logic.specs.Matching.{forall_instances}
use Rattle.ss_terms.specs.Forms.{formula_at}
use Rattle.ss_terms.proofs.Grown.{IsGrown-then, HasFormula-grown}
use Rattle.ss_terms.proofs.Tested.{AreBelow-get}
use Rattle.ss_rules.proofs.Coming.{forall_stops, forall_goes_on, foralls_done, closed_now}
use Rattle.ss_rules_occurring.specs.Found.{formulas_of}
use Rattle.ss_rules.proofs.GroundNoted.{comes_including, one_occurs}
use Rattle.ss_rules.proofs.rounds.at_foralls.Goals as goal

pub at_forall-requires-clause-formula : goal.at_forall-requires-clause-formula
at_forall-requires-clause-formula c =
    let within : c.loop-i.i - 1 < length c.args.fs.now = omega (arith, c.loop-i.invariant.within, c.loop-i-test.true) in
    HasFormula-grown c.args.bank.now c.loop-i.bank c.loop-i.invariant.grown _ (AreBelow-get _ c.args.fs.now (c.loop-i.i - 1) (record { 0 = 0 }) c.requires.formulas within)

pub loop-i-preserved : goal.loop-i-preserved
loop-i-preserved c =
    let within : c.loop-i.i - 1 < length c.args.fs.now = omega (arith, c.loop-i.invariant.within, c.loop-i-test.true) in
    let next : c.loop-i.i ≡ c.loop-i.i - 1 + 1 = omega (arith, c.loop-i-test.true) in
    record {
      within = omega (arith, within);
      grown = IsGrown-then c.args.bank.now c.loop-i.bank c.at_forall.new.bank c.loop-i.invariant.grown c.at_forall.ensures.grown;
      has = c.in_ok-few.ensures.closed.has;
      including = λ x k. comes_including (view.classes c.args.context.now.classes.now) c.args.context.now.limit c.at_forall.new.bank c.at_forall.new.listed.list c.in_ok-few.few (formulas_of c.loop-i.bank c.loop-i.listed.list) (forall_instances (formulas_of c.loop-i.bank c.loop-i.listed.list) (formula_at c.loop-i.bank (get_or c.args.fs.now (c.loop-i.i - 1) (record { 0 = 0 })))) c.in_ok-few.ensures.closed c.if-not-few.false x (c.loop-i.invariant.including x k);
      noted = λ all premises goal choices h.
          c.in_ok-few.ensures.noted
          (one_occurs c.args.bank.now c.loop-i.bank c.args.fs.now (c.loop-i.i - 1) (record { 0 = 0 }) (formulas_of c.args.bank.now c.args.listed.now.list) (formulas_of c.loop-i.bank c.loop-i.listed.list) c.loop-i.invariant.grown c.requires.formulas within c.loop-i.invariant.including all)
          premises goal choices (c.loop-i.invariant.noted all premises goal choices h);
      made = c.in_ok-few.ensures.made;
      still = closed_now (view.classes c.args.context.now.classes.now) c.args.context.now.limit c.at_forall.new.bank c.at_forall.new.listed.list c.in_ok-few.few _ c.in_ok-few.ensures.closed c.if-not-few.false;
      left = forall_goes_on (view.classes c.args.context.now.classes.now) c.args.context.now.limit c.args.bank.now c.loop-i.bank c.at_forall.new.bank c.args.fs.now (c.loop-i.i - 1) c.loop-i.i next (record { 0 = 0 }) c.loop-i.listed.list c.at_forall.new.listed.list _ within c.requires.formulas c.loop-i.invariant.grown
          c.in_ok-few.few c.loop-i.invariant.left c.in_ok-few.ensures.closed c.if-not-few.false;
    }

pub returns-then-not-few-clause-closed : goal.returns-then-not-few-clause-closed
returns-then-not-few-clause-closed c =
    let within : c.loop-i.i - 1 < length c.args.fs.now = omega (arith, c.loop-i.invariant.within, c.loop-i-test.true) in
    let next : c.loop-i.i ≡ c.loop-i.i - 1 + 1 = omega (arith, c.loop-i-test.true) in
    forall_stops (view.classes c.args.context.now.classes.now) c.args.context.now.limit c.args.bank.now c.loop-i.bank c.at_forall.new.bank c.args.fs.now (c.loop-i.i - 1) c.loop-i.i next (record { 0 = 0 }) c.loop-i.listed.list c.at_forall.new.listed.list _ within c.requires.formulas c.loop-i.invariant.grown
    c.in_ok-few.few c.loop-i.invariant.left c.in_ok-few.ensures.closed c.if-not-few.true

pub returns-clause-closed : goal.returns-clause-closed
returns-clause-closed c = foralls_done (view.classes c.args.context.now.classes.now) c.args.context.now.limit c.args.bank.now c.loop-i.bank c.args.fs.now c.loop-i.i c.loop-i.listed.list _ c.loop-i.invariant.has (omega (arith, c.loop-i-test.false)) c.loop-i.invariant.left

pub returns-then-not-few-clause-noted : goal.returns-then-not-few-clause-noted
returns-then-not-few-clause-noted c = λ all premises goal choices h.
    let within : c.loop-i.i - 1 < length c.args.fs.now = omega (arith, c.loop-i.invariant.within, c.loop-i-test.true) in
    c.in_ok-few.ensures.noted
    (one_occurs c.args.bank.now c.loop-i.bank c.args.fs.now (c.loop-i.i - 1) (record { 0 = 0 }) (formulas_of c.args.bank.now c.args.listed.now.list) (formulas_of c.loop-i.bank c.loop-i.listed.list) c.loop-i.invariant.grown c.requires.formulas within c.loop-i.invariant.including all)
    premises goal choices (c.loop-i.invariant.noted all premises goal choices h)
