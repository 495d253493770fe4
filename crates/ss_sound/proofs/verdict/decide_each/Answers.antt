use Rattle.std.proofs.Common.{length}
use Rattle.ss_core.specs.View.{classes}
use Rattle.ss_terms.proofs.Grown.{HasFormulas-grown, IsBankOf-grown, IsGrown-then}
use Rattle.ss_sound.proofs.Lists.{placed_at, formed_at, step_found}
use Rattle.ss_sound.proofs.verdict.decide_each.Goals as goal

pub decide-requires-clause-bank : goal.decide-requires-clause-bank
decide-requires-clause-bank c = IsBankOf-grown (classes c.args.context.now.program.now.classes) c.args.bank.now c.loop-number.bank c.loop-number.invariant.grown c.requires.bank

pub decide-requires-clause-trail : goal.decide-requires-clause-trail
decide-requires-clause-trail c = HasFormulas-grown c.args.bank.now c.loop-number.bank c.loop-number.invariant.grown c.args.context.now.trail.now c.requires.trail

pub decide-requires-clause-placed : goal.decide-requires-clause-placed
decide-requires-clause-placed c = placed_at c.args.bank.now c.loop-number.bank (length c.args.context.now.trail.now) c.args.list.now c.loop-number.number _ c.loop-number.invariant.grown c.requires.list c.loop-number-test.true

pub decide-requires-clause-formed : goal.decide-requires-clause-formed
decide-requires-clause-formed c =
    formed_at (classes c.args.context.now.program.now.classes) c.args.bank.now c.loop-number.bank c.args.context.now.trail.now c.args.list.now c.loop-number.number _ c.loop-number.invariant.grown c.requires.trail c.requires.list c.requires.formed c.loop-number-test.true

pub loop-number-preserved : goal.loop-number-preserved
loop-number-preserved c = record {
  grown = IsGrown-then c.args.bank.now c.loop-number.bank c.decide.new.bank c.loop-number.invariant.grown c.decide.ensures.grown;
  decided = step_found (classes c.args.context.now.program.now.classes) c.args.context.now.options.now c.args.bank.now c.args.context.now.trail.now c.args.list.now c.requires.trail c.requires.list c.loop-number.number _ c.loop-number-test.true c.loop-number.bank c.decide.new.bank
      c.loop-number.invariant.grown c.loop-number.decided.countered.items c.loop-number.decided.undecided.items c.loop-number.decided.derivations.items c.loop-number.invariant.decided _ c.decide.result c.in_ok-decision.decision
      c.add.new.self.countered.items c.add.new.self.undecided.items c.add.new.self.derivations.items c.in_ok-decision.was c.decide.ensures.grown c.in_ok-add.ensures.derivations c.in_ok-add.ensures.countered c.in_ok-add.ensures.undecided
      c.decide.ensures.derived c.decide.ensures.refuted c.decide.ensures.over;
}

pub returns-in_err-decision-clause-grown : goal.returns-in_err-decision-clause-grown
returns-in_err-decision-clause-grown c = IsGrown-then c.args.bank.now c.loop-number.bank c.decide.new.bank c.loop-number.invariant.grown c.decide.ensures.grown

pub returns-in_err-add-clause-grown : goal.returns-in_err-add-clause-grown
returns-in_err-add-clause-grown c = IsGrown-then c.args.bank.now c.loop-number.bank c.decide.new.bank c.loop-number.invariant.grown c.decide.ensures.grown
