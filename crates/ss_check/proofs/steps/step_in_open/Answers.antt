use Rattle.std.proofs.Common.{ap}
use Rattle.ss_core.specs.View.{classes}
use Rattle.ss_terms.proofs.Grown.{IsGrown-then, HasFormula-grown, HasFormulas-grown, IsBankOf-grown}
use Rattle.ss_check_steps.specs.Stack.{state_of}
use Rattle.ss_check_steps.proofs.Stacks.{AreCases-grown}
use Rattle.ss_check.specs.Delayed.{is_plain}
use Rattle.ss_check.proofs.Meant.{plain_same, nothing_told, fact_told, stepped}
use Rattle.ss_check.proofs.Runs.{LineWithin-grown}
use Rattle.ss_check.proofs.steps.step_in_open.Goals as goal

-- ---- the line does the same

pub step_line-requires-clause-bank : goal.step_line-requires-clause-bank
step_line-requires-clause-bank c = IsBankOf-grown (classes c.args.context.now.classes.now) c.args.bank.now c.told_line.new.bank c.told_line.ensures.grown c.requires.bank

pub step_line-requires-clause-premises : goal.step_line-requires-clause-premises
step_line-requires-clause-premises c = HasFormulas-grown c.args.bank.now c.told_line.new.bank c.told_line.ensures.grown c.args.context.now.premises.now c.requires.premises

pub step_line-requires-clause-goal : goal.step_line-requires-clause-goal
step_line-requires-clause-goal c = HasFormula-grown c.args.bank.now c.told_line.new.bank c.told_line.ensures.grown c.args.context.now.goal c.requires.goal

pub step_line-requires-clause-line : goal.step_line-requires-clause-line
step_line-requires-clause-line c = LineWithin-grown c.args.bank.now c.told_line.new.bank c.told_line.ensures.grown c.args.line.now c.requires.line

pub step_line-requires-clause-fine : goal.step_line-requires-clause-fine
step_line-requires-clause-fine c = AreCases-grown c.args.bank.now c.told_line.new.bank c.told_line.ensures.grown c.args.cases.now.known.items c.args.cases.now.waiting.items c.requires.fine

pub returns-in_ok-yes-in-Plain-clause-grown : goal.returns-in_ok-yes-in-Plain-clause-grown
returns-in_ok-yes-in-Plain-clause-grown c = IsGrown-then c.args.bank.now c.told_line.new.bank c.step_line.new.bank c.told_line.ensures.grown c.step_line.ensures.grown

pub returns-in_ok-yes-in-Plain-clause-step : goal.returns-in_ok-yes-in-Plain-clause-step
returns-in_ok-yes-in-Plain-clause-step c =
    let told = rw (c.in-Plain.is, c.deref.ensures.value) at c.in_ok-told.ensures.at in
    stepped (classes c.args.context.now.classes.now) c.in_ok-yes-in-Plain.yes _ _ (state_of c.step_line.new.bank c.step_line.new.cases.is_open c.step_line.new.cases.known.items c.step_line.new.cases.waiting.items)
    (plain_same (classes c.args.context.now.classes.now) c.args.bank.now c.told_line.new.bank c.told_line.ensures.grown c.args.context.now.premises.now c.requires.premises c.args.context.now.goal c.requires.goal c.args.cases.now.known.items c.args.cases.now.waiting.items c.requires.fine c.args.line.now
    c.requires.line c.args.cases.now.is_open c.requires.is_open told)
    c.in_ok-yes-in-Plain.ensures.step

-- ---- nothing is told

pub returns-in-Nothing-clause-fine : goal.returns-in-Nothing-clause-fine
returns-in-Nothing-clause-fine c = AreCases-grown c.args.bank.now c.told_line.new.bank c.told_line.ensures.grown c.args.cases.now.known.items c.args.cases.now.waiting.items c.requires.fine

pub returns-in-Nothing-clause-step : goal.returns-in-Nothing-clause-step
returns-in-Nothing-clause-step c =
    let told = rw (c.in-Nothing.is, c.deref.ensures.value) at c.in_ok-told.ensures.at in
    nothing_told (classes c.args.context.now.classes.now) c.args.bank.now c.told_line.new.bank c.told_line.ensures.grown c.args.context.now.premises.now c.requires.premises c.args.context.now.goal c.requires.goal c.args.cases.now.known.items c.args.cases.now.waiting.items c.requires.fine c.args.line.now
    (c.in_ok-told.ensures.adds (ap is_plain c.in-Nothing.is)) c.args.cases.now.is_open c.requires.is_open told

-- ---- a fact is told

pub learn-requires-clause-fine : goal.learn-requires-clause-fine
learn-requires-clause-fine c = AreCases-grown c.args.bank.now c.told_line.new.bank c.told_line.ensures.grown c.args.cases.now.known.items c.args.cases.now.waiting.items c.requires.fine

pub learn-requires-clause-formula : goal.learn-requires-clause-formula
learn-requires-clause-formula c =
    let told = rw c.in-Fact.is at c.in_ok-told.ensures.at in
    told.0

pub returns-in_ok-learn-in-Fact-clause-step : goal.returns-in_ok-learn-in-Fact-clause-step
returns-in_ok-learn-in-Fact-clause-step c =
    let told = rw (c.in-Fact.is, c.deref.ensures.value) at c.in_ok-told.ensures.at in
    fact_told (classes c.args.context.now.classes.now) c.args.bank.now c.told_line.new.bank c.told_line.ensures.grown c.args.context.now.premises.now c.requires.premises c.args.context.now.goal c.requires.goal c.args.cases.now.known.items c.args.cases.now.waiting.items c.requires.fine c.args.line.now
    (c.in_ok-told.ensures.adds (ap is_plain c.in-Fact.is)) c.in-Fact.f (state_of c.told_line.new.bank c.learn.new.cases.is_open c.learn.new.cases.known.items c.learn.new.cases.waiting.items) c.args.cases.now.is_open c.requires.is_open told.1 c.in_ok-learn-in-Fact.ensures.state
