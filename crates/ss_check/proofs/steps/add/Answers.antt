use Rattle.std.proofs.Common.{sym}
use Rattle.ss_core.specs.View.{classes}
use Rattle.ss_terms.proofs.Grown.{IsBankOf-grown}
use Rattle.ss_check_steps.proofs.Stacks.{AreCases-grown, added}
use Rattle.ss_check.proofs.steps.add.Goals as goal

pub returns-in_default-clause-fine : goal.returns-in_default-clause-fine
returns-in_default-clause-fine c = AreCases-grown c.args.bank.now c.fact.new.bank c.fact.ensures.grown c.args.cases.now.known.items c.args.cases.now.waiting.items c.requires.fine

pub returns-then-not-is_well_formed-clause-fine : goal.returns-then-not-is_well_formed-clause-fine
returns-then-not-is_well_formed-clause-fine c = AreCases-grown c.args.bank.now c.fact.new.bank c.fact.ensures.grown c.args.cases.now.known.items c.args.cases.now.waiting.items c.requires.fine

pub learn-requires-clause-fine : goal.learn-requires-clause-fine
learn-requires-clause-fine c = AreCases-grown c.args.bank.now c.fact.new.bank c.fact.ensures.grown c.args.cases.now.known.items c.args.cases.now.waiting.items c.requires.fine

pub returns-clause-step : goal.returns-clause-step
returns-clause-step c =
    let fact = rw (c.in-Some.is, c.deref.ensures.value) at c.in_ok-f.ensures.fact in
    added (classes c.args.context.now.classes.now) c.args.bank.now c.fact.new.bank c.fact.ensures.grown c.args.cases.now.known.items c.args.cases.now.waiting.items c.requires.fine _ c.in-Some.f _ fact.1
    (sym (c.if-not-is_well_formed.ensures (classes c.args.context.now.classes.now) (IsBankOf-grown (classes c.args.context.now.classes.now) c.args.bank.now c.fact.new.bank c.fact.ensures.grown c.requires.bank))) c.in_ok-learn.ensures.state
