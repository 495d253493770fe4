use Rattle.ss_core.specs.View.{classes}
use Rattle.ss_terms.specs.Forms.{formula_at, formulas_at}
use Rattle.ss_check_steps.specs.Stack.{waiting_of}
use Rattle.ss_check.proofs.Runs.{step_adds}
use Rattle.ss_check.proofs.steps.step_in_case.Goals as goal

pub returns-in_default-clause-step : goal.returns-in_default-clause-step
returns-in_default-clause-step c =
    rw (step_adds (classes c.args.context.now.classes.now) c.args.bank.now (formulas_at c.args.bank.now c.args.context.now.premises.now) (formula_at c.args.bank.now c.args.context.now.goal) (formulas_at c.args.bank.now c.args.cases.now.known.items)
    (waiting_of c.args.bank.now c.args.cases.now.known.items c.args.cases.now.waiting.items) c.args.line.now c.in_default.not-Split c.in_default.not-Cut c.in_default.not-Clash) c.add.ensures.step
