use Rattle.ss_core.specs.View.{classes}
use Rattle.ss_terms.specs.Forms.{formula_at, formulas_at}
use Rattle.ss_check_steps.specs.Stack.{state_of}
use Rattle.ss_check.proofs.Meant.{closed_same, stepped}
use Rattle.ss_check.proofs.steps.step_meant.Goals as goal

pub returns-clause-step : goal.returns-clause-step
returns-clause-step c =
    stepped (classes c.args.context.now.classes.now) c.in_ok-yes.yes _ _ (state_of c.step_line.new.bank c.step_line.new.cases.is_open c.step_line.new.cases.known.items c.step_line.new.cases.waiting.items)
    (closed_same (classes c.args.context.now.classes.now) c.args.bank.now (formulas_at c.args.bank.now c.args.context.now.premises.now) (formula_at c.args.bank.now c.args.context.now.goal) c.args.cases.now.is_open c.args.cases.now.known.items c.args.cases.now.waiting.items c.args.line.now c.if-cases.false)
    c.in_ok-yes.ensures.step
