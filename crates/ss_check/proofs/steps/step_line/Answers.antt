use Rattle.ss_core.specs.View.{classes}
use Rattle.ss_terms.specs.Forms.{formula_at, formulas_at}
use Rattle.ss_check.proofs.Runs.{AreCases-reopened, reopened_stepped}
use Rattle.ss_check.proofs.steps.step_line.Goals as goal

pub returns-in_ok-yes-in-Case-clause-fine : goal.returns-in_ok-yes-in-Case-clause-fine
returns-in_ok-yes-in-Case-clause-fine c = AreCases-reopened c.args.bank.now c.args.cases.now.known.items c.reopen.new.cases.known.items c.args.cases.now.waiting.items c.reopen.new.cases.waiting.items c.reopen.new.cases.is_open c.in_ok-yes-in-Case.yes c.in_ok-yes-in-Case.ensures c.requires.fine

pub returns-in_ok-yes-in-Case-clause-step : goal.returns-in_ok-yes-in-Case-clause-step
returns-in_ok-yes-in-Case-clause-step c =
    rw c.in-Case.is
    (reopened_stepped c.args.bank.now c.args.cases.now.known.items c.reopen.new.cases.known.items c.args.cases.now.waiting.items c.reopen.new.cases.waiting.items c.reopen.new.cases.is_open
    (classes c.args.context.now.classes.now) (formulas_at c.args.bank.now c.args.context.now.premises.now) (formula_at c.args.bank.now c.args.context.now.goal) c.args.cases.now.is_open c.if-cases.false c.in_ok-yes-in-Case.yes c.in_ok-yes-in-Case.ensures c.requires.fine)
