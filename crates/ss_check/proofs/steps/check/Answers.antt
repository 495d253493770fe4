use Rattle.ss_core.specs.View.{classes}
use Rattle.ss_logic_means.proofs.Bad.{bad-not_derived}
use Rattle.ss_terms.specs.Forms.{formula_at, formulas_at}
use Rattle.ss_deriv.specs.Lines.{lines_of}
use Rattle.ss_check.proofs.steps.check.Goals as goal

pub returns-clause-refused : goal.returns-clause-refused
returns-clause-refused c = λ n e d.
    bad-not_derived (classes c.args.program.now.classes) (formulas_at c.args.bank.now c.args.obligation.now.premises.now) (formula_at c.args.bank.now c.args.obligation.now.goal) (lines_of c.args.bank.now c.args.derivation.now) n
    (rw c.lines-lines.ensures at (c.check_lines.ensures.first n e)) d
