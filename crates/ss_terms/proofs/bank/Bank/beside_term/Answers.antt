use Rattle.std.proofs.Common.{subst}
use Rattle.ss_terms.specs.Forms.{term_at}
use Rattle.ss_terms.specs.Bank.{IsBesideTerm}
use Rattle.ss_terms.proofs.Banks.{beside_value}
use Rattle.ss_terms.proofs.bank.Bank.beside_term.Goals as goal

pub returns : goal.returns
returns c =
    subst (λ b. IsBesideTerm b (term_at b c.args.t) c.index.result.now) c.self.view_is
    (beside_value c.self.inside.fields.items c.self.inside.terms.entries c.self.inside.formulas.entries c.self.invariant c.args.t c.index.result.now c.index.ensures)
