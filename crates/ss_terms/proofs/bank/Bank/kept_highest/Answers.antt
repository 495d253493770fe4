use Rattle.std.proofs.Common.{◌≡◌, subst}
use Rattle.ss_terms.specs.Forms.{formula_at}
use Rattle.ss_terms.specs.Highest.{highest}
use Rattle.ss_terms.proofs.Banks.{highest_value}
use Rattle.ss_terms.proofs.bank.Bank.kept_highest.Goals as goal

pub returns : goal.returns
returns c =
    subst (λ b. c.index.result.now.highest ≡ highest (formula_at b c.args.f)) c.self.view_is
    (highest_value c.self.inside.fields.items c.self.inside.terms.entries c.self.inside.formulas.entries c.self.invariant c.args.f c.index.result.now c.index.ensures)
