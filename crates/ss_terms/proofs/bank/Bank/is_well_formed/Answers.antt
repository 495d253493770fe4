use Rattle.std.proofs.Common.{◌≡◌, List, [], subst}
use Rattle.ss_core.specs.Tree.{ClassTree}
use Rattle.ss_logic.specs.Formulas.{is_well_formed}
use Rattle.ss_terms.specs.Forms.{formula_at, IsBankOf}
use Rattle.ss_terms.proofs.Banks.{formed_value}
use Rattle.ss_terms.proofs.bank.Bank.is_well_formed.Goals as goal

pub returns : goal.returns
returns c =
    subst (λ b. (cs : List ClassTree) → IsBankOf cs b → c.index.result.now.is_well_formed ≡ is_well_formed cs [] (formula_at b c.args.f)) c.self.view_is
    (formed_value c.self.inside.fields.items c.self.inside.terms.entries c.self.inside.formulas.entries c.self.invariant c.args.f c.index.result.now c.index.ensures)
