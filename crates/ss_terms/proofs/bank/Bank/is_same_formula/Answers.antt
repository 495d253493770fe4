use Rattle.std.proofs.Common.{◌≡◌, eqb, subst}
use Rattle.ss_logic.specs.Equal.{same_formula}
use Rattle.ss_terms.specs.Forms.{formula_at, HasFormula}
use Rattle.ss_terms.proofs.Banks.{same_formula-numbers}
use Rattle.ss_terms.proofs.bank.Bank.is_same_formula.Goals as goal

pub returns : goal.returns
returns c =
    subst (λ b. HasFormula b c.args.x → HasFormula b c.args.y → eqb c.args.x.0 c.args.y.0 ≡ same_formula (formula_at b c.args.x) (formula_at b c.args.y)) c.self.view_is
    (same_formula-numbers c.self.inside.fields.items c.self.inside.terms.entries c.self.inside.formulas.entries c.self.invariant c.args.x c.args.y) c.requires.left c.requires.right
