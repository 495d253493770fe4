use Rattle.std.proofs.Common.{◌≡◌, eqb, subst}
use Rattle.ss_logic.specs.Equal.{same_term}
use Rattle.ss_terms.specs.Forms.{term_at, HasTerm}
use Rattle.ss_terms.proofs.Banks.{same_term-numbers}
use Rattle.ss_terms.proofs.bank.Bank.is_same_term.Goals as goal

pub returns : goal.returns
returns c =
    subst (λ b. HasTerm b c.args.x → HasTerm b c.args.y → eqb c.args.x.0 c.args.y.0 ≡ same_term (term_at b c.args.x) (term_at b c.args.y)) c.self.view_is
    (same_term-numbers c.self.inside.fields.items c.self.inside.terms.entries c.self.inside.formulas.entries c.self.invariant c.args.x c.args.y) c.requires.left c.requires.right
