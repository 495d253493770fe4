use Rattle.std.proofs.Common.{subst, sym, ◌∙◌, ap, ⊎_elim}
use Rattle.std.specs.Prelude.{option_map}
use Rattle.ss_terms_interned.proofs.Halves.{split_number}
use Rattle.ss_terms.specs.Forms.{IsFormulaForm}
use Rattle.ss_terms.proofs.Banks.{plain_form, negated_form}
use Rattle.ss_terms.proofs.bank.Bank.formula_node.Goals as goal

pub returns-then-f-eq0 : goal.returns-then-f-eq0
returns-then-f-eq0 c =
    subst (λ b. IsFormulaForm b c.args.f c.unwrap.result.0.now) c.self.view_is
    (plain_form c.self.inside.fields.items c.self.inside.terms.entries c.self.inside.formulas.entries c.self.invariant c.args.f (c.unwrap.result.0.now, c.unwrap.result.1.now)
    (sym c.get_index.ensures.entry ∙ ap (option_map (λ p. (p.0.now, p.1.now))) c.unwrap.ensures) c.if-f-eq0.true)

pub returns-else-f-eq0 : goal.returns-else-f-eq0
returns-else-f-eq0 c =
    subst (λ b. IsFormulaForm b c.args.f c.unwrap.result.1.now.negation) c.self.view_is
    (negated_form c.self.inside.fields.items c.self.inside.terms.entries c.self.inside.formulas.entries c.self.invariant c.args.f (c.unwrap.result.0.now, c.unwrap.result.1.now)
    (sym c.get_index.ensures.entry ∙ ap (option_map (λ p. (p.0.now, p.1.now))) c.unwrap.ensures)
    (⊎_elim (λ p. absurd (c.if-f-eq0.false p.1)) (λ p. p.1) (split_number c.args.f.0)))
