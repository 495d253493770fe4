use Rattle.std.proofs.Common.{subst, sym, ◌∙◌, ap}
use Rattle.std.specs.Prelude.{option_map}
use Rattle.ss_terms.specs.Forms.{IsTermForm}
use Rattle.ss_terms.proofs.Banks.{term_form}
use Rattle.ss_terms.proofs.bank.Bank.term_node.Goals as goal

pub returns : goal.returns
returns c =
    subst (λ b. IsTermForm b c.args.t c.unwrap.result.0.now) c.self.view_is
    (term_form c.self.inside.fields.items c.self.inside.terms.entries c.self.inside.formulas.entries c.self.invariant c.args.t (c.unwrap.result.0.now, c.unwrap.result.1.now)
    (sym c.get_index.ensures.entry ∙ ap (option_map (λ p. (p.0.now, p.1.now))) c.unwrap.ensures))
