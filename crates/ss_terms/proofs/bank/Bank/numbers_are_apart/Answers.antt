use Rattle.std.proofs.Common.{subst}
use Rattle.ss_terms.specs.Apart.{AreApart}
use Rattle.ss_terms.proofs.Banks.{same_term-numbers, same_formula-numbers}
use Rattle.ss_terms.proofs.bank.Bank.numbers_are_apart.Goals as goal

pub returns : goal.returns
returns c =
    subst AreApart c.self.view_is
    (record {
      terms = same_term-numbers c.self.inside.fields.items c.self.inside.terms.entries c.self.inside.formulas.entries c.self.invariant;
      formulas = same_formula-numbers c.self.inside.fields.items c.self.inside.terms.entries c.self.inside.formulas.entries c.self.invariant;
    })
