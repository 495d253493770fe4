use Rattle.std.proofs.Common.{[], ◌∷◌}
use Rattle.ss_terms.specs.Forms.{formula_at}
use Rattle.ss_linear_sums.specs.Linear.{fact_at}
use Rattle.ss_linear_network.specs.Made.{numbers_at}
use Rattle.ss_linear.proofs.Tests.{met_at}
use Rattle.ss_linear.proofs.numbers.is_so.Goals as goal

pub is_met-requires-clause-parts : goal.is_met-requires-clause-parts
is_met-requires-clause-parts c = rw c.in-Some.is at c.in_ok-fact.ensures.terms

pub returns-in-Some : goal.returns-in-Some
returns-in-Some c = λ cs of yes.
    met_at cs (formula_at c.args.bank.now c.args.f ∷ []) (numbers_at c.args.bank.now c.args.numbers.now) 0 (fact_at c.args.bank.now c.in-Some.fact) (rw c.in-Some.is at (c.in_ok-fact.ensures.fact cs of)).1 (c.is_met.ensures yes)
