use Rattle.std.proofs.Common.{◌++◌}
use Rattle.ss_terms.specs.Forms.{formulas_at}
use Rattle.ss_linear.specs.Contradictions.{equalities_at}
use Rattle.ss_linear.proofs.refuted.refute_with.Goals as goal

pub returns-clause-some : goal.returns-clause-some
returns-clause-some c = λ cs of. c.two.ensures.some cs (formulas_at c.args.bank.now c.args.facts.now ++ equalities_at c.args.bank.now c.args.equalities.now) (rw c.deref.ensures.value (c.in_ok-read.ensures.read cs of))

pub returns-clause-none : goal.returns-clause-none
returns-clause-none c = λ cs of. c.two.ensures.none cs (formulas_at c.args.bank.now c.args.facts.now ++ equalities_at c.args.bank.now c.args.equalities.now) (rw c.deref.ensures.value (c.in_ok-read.ensures.read cs of))
