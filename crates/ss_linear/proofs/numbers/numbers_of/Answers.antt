use Rattle.std.proofs.Common.{◌++◌}
use Rattle.ss_terms.specs.Forms.{formulas_at}
use Rattle.ss_linear.specs.Contradictions.{equalities_at}
use Rattle.ss_linear.proofs.numbers.numbers_of.Goals as goal

pub returns-clause-nodes : goal.returns-clause-nodes
returns-clause-nodes c = c.met.ensures.nodes c.args.bank.now c.in_ok-solved.ensures.nodes

pub returns-clause-met : goal.returns-clause-met
returns-clause-met c = λ cs of.
    c.met.ensures.met c.args.bank.now cs (formulas_at c.args.bank.now c.args.facts.now ++ equalities_at c.args.bank.now c.args.equalities.now)
    (c.in_ok-solved.ensures.solved cs (formulas_at c.args.bank.now c.args.facts.now ++ equalities_at c.args.bank.now c.args.equalities.now) (rw c.deref.ensures.value (c.in_ok-read.ensures.read cs of)))
