use Rattle.std.proofs.Common.{subst, ℕ}
use Rattle.ss_linear_network.specs.Made.{IsNetworkOf}
use Rattle.ss_linear.proofs.Glue.{facts_length}
use Rattle.ss_linear.proofs.differences.of_differences.Goals as goal

pub returns-clause-nodes : goal.returns-clause-nodes
returns-clause-nodes c = c.solve.ensures.nodes c.args.bank.now c.in_ok-made.ensures.nodes

pub returns-clause-solved : goal.returns-clause-solved
returns-clause-solved c = λ cs known h.
    c.solve.ensures.solved c.args.bank.now cs known
    (subst (λ (n : ℕ). IsNetworkOf c.args.bank.now cs known c.in_ok-made.made n) (facts_length cs c.args.bank.now known c.args.facts.now h) (c.in_ok-made.ensures.network cs known h))
