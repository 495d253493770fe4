use Rattle.ss_terms.specs.Forms.{terms_at}
use Rattle.ss_linear_network.proofs.Making.{network_passed}
use Rattle.ss_linear.proofs.differences.add_fact.Goals as goal

pub returns-in-None-clause-network : goal.returns-in-None-clause-network
returns-in-None-clause-network c = λ cs known is w.
    let none = rw c.in-None.is at is in
    network_passed cs known (terms_at c.args.bank.now c.args.made.now.nodes.terms.items) c.args.made.now.edges.items c.args.made.now.origins.items c.args.k
    (λ fact e d. let no : ⊥ = cc none in no) w
