use Rattle.ss_linear_network.proofs.Making.{no_nodes}
use Rattle.ss_linear_network.proofs.nodes.Nodes.new.Goals as goal

pub returns-clause-nodes : goal.returns-clause-nodes
returns-clause-nodes c = λ b. no_nodes b _ c.new-terms.ensures.items c.new-places.ensures.empty
