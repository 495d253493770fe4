use Rattle.std.proofs.Common.{sym, subst}
use Rattle.ss_linear_network.specs.declared.nodes.Nodes.{Nodes}
use Rattle.ss_linear_network.specs.Made.{AreNodesOf, HasEnd, term_of}
use Rattle.ss_linear_network.proofs.Making.{on_three, sound_added, network_added}
use Rattle.ss_linear_network.proofs.network.Network.add.Goals as goal

pub returns-clause-nodes : goal.returns-clause-nodes
returns-clause-nodes c = on_three c.add_edges.result _ _ _ _
    (λ a e o. subst (λ (n : Nodes). AreNodesOf c.args.bank.now n) (sym a) c.in_ok-to.ensures.nodes)
    c.add_edges.ensures.nodes c.add_edges.ensures.edges c.add_edges.ensures.origins

pub returns-clause-sound : goal.returns-clause-sound
returns-clause-sound c = λ s. on_three c.add_edges.result _ _ _ _
    (λ a e o. sound_added c.args.bank.now c.args.k c.args.d c.args.self.now c.add_edges.new.self c.end.new.self.terms.items c.in_ok-from.from c.in_ok-to.to c.in_ok-from.ensures.end
    (subst (λ (n : Nodes). HasEnd c.args.bank.now c.end.new.self.terms.items n.terms.items (term_of c.args.bank.now c.args.d.minus) c.in_ok-to.to) (sym a) c.in_ok-to.ensures.end)
    c.requires.small e o s)
    c.add_edges.ensures.nodes c.add_edges.ensures.edges c.add_edges.ensures.origins

pub returns-clause-network : goal.returns-clause-network
returns-clause-network c = λ cs known w h. on_three c.add_edges.result _ _ _ _
    (λ a e o. network_added c.args.bank.now cs known c.args.k c.args.d c.args.self.now.nodes.terms.items c.end.new.self.terms.items c.add_edges.new.self.nodes.terms.items c.args.self.now.edges.items c.add_edges.new.self.edges.items c.args.self.now.origins.items c.add_edges.new.self.origins.items c.in_ok-from.from c.in_ok-to.to c.in_ok-from.ensures.end
    (subst (λ (n : Nodes). HasEnd c.args.bank.now c.end.new.self.terms.items n.terms.items (term_of c.args.bank.now c.args.d.minus) c.in_ok-to.to) (sym a) c.in_ok-to.ensures.end)
    e o w h)
    c.add_edges.ensures.nodes c.add_edges.ensures.edges c.add_edges.ensures.origins
