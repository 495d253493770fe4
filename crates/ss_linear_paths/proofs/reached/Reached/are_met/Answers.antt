use Rattle.std.proofs.Common.{◌<◌, ◌^◌, length, below_more, arith}
use Rattle.ss_linear_paths.specs.Edges.{no_edge, edge_at, IsMet}
use Rattle.ss_linear_paths.specs.Paths.{lists}
use Rattle.ss_linear_paths.proofs.Walking.{edge_within, met_each}
use Rattle.ss_linear_paths.proofs.reached.Reached.are_met.Goals as goal

pub is_open-requires : goal.is_open-requires
is_open-requires c =
    let few : length c.args.self.now.labels.items < 2 ^ 63 = (let o = c.args.self.now.labels.ok in let s = c.args.self.now.labels.small in omega arith) in
    record {
      from = (c.requires.nodes c.loop-edge.edge-index no_edge c.loop-edge-test.true).0;
      to = (c.requires.nodes c.loop-edge.edge-index no_edge c.loop-edge-test.true).1;
      within = edge_within (length c.args.self.now.labels.items) c.args.edges.now c.args.self.now.labels.items (lists c.args.self.now.paths.items) c.loop-edge.edge-index few c.requires.reached c.requires.nodes c.requires.small c.loop-edge-test.true;
    }

pub loop-edge-preserved : goal.loop-edge-preserved
loop-edge-preserved c = below_more (λ j. IsMet c.args.self.now.labels.items (edge_at c.args.edges.now j)) c.loop-edge.edge-index c.loop-edge.invariant (c.is_open.ensures.met c.if-is_open.false)

pub returns : goal.returns
returns c = λ _. met_each c.args.edges.now c.args.self.now.labels.items c.loop-edge.edge-index c.loop-edge-test.false c.loop-edge.invariant
