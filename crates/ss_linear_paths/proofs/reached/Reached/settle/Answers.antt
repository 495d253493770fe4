use Rattle.std.proofs.Common.{◌<◌, ◌^◌, length, arith}
use Rattle.ss_linear_paths.specs.Edges.{no_edge}
use Rattle.ss_linear_paths.specs.Paths.{lists}
use Rattle.ss_linear_paths.proofs.Walking.{edge_within, looked_met}
use Rattle.ss_linear_paths.proofs.reached.Reached.settle.Goals as goal

pub is_open-requires : goal.is_open-requires
is_open-requires c =
    let few : length c.args.self.now.labels.items < 2 ^ 63 = (let o = c.args.self.now.labels.ok in let s = c.args.self.now.labels.small in omega arith) in
    record {
      from = (c.requires.nodes c.args.k no_edge c.requires.inside).0;
      to = (c.requires.nodes c.args.k no_edge c.requires.inside).1;
      within = edge_within (length c.args.self.now.labels.items) c.args.edges.now c.args.self.now.labels.items (lists c.args.self.now.paths.items) c.args.k few c.requires.reached c.requires.nodes c.requires.small c.requires.inside;
    }

pub returns-else-is_open-clause-looked : goal.returns-else-is_open-clause-looked
returns-else-is_open-clause-looked c = looked_met (length c.args.self.now.labels.items) c.args.edges.now c.args.self.now.labels.items (lists c.args.self.now.paths.items) c.args.k c.requires.reached (c.is_open.ensures.met c.if-is_open.false)
