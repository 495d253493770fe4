use Rattle.std.proofs.Common.{length}
use Rattle.ss_linear_paths.specs.Paths.{lists}
use Rattle.ss_linear_paths.proofs.Walking.{looked_on, none_gives}
use Rattle.ss_linear_paths.proofs.reached.Reached.round.Goals as goal

pub loop-k-preserved : goal.loop-k-preserved
loop-k-preserved c =
    looked_on (length c.args.self.now.labels.items) (length c.loop-k.self.labels.items) c.args.edges.now c.args.self.now.labels.items (lists c.args.self.now.paths.items) c.loop-k.self.labels.items (lists c.loop-k.self.paths.items) c.loop-k.k c.settle.new.self.labels.items (lists c.settle.new.self.paths.items) _ c.loop-k.invariant.reached.labels c.loop-k.invariant
    (none_gives _ _ c.in-None.is c.in_ok-found.ensures.looked)
