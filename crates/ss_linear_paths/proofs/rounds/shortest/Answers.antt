use Rattle.std.proofs.Common.{◌≡◌, arith, length}
use Rattle.ss_linear_paths.specs.Paths.{lists, IsLooked}
use Rattle.ss_linear_paths.proofs.Walking.{next_round, met_at_last, none_gives, reached_as}
use Rattle.ss_linear_paths.proofs.rounds.shortest.Goals as goal

pub loop-init : goal.loop-init
loop-init c = record { reached = c.in_ok-reached.ensures.reached c.args.edges.now; round = c.in_ok-reached.ensures.round c.args.edges.now }

pub loop-preserved : goal.loop-preserved
loop-preserved c =
    let n = length c.loop.reached.labels.items in
    let looked : IsLooked n c.args.edges.now c.loop.reached.labels.items (lists c.loop.reached.paths.items) 0 c.round.new.self.labels.items (lists c.round.new.self.paths.items) (length c.args.edges.now) = none_gives _ _ c.in-None.is c.in_ok-found.ensures.looked in
    record {
      reached = reached_as n c.args.nodes c.args.edges.now c.round.new.self.labels.items (lists c.round.new.self.paths.items) c.loop.invariant.reached.labels looked.reached;
      round = next_round n c.args.edges.now c.loop.reached.labels.items (lists c.loop.reached.paths.items) c.round.new.self.labels.items (lists c.round.new.self.paths.items) c.loop.counter looked c.loop.invariant.round;
    }

pub returns : goal.returns
returns c =
    let all : c.loop.counter ≡ c.args.nodes = omega arith in
    (c.loop.invariant.reached.labels, met_at_last c.args.nodes c.loop.counter c.args.edges.now c.loop.reached.labels.items (lists c.loop.reached.paths.items) all c.loop.invariant.reached c.requires.nodes c.loop.invariant.round)
