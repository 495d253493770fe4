use Rattle.std.proofs.Common.{◌≡◌, ◌∙◌, arith}
use Rattle.ss_linear_paths.proofs.Walking.{started, lists_length}
use Rattle.ss_linear_paths.proofs.reached.Reached.new.Goals as goal

pub returns-clause-reached : goal.returns-clause-reached
returns-clause-reached c = λ es.
    let all : c.loop.counter ≡ c.args.nodes = omega arith in
    started c.args.nodes es c.loop.labels.items _ (c.loop.invariant.labels ∙ all) (lists_length c.loop.paths.items ∙ c.loop.invariant.paths ∙ all) c.loop.invariant.zeros c.loop.invariant.empty
