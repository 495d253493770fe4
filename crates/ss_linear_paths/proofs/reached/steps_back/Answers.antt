use Rattle.std.proofs.Common.{sym, ◌∙◌, below_more, arith}
use Rattle.ss_linear_paths.proofs.Walking.{back_more}
use Rattle.ss_linear_paths.proofs.reached.steps_back.Goals as goal

pub loop-n-preserved : goal.loop-n-preserved
loop-n-preserved c = record {
  here = sym (back_more c.args.edges.now c.args.end c.args.path.now c.loop-n.n (omega arith));
  before = below_more _ _ c.loop-n.invariant.before (λ e. c.if-at-node.false (c.loop-n.invariant.here ∙ e));
}
