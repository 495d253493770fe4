use Rattle.std.proofs.Common.{sym}
use Rattle.ss_nonnull.proofs.Naming.{agree_apart}
use Rattle.ss_nonnull.proofs.overrides.agree.Goals as goal

pub returns-then-params-others : goal.returns-then-params-others
returns-then-params-others c = sym (agree_apart c.args.params.now c.args.others.now c.if-params-others.true)
