use Rattle.std.proofs.Common.{arith, ◌∙◌}
use Rattle.ss_store_lists.proofs.Held.{set_other, past}
use Rattle.ss_store_lists.proofs.lists.take_at.Goals as goal

pub returns-then-k-held-clause-others : goal.returns-then-k-held-clause-others
returns-then-k-held-clause-others c = λ h n. set_other c.args.held.now c.args.k h c.replace.new.dest n

pub returns-else-k-held-clause-taken : goal.returns-else-k-held-clause-taken
returns-else-k-held-clause-taken c = c.new-else-k-held.ensures.items ∙ past c.args.held.now c.args.k (let l = c.if-k-held.false in omega (arith, l))
