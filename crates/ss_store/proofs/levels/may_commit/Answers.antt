use Rattle.std.proofs.Common.{sym, ◌∙◌}
use Rattle.ss_store.proofs.Filed.{commits_then, commits_else}
use Rattle.ss_store.proofs.levels.may_commit.Goals as goal

pub returns-then-may_be_committed_at : goal.returns-then-may_be_committed_at
returns-then-may_be_committed_at c = c.may_be_committed_among.ensures ∙ commits_then c.args.o c.args.t.0 c.args.objects.now c.args.lists.now c.in-Some.positions.now c.requires c.in-Some.ensures (sym c.may_be_committed_at.ensures ∙ c.if-may_be_committed_at.true)

pub returns-else-may_be_committed_at : goal.returns-else-may_be_committed_at
returns-else-may_be_committed_at c = c.if-may_be_committed_at.false ∙ commits_else c.args.o c.args.t.0 c.args.objects.now (sym c.may_be_committed_at.ensures ∙ c.if-may_be_committed_at.false)
