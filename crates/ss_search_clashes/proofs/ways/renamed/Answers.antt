use Rattle.std.proofs.Common.{sym}
use Rattle.ss_equality_rules.proofs.Names.{renamed_from, renamed_other}
use Rattle.ss_search_clashes.proofs.ways.renamed.Goals as goal

pub returns-then-class-join : goal.returns-then-class-join
returns-then-class-join c = sym (renamed_from c.args.join c.args.class c.if-class-join.true)

pub returns-else-class-join : goal.returns-else-class-join
returns-else-class-join c = sym (renamed_other c.args.join c.args.class c.if-class-join.false)
