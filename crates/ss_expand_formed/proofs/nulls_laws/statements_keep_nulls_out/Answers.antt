use Rattle.ss_expand_formed.proofs.NullsStatements.{stmts_hold as law}
use Rattle.ss_expand_formed.proofs.nulls_laws.statements_keep_nulls_out.Goals as goal

pub returns : goal.returns
returns c = law
