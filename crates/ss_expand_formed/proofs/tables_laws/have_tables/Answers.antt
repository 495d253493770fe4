use Rattle.ss_expand_formed.proofs.Tables.{have_tables as law}
use Rattle.ss_expand_formed.proofs.tables_laws.have_tables.Goals as goal

pub returns : goal.returns
returns c = law
