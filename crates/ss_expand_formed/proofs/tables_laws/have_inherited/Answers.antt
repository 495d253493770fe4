use Rattle.ss_expand_formed.proofs.Tables.{have_inherited as law}
use Rattle.ss_expand_formed.proofs.tables_laws.have_inherited.Goals as goal

pub returns : goal.returns
returns c = law
