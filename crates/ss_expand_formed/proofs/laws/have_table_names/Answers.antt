use Rattle.ss_expand_formed.proofs.TableNames.{have_table_names}
use Rattle.ss_expand_formed.proofs.laws.have_table_names.Goals as goal

pub returns : goal.returns
returns c = have_table_names
