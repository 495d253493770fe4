use Rattle.ss_expand_formed.proofs.TableMethods.{have_table_methods}
use Rattle.ss_expand_formed.proofs.laws.have_table_methods.Goals as goal

pub returns : goal.returns
returns c = have_table_methods
