use Rattle.ss_logic_tables.proofs.Contexts.{terms_arguments}
use Rattle.ss_logic_tables.proofs.spans_laws.terms_are_arguments.Goals as goal

pub returns : goal.returns
returns c = terms_arguments
