use Rattle.ss_logic_tables.proofs.Contexts.{exit_arguments}
use Rattle.ss_logic_tables.proofs.spans_laws.exits_have_their_locals.Goals as goal

pub returns : goal.returns
returns c = exit_arguments
