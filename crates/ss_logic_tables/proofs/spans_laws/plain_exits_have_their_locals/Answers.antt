use Rattle.ss_logic_tables.proofs.Contexts.{plain_exit_arguments}
use Rattle.ss_logic_tables.proofs.spans_laws.plain_exits_have_their_locals.Goals as goal

pub returns : goal.returns
returns c = plain_exit_arguments
