use Rattle.ss_logic_tables.proofs.Standing.{entry_arguments}
use Rattle.ss_logic_tables.proofs.spans_laws.entries_have_their_locals.Goals as goal

pub returns : goal.returns
returns c = entry_arguments
