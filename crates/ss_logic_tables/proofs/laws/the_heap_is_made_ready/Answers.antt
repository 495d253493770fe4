use Rattle.ss_logic_tables.proofs.Writing.{made_ready_store}
use Rattle.ss_logic_tables.proofs.laws.the_heap_is_made_ready.Goals as goal

pub returns : goal.returns
returns c = made_ready_store
