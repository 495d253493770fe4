use Rattle.ss_logic_tables.proofs.Adding.{new_store}
use Rattle.ss_logic_tables.proofs.laws.the_heap_has_a_new_object.Goals as goal

pub returns : goal.returns
returns c = new_store
