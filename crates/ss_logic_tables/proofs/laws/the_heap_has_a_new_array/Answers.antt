use Rattle.ss_logic_tables.proofs.Adding.{array_store}
use Rattle.ss_logic_tables.proofs.laws.the_heap_has_a_new_array.Goals as goal

pub returns : goal.returns
returns c = array_store
