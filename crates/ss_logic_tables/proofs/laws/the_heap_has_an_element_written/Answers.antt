use Rattle.ss_logic_tables.proofs.Writing.{element_store}
use Rattle.ss_logic_tables.proofs.laws.the_heap_has_an_element_written.Goals as goal

pub returns : goal.returns
returns c = element_store
