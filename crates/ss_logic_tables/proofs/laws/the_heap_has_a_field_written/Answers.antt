use Rattle.ss_logic_tables.proofs.Writing.{written_store}
use Rattle.ss_logic_tables.proofs.laws.the_heap_has_a_field_written.Goals as goal

pub returns : goal.returns
returns c = written_store
