use Rattle.ss_logic_tables.proofs.Reading.{heap_fits}
use Rattle.ss_logic_tables.proofs.laws.a_table_fits_the_objects_of_a_heap.Goals as goal

pub returns : goal.returns
returns c = heap_fits
