use Rattle.ss_logic_tables.proofs.Reading.{object_is_read}
use Rattle.ss_logic_tables.proofs.laws.an_object_of_the_list_is_one_of_the_heap.Goals as goal

pub returns : goal.returns
returns c = object_is_read
