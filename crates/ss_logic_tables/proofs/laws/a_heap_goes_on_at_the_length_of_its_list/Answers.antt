use Rattle.ss_logic_tables.proofs.Reading.{next_is}
use Rattle.ss_logic_tables.proofs.laws.a_heap_goes_on_at_the_length_of_its_list.Goals as goal

pub returns : goal.returns
returns c = next_is
