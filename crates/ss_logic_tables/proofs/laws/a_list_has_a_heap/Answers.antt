use Rattle.ss_logic_tables.proofs.Tabling.{list_has_a_heap}
use Rattle.ss_logic_tables.proofs.laws.a_list_has_a_heap.Goals as goal

pub returns : goal.returns
returns c = list_has_a_heap
