use Rattle.ss_logic_tables.proofs.Tabling.{list_has_its_heap}
use Rattle.ss_logic_tables.proofs.laws.a_list_has_its_heap.Goals as goal

pub returns : goal.returns
returns c = λ cs chain table h s before older good fit. list_has_its_heap cs chain table h s good fit older before
