use Rattle.ss_logic_tables.proofs.Tabling.{heap_is_as_before}
use Rattle.ss_logic_tables.proofs.laws.a_new_heap_is_as_before.Goals as goal

pub returns : goal.returns
returns c = λ cs chain table h s older good fit. heap_is_as_before cs chain table h s good fit older
