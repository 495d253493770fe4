use Rattle.ss_logic_tables.proofs.Writing.{packed_store}
use Rattle.ss_logic_tables.proofs.laws.the_heap_is_packed.Goals as goal

pub returns : goal.returns
returns c = packed_store
