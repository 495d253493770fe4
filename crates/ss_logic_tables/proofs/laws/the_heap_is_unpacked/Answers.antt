use Rattle.ss_logic_tables.proofs.Writing.{unpacked_store}
use Rattle.ss_logic_tables.proofs.laws.the_heap_is_unpacked.Goals as goal

pub returns : goal.returns
returns c = unpacked_store
