use Rattle.ss_logic_tables.proofs.Owning.{owned_objects}
use Rattle.ss_logic_tables.proofs.laws.the_heap_has_the_owners_of_a_write.Goals as goal

pub returns : goal.returns
returns c = λ cs table h s is m o t w z e. owned_objects s z cs table h is.objects m o t w e
