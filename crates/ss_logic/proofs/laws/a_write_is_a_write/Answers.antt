use Rattle.ss_logic.proofs.Writing.{written_same}
use Rattle.ss_logic.proofs.laws.a_write_is_a_write.Goals as goal

pub returns : goal.returns
returns c = written_same
