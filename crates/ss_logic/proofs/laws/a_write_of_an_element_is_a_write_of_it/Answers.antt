use Rattle.ss_logic.proofs.Elements.{put_same}
use Rattle.ss_logic.proofs.laws.a_write_of_an_element_is_a_write_of_it.Goals as goal

pub returns : goal.returns
returns c = put_same
