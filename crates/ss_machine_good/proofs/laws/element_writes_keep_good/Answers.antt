use Rattle.ss_machine_good.proofs.Steps.{write_element_good}
use Rattle.ss_machine_good.proofs.laws.element_writes_keep_good.Goals as goal

pub returns : goal.returns
returns c = write_element_good
