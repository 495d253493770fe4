use Rattle.ss_machine_good.proofs.Start.{start_sound}
use Rattle.ss_machine_good.proofs.laws.start_is_sound.Goals as goal

pub returns : goal.returns
returns c = start_sound
