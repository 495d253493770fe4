use Rattle.ss_machine_typed.proofs.Sound.{value_sound}
use Rattle.ss_machine_typed.proofs.laws.values_have_their_types.Goals as goal

pub returns : goal.returns
returns c = value_sound
