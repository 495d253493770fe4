use Rattle.ss_logic.proofs.Truth.{not_both}
use Rattle.ss_logic.proofs.laws.not_both_are_true.Goals as goal

pub returns : goal.returns
returns c = not_both
