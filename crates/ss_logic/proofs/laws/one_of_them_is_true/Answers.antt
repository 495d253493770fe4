use Rattle.ss_logic.proofs.Truth.{neg_true}
use Rattle.ss_logic.proofs.laws.one_of_them_is_true.Goals as goal

pub returns : goal.returns
returns c = neg_true
