use Rattle.ss_logic_means.proofs.Following.{valid_without}
use Rattle.ss_logic_means.proofs.laws.sentences_on_good_stores_may_be_premises.Goals as goal

pub returns : goal.returns
returns c = valid_without
