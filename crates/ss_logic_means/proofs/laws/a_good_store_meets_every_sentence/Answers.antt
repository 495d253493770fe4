use Rattle.ss_logic_means.proofs.Following.{sentence_true}
use Rattle.ss_logic_means.proofs.laws.a_good_store_meets_every_sentence.Goals as goal

pub returns : goal.returns
returns c = sentence_true
