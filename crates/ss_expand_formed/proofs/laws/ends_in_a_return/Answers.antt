use Rattle.ss_expand_formed.proofs.WrittenEnds.{all_end_in_a_return}
use Rattle.ss_expand_formed.proofs.laws.ends_in_a_return.Goals as goal

pub returns : goal.returns
returns c = all_end_in_a_return
