use Rattle.ss_expand_formed.proofs.Heads.{have_classes}
use Rattle.ss_expand_formed.proofs.laws.have_classes.Goals as goal

pub returns : goal.returns
returns c = have_classes
