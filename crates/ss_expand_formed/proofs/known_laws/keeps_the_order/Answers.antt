use Rattle.ss_expand_formed.proofs.Monotone.{at_end_more as law}
use Rattle.ss_expand_formed.proofs.known_laws.keeps_the_order.Goals as goal

pub returns : goal.returns
returns c = law
