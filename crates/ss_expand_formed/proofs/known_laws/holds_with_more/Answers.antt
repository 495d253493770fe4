use Rattle.ss_expand_formed.proofs.Monotone.{holds_more as law}
use Rattle.ss_expand_formed.proofs.known_laws.holds_with_more.Goals as goal

pub returns : goal.returns
returns c = law
