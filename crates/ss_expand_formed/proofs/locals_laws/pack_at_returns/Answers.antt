use Rattle.ss_expand_formed.proofs.Packs.{pack_at_returns as law}
use Rattle.ss_expand_formed.proofs.locals_laws.pack_at_returns.Goals as goal

pub returns : goal.returns
returns c = law
