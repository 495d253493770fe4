use Rattle.ss_expand_formed.proofs.Kept.{facts_kept as law}
use Rattle.ss_expand_formed.proofs.known_laws.keeps_facts.Goals as goal

pub returns : goal.returns
returns c = law
