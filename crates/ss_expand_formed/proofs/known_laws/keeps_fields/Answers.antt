use Rattle.ss_expand_formed.proofs.Kept.{fields_kept as law}
use Rattle.ss_expand_formed.proofs.known_laws.keeps_fields.Goals as goal

pub returns : goal.returns
returns c = law
