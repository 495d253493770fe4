use Rattle.ss_expand_formed.proofs.Returns.{return_with_fields as law}
use Rattle.ss_expand_formed.proofs.fields_laws.return_with_fields.Goals as goal

pub returns : goal.returns
returns c = law
