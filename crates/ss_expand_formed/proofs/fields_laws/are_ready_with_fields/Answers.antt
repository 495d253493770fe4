use Rattle.ss_expand_formed.proofs.Ready.{are_ready_with_fields as law}
use Rattle.ss_expand_formed.proofs.fields_laws.are_ready_with_fields.Goals as goal

pub returns : goal.returns
returns c = law
