use Rattle.ss_vcgen_safe.proofs.Read.{read_value}
use Rattle.ss_vcgen_safe.proofs.parts_laws.true_parts_are_enough.Goals as goal

pub returns : goal.returns
returns c = read_value
