use Rattle.ss_vcgen_safe.proofs.Read.{read_values}
use Rattle.ss_vcgen_safe.proofs.parts_laws.true_parts_are_enough_for_all.Goals as goal

pub returns : goal.returns
returns c = read_values
