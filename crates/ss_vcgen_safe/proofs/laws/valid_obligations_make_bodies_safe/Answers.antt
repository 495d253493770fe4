use Rattle.ss_vcgen_safe.proofs.Safe.{all_run}
use Rattle.ss_vcgen_safe.proofs.laws.valid_obligations_make_bodies_safe.Goals as goal

pub returns : goal.returns
returns c = all_run
