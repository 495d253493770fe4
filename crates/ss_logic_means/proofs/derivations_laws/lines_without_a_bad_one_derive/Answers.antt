use Rattle.ss_logic_means.proofs.Bad.{Derives-no_bad}
use Rattle.ss_logic_means.proofs.derivations_laws.lines_without_a_bad_one_derive.Goals as goal

pub returns : goal.returns
returns c = Derives-no_bad
