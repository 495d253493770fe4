use Rattle.ss_logic_means.proofs.Bad.{bad-not_derived}
use Rattle.ss_logic_means.proofs.derivations_laws.a_bad_line_derives_nothing.Goals as goal

pub returns : goal.returns
returns c = bad-not_derived
