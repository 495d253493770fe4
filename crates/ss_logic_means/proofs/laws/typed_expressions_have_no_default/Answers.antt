use Rattle.ss_logic_means.proofs.Contracts.{typed_without}
use Rattle.ss_logic_means.proofs.laws.typed_expressions_have_no_default.Goals as goal

pub returns : goal.returns
returns c = typed_without
