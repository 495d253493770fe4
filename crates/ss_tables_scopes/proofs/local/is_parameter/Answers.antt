use Rattle.std.proofs.Common.{ap}
use Rattle.ss_tables.specs.Scopes.{Local}
use Rattle.ss_tables_scopes.proofs.local.is_parameter.Goals as goal

pub returns : goal.returns
returns c = ap (λ (l : Local). l.is_param) c.local.view_is
