use Rattle.std.proofs.Common.{ap}
use Rattle.ss_tables.specs.Scopes.{Local}
use Rattle.ss_tables_scopes.proofs.local.local_type.Goals as goal

pub returns : goal.returns
returns c = ap (λ (l : Local). l.ty) c.local.view_is
