use Rattle.ss_logic.proofs.Kept.{grown_from}
use Rattle.ss_logic_tables.proofs.Growing.{objects_grown, grown_heaps, two_stores}
use Rattle.ss_logic_tables.proofs.spans_laws.true_growth_is_growth.Goals as goal

pub returns : goal.returns
returns c = λ cs m s r h z i j good true. objects_grown cs m.table h z good (grown_heaps cs m s r h z i j (grown_from cs m s r (two_stores cs m s r h z i j) true))
