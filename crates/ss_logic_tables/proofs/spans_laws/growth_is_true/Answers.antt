use Rattle.ss_logic.proofs.Kept.{grown_to}
use Rattle.ss_logic_tables.proofs.Growing.{heaps_grown, heaps_of_terms, two_stores}
use Rattle.ss_logic_tables.proofs.spans_laws.growth_is_true.Goals as goal

pub returns : goal.returns
returns c = λ cs m s r h z i j good_before good_after has. grown_to cs m s r (two_stores cs m s r h z i j) (heaps_of_terms cs m s r h z i j (heaps_grown cs m.table h z good_before good_after has))
