use Rattle.ss_logic.proofs.Kept.{kept_to}
use Rattle.ss_logic_tables.specs.Spans.{terms_of}
use Rattle.ss_logic_tables.proofs.Sorting.{terms_sorted}
use Rattle.ss_logic_tables.proofs.Keeping.{heaps_kept}
use Rattle.ss_logic_tables.proofs.spans_laws.kept_formulas_are_true.Goals as goal

pub returns : goal.returns
returns c = λ cs m b t v sp elsewhere is. kept_to cs m (terms_of cs b t) (terms_sorted cs m b t v sp) (heaps_kept cs m b t v sp elsewhere is)
