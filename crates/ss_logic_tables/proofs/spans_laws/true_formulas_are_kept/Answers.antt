use Rattle.ss_logic.proofs.Kept.{kept_from}
use Rattle.ss_logic_tables.specs.Spans.{terms_of}
use Rattle.ss_logic_tables.proofs.Sorting.{terms_sorted}
use Rattle.ss_logic_tables.proofs.Keeping.{objects_kept}
use Rattle.ss_logic_tables.proofs.spans_laws.true_formulas_are_kept.Goals as goal

pub returns : goal.returns
returns c = λ cs m b t v sp true. objects_kept cs m b t v sp (kept_from cs m (terms_of cs b t) (terms_sorted cs m b t v sp) true)
