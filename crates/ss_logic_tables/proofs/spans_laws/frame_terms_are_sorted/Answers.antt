use Rattle.ss_logic_tables.proofs.Sorting.{terms_sorted}
use Rattle.ss_logic_tables.proofs.spans_laws.frame_terms_are_sorted.Goals as goal

pub returns : goal.returns
returns c = terms_sorted
