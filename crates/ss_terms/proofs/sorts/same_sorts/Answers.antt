use Rattle.std.proofs.lemmas.Slice.Eq.{slice_eq-Decides}
use Rattle.ss_terms.proofs.Same.{sort_Decides}
use Rattle.ss_terms.proofs.Sorted.{sorts_tested}
use Rattle.ss_terms.proofs.sorts.same_sorts.Goals as goal

pub returns : goal.returns
returns c = sorts_tested c.eq.result c.args.sorts.now c.args.expected.now (slice_eq-Decides sort_Decides c.args.sorts.now c.args.expected.now c.eq.result c.eq.ensures)
