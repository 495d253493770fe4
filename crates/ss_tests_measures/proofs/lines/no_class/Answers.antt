use Rattle.ss_tests_measures.proofs.Limits.{none_within}
use Rattle.ss_tests_measures.proofs.lines.no_class.Goals as goal

pub returns : goal.returns
returns c = none_within _ c.new.ensures.items
