use Rattle.std.proofs.Common.{take}
use Rattle.std.specs.Prelude.{filter_map}
use Rattle.ss_logic.specs.Asked as spec
use Rattle.ss_terms.specs.Forms.{formulas_at}
use Rattle.ss_rules_asked.specs.Readings.{AreCounts}
use Rattle.ss_rules_asked.proofs.gathered.all_counts.Given as goal

abbrev pub invariant-loop-f : goal.invariant-loop-f
invariant-loop-f l = AreCounts l.bank l.counts.items (filter_map spec.counts (formulas_at l.bank (take l.f-index l.atoms)))
