use Rattle.std.proofs.Common.{take}
use Rattle.std.specs.Prelude.{filter_map}
use Rattle.ss_logic.specs.Asked as spec
use Rattle.ss_terms.specs.Forms.{formulas_at}
use Rattle.ss_rules_asked.specs.Readings.{AreTerms}
use Rattle.ss_rules_asked_first.proofs.gathered.good_stores.Given as goal

abbrev pub invariant-loop-f : goal.invariant-loop-f
invariant-loop-f l = AreTerms l.bank l.stores.items (filter_map spec.good_of (formulas_at l.bank (take l.f-index l.atoms)))
