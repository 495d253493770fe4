use Rattle.std.proofs.Common.{take}
use Rattle.std.specs.Prelude.{filter_map}
use Rattle.ss_logic.specs.Asked as spec
use Rattle.ss_terms.specs.Forms.{terms_at}
use Rattle.ss_rules_asked.specs.Readings.{AreTerms}
use Rattle.ss_rules_asked_first.proofs.gathered.arrays.Given as goal

abbrev pub invariant-loop-t : goal.invariant-loop-t
invariant-loop-t l = AreTerms l.bank l.arrays.items (filter_map spec.length_of (terms_at l.bank (take l.t-index l.terms)))
