use Rattle.std.proofs.Common.{◌++◌, take}
use Rattle.std.specs.Prelude.{filter_map}
use Rattle.ss_logic.specs.Asked as spec
use Rattle.ss_terms.specs.Forms.{terms_at}
use Rattle.ss_rules_asked.specs.Readings.{readings_at, AreReadings}
use Rattle.ss_rules_asked.proofs.gathered.add_readings_of_terms.Given as goal

abbrev pub invariant-loop-t : goal.invariant-loop-t
invariant-loop-t l = AreReadings l.bank l.readings.items (readings_at l.bank l.initial.readings.items ++ filter_map spec.reading_of_term (terms_at l.bank (take l.t-index l.terms)))
