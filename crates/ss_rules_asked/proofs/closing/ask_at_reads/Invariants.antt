use Rattle.std.proofs.Common.{◌++◌, take}
use Rattle.std.specs.Prelude.{flat_map}
use Rattle.ss_logic.specs.Asked as spec
use Rattle.ss_terms.specs.Forms.{formulas_at}
use Rattle.ss_rules_asked.specs.Numbers.{asked_in, Asks}
use Rattle.ss_rules_asked.specs.Readings.{readings_at}
use Rattle.ss_rules_asked.proofs.closing.ask_at_reads.Given as goal

abbrev pub invariant-loop-r : goal.invariant-loop-r
invariant-loop-r l = Asks l.bank l.asked.items (asked_in l.bank l.initial.asked.items ++ flat_map (spec.asked_at_read (formulas_at l.bank l.atoms)) (readings_at l.bank (take l.r-index l.reads)))
