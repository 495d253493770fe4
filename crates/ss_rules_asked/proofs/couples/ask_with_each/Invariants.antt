use Rattle.std.proofs.Common.{◌++◌, take}
use Rattle.std.specs.Prelude.{flat_map}
use Rattle.ss_logic.specs.Asked as spec
use Rattle.ss_rules_asked.specs.Numbers.{asked_in, Asks}
use Rattle.ss_rules_asked.specs.Readings.{counts_at, all_counts_at}
use Rattle.ss_rules_asked.proofs.couples.ask_with_each.Given as goal

abbrev pub invariant-loop-b : goal.invariant-loop-b
invariant-loop-b l = Asks l.bank l.asked.items (asked_in l.bank l.initial.asked.items ++ flat_map (spec.asked_of_both (counts_at l.bank l.a)) (all_counts_at l.bank (take l.b-index l.cs)))
