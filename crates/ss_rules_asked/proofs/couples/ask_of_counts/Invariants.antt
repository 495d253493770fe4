use Rattle.std.proofs.Common.{◌≡◌, ◌++◌, ◌-◌, ◌≤◌, length, drop}
use Rattle.ss_logic.specs.Asked as spec
use Rattle.ss_rules_asked.specs.Numbers.{asked_in, HasAsked}
use Rattle.ss_rules_asked.specs.Readings.{all_counts_at}
use Rattle.ss_rules_asked.proofs.couples.ask_of_counts.Given as goal

abbrev pub invariant-loop-i : goal.invariant-loop-i
invariant-loop-i l = record {
  within : l.i ≤ length l.cs;
  has : HasAsked l.bank l.asked.items;
  left : asked_in l.bank l.asked.items ++ spec.asked_of_counts (all_counts_at l.bank (drop l.i l.cs)) ≡ asked_in l.bank l.initial.asked.items ++ spec.asked_of_counts (all_counts_at l.bank l.cs);
}

abbrev pub decreases-loop-i : goal.decreases-loop-i
decreases-loop-i l = length l.cs - l.i
