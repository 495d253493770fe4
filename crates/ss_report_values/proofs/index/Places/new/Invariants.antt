use Rattle.std.proofs.Common.{◌≤◌, length}
use Rattle.ss_report_values.specs.Index.{ArePlaces}
use Rattle.ss_report_values.proofs.index.Places.new.Given as goal

abbrev pub invariant-loop-i : goal.invariant-loop-i
invariant-loop-i l = record {
  within : l.i ≤ length l.terms;
  places : ArePlaces l.bank l.terms l.i l.places;
}

abbrev pub decreases-loop-i : goal.decreases-loop-i
decreases-loop-i l = l.i
