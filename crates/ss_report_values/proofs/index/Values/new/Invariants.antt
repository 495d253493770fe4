use Rattle.std.proofs.Common.{◌≤◌, length}
use Rattle.ss_report_values.specs.Index.{AreValues}
use Rattle.ss_report_values.proofs.index.Values.new.Given as goal

abbrev pub invariant-loop-i : goal.invariant-loop-i
invariant-loop-i l = record {
  within : l.i ≤ length l.reading.terms.now;
  values : AreValues l.bank l.reading l.i l.values;
}

abbrev pub decreases-loop-i : goal.decreases-loop-i
decreases-loop-i l = l.i
