use Rattle.std.proofs.Common.{◌≤◌, vec_len}
use Rattle.ss_report_values.proofs.fields.Fields.new.Given as goal

abbrev pub invariant-loop-i : goal.invariant-loop-i
invariant-loop-i l = l.i ≤ vec_len l.list

abbrev pub decreases-loop-i : goal.decreases-loop-i
decreases-loop-i l = l.i
