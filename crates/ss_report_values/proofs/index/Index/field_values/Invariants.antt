use Rattle.ss_report_values.specs.Fields.{AreFieldValues}
use Rattle.ss_report_values.proofs.index.Index.field_values.Given as goal

abbrev pub invariant-loop-t : goal.invariant-loop-t
invariant-loop-t l = AreFieldValues l.bank l.reading l.class l.found.items
