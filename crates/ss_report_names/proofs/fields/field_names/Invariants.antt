use Rattle.std.proofs.Common.{◌≡◌, ◌++◌, drop, map}
use Rattle.ss_core.specs.View.{classes, class_of}
use Rattle.ss_report_names.specs.Tables.{texts, field_names}
use Rattle.ss_report_names.proofs.fields.field_names.Given as goal

abbrev pub invariant-loop-class : goal.invariant-loop-class
invariant-loop-class l = texts l.names.items ++ field_names (map class_of (drop l.class-index l.class-items)) ≡ field_names (classes l.classes)
