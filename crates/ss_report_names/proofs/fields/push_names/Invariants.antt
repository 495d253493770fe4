use Rattle.std.proofs.Common.{◌≡◌, ◌++◌, drop, map}
use Rattle.ss_core.specs.View.{field_of}
use Rattle.ss_report_names.specs.Tables.{texts}
use Rattle.ss_report_names.proofs.fields.push_names.Given as goal

abbrev pub invariant-loop-field : goal.invariant-loop-field
invariant-loop-field l = texts l.names.items ++ map (λ f. f.name) (map field_of (drop l.field-index l.fields)) ≡ texts l.fn.names.items ++ map (λ f. f.name) (map field_of l.fields)
