use Rattle.std.proofs.Common.{◌≡◌, ◌++◌, map, drop}
use Rattle.ss_core.specs.View.{field_of}
use Rattle.ss_owners.specs.Marked.{marks_of}
use Rattle.ss_owners.proofs.marks.add_fields.Given as goal

abbrev pub invariant-loop-field : goal.invariant-loop-field
invariant-loop-field l = l.marks.items ++ marks_of (map field_of (drop l.field-index l.fields)) ≡ l.initial.marks.items ++ marks_of (map field_of l.fields)
