use Rattle.std.proofs.Common.{◌≡◌, map, take}
use Rattle.ss_core.specs.View as core
use Rattle.ss_expand_bodies.proofs.tables.copy_fields.Given as goal

abbrev pub invariant-loop-field : goal.invariant-loop-field
invariant-loop-field l = map core.field_of l.list.items ≡ map core.field_of (take l.field-index l.fields)
