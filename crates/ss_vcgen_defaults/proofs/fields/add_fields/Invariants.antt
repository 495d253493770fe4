use Rattle.std.proofs.Common.{◌≡◌, ◌+◌, ◌++◌, drop, map}
use Rattle.ss_core.specs.View.{field_of}
use Rattle.ss_vcgen_defaults.specs.Defaults.{slot_of, slots_if}
use Rattle.ss_vcgen_defaults.proofs.fields.add_fields.Given as goal

abbrev pub invariant-loop-field : goal.invariant-loop-field
invariant-loop-field l = record {
  number : l.number ≡ l.first + l.field-index;
  done : map slot_of l.list.items ++ slots_if l.wanted l.number (map field_of (drop l.field-index l.class.fields.items)) ≡ map slot_of l.initial.list.items ++ slots_if l.wanted l.first (map field_of l.class.fields.items);
}
