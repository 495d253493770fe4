use Rattle.std.proofs.Common.{◌≡◌, ◌++◌, drop, map}
use Rattle.ss_core.specs.View.{field_of, class_of}
use Rattle.ss_core.specs.Chain.{fields_of_class}
use Rattle.ss_frames.specs.Calls.{declaring_class}
use Rattle.ss_frames.proofs.fields.add_class.Given as goal

abbrev pub invariant-loop-field : goal.invariant-loop-field
invariant-loop-field l =
    l.made.items ++ map declaring_class (fields_of_class l.number (map field_of (drop l._field-index l.class.fields.items))) ≡ l.initial.made.items ++ map declaring_class (fields_of_class l.number (class_of l.class).fields)
