use Rattle.std.proofs.Common.{◌≡◌, ◌+◌, ◌*◌, ◌++◌, drop, map}
use Rattle.ss_core.specs.View.{classes, class_of}
use Rattle.ss_core.specs.Chain.{fields_from}
use Rattle.ss_frames.specs.Calls.{declaring_class, declaring_classes}
use Rattle.ss_frames.proofs.fields.declaring_classes.Given as goal

abbrev pub invariant-loop-class : goal.invariant-loop-class
invariant-loop-class l = record {
  count : l.number ≡ 4 + 2 * l.class-index;
  made : l.made.items ++ map declaring_class (fields_from l.number (map class_of (drop l.class-index l.classes.list.items))) ≡ declaring_classes (classes l.classes);
}
