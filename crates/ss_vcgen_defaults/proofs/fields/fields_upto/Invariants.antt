use Rattle.std.proofs.Common.{◌≡◌, ◌+◌, ◌*◌, ◌++◌, drop, map}
use Rattle.ss_core.specs.View.{classes, class_of}
use Rattle.ss_core.specs.Chain.{all_fields, fields_from}
use Rattle.ss_vcgen_defaults.specs.Defaults.{slot_of, slots_upto}
use Rattle.ss_vcgen_defaults.proofs.fields.fields_upto.Given as goal

abbrev pub invariant-loop-class : goal.invariant-loop-class
invariant-loop-class l = record {
  class_number : l.class_number ≡ 4 + 2 * l.class-index;
  done : map slot_of l.list.items ++ slots_upto (classes l.classes) l.t.0 l.number (fields_from l.class_number (map class_of (drop l.class-index l.classes.list.items))) ≡ slots_upto (classes l.classes) l.t.0 0 (all_fields (classes l.classes));
}
