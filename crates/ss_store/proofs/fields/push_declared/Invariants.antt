use Rattle.std.proofs.Common.{◌≡◌, map, drop, vec_capacity}
use Rattle.ss_core.specs.View.{classes, class_of}
use Rattle.ss_core.specs.Chain.{all_fields}
use Rattle.ss_store_rules.specs.Changes.{slots_from}
use Rattle.ss_store.proofs.NewSlots.{IsBefore}
use Rattle.ss_store.proofs.fields.push_declared.Given as goal

abbrev pub invariant-loop-class : goal.invariant-loop-class
invariant-loop-class l = record {
  before : IsBefore l.t.0 (map class_of (drop l.class-index l.class-items)) l.class-index l.number l.first (slots_from l.t.0 0 (all_fields (classes l.k)));
  none : l.slots.items ≡ l.initial.slots.items;
  capacity : vec_capacity l.slots ≡ vec_capacity l.initial.slots;
}
