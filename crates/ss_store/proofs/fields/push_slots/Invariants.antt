use Rattle.std.proofs.Common.{map, take, vec_capacity}
use Rattle.ss_core.specs.View.{field_of}
use Rattle.ss_store.specs.Slots.{slots_of}
use Rattle.ss_store.proofs.NewSlots.{IsPushed}
use Rattle.ss_store.proofs.fields.push_slots.Given as goal

abbrev pub invariant-loop-i : goal.invariant-loop-i
invariant-loop-i l = IsPushed l.initial.slots.items (vec_capacity l.initial.slots) l.slots.items (vec_capacity l.slots) (slots_of l.first (map field_of (take l.i l.fields)))
