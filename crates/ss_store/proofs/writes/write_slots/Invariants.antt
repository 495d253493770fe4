use Rattle.std.proofs.Common.{◌≡◌, ◌++◌, map, take, drop}
use Rattle.ss_store_rules.specs.Changes.{with_content}
use Rattle.ss_store.proofs.writes.write_slots.Given as goal

abbrev pub invariant-loop-slot : goal.invariant-loop-slot
invariant-loop-slot l = l.fields ≡ map (with_content l.f.0 l.v) (take l.slot-index l.initial.fields) ++ drop l.slot-index l.initial.fields
