use Rattle.std.proofs.Common.{◌≡◌, drop}
use Rattle.ss_store_rules.specs.Store.{slot_value}
use Rattle.ss_store.proofs.store.slot_value.Given as goal

abbrev pub invariant-loop-slot : goal.invariant-loop-slot
invariant-loop-slot l = slot_value (drop l.slot-index l.fields) l.f.0 ≡ slot_value l.fields l.f.0
