use Rattle.std.proofs.Common.{◌≡◌, drop}
use Rattle.ss_core.specs.View.{classes}
use Rattle.ss_store_rules.specs.Reads.{are_default_upto}
use Rattle.ss_store.proofs.defaults.are_default_upto.Given as goal

abbrev pub invariant-loop-slot : goal.invariant-loop-slot
invariant-loop-slot l = are_default_upto (classes l.table) l.t.0 (drop l.slot-index l.slots) ≡ are_default_upto (classes l.table) l.t.0 l.slots
