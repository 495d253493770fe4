use Rattle.std.proofs.Common.{◌≡◌, ◌++◌, map, drop}
use Rattle.ss_core.specs.View as class_view
use Rattle.ss_resolver_tables.specs.Slots.{slots_of}
use Rattle.ss_resolver_programs.proofs.classes.entries.Given as goal

abbrev pub invariant-loop-slot : goal.invariant-loop-slot
invariant-loop-slot l = map class_view.entry_of l.list.items ++ slots_of (drop l.slot-index l.slots) ≡ slots_of l.slots
