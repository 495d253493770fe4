use Rattle.std.proofs.Common.{◌≡◌, ℕ, ◌+◌, ◌-◌, []}
use Rattle.std.specs.Prelude.{slice_index_or}
use Rattle.ss_search_reached.specs.Groups.{lists_in}
use Rattle.ss_search_reached.proofs.equalities.make_room.Given as goal

abbrev pub invariant-loop-alloc : goal.invariant-loop-alloc
invariant-loop-alloc l = (k : ℕ) → slice_index_or (lists_in l.groups.items) k [] ≡ slice_index_or (lists_in l.initial.groups.items) k []

abbrev pub decreases-loop-alloc : goal.decreases-loop-alloc
decreases-loop-alloc l = l.number + 1 - l.groups.len
