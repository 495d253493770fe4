use Rattle.std.proofs.Common.{◌≡◌, length}
use Rattle.std.specs.List.{All}
use Rattle.ss_store.specs.Room.{IsRoomy}
use Rattle.ss_store.proofs.making.new_spare.Given as goal

abbrev pub invariant-loop-i : goal.invariant-loop-i
invariant-loop-i l = record {
  count : length l.spare.items ≡ l._i;
  roomy : All IsRoomy l.spare.items;
}
