use Rattle.std.proofs.Common.{◌≡◌, take}
use Rattle.ss_store.proofs.copies.copy_objects.Given as goal

abbrev pub invariant-loop-x : goal.invariant-loop-x
invariant-loop-x l = l.copies.items ≡ take l.x-index l.objects
