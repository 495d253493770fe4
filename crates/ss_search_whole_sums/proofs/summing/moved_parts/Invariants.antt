use Rattle.std.proofs.Common.{◌≡◌, map, take}
use Rattle.ss_search_whole_sums.specs.Summing.{moved_part}
use Rattle.ss_search_whole_sums.proofs.summing.moved_parts.Given as goal

abbrev pub invariant-loop-part : goal.invariant-loop-part
invariant-loop-part l = l.moved.items ≡ map (moved_part l.places l.known) (take l.part-index l.parts)
