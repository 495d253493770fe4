use Rattle.std.proofs.Common.{take}
use Rattle.ss_search_clashes.specs.Ways.{ways}
use Rattle.ss_search_clashes.specs.Needed.{Marks}
use Rattle.ss_search_clashes.proofs.needed.mark_ways.Given as goal

abbrev pub invariant-loop-i : goal.invariant-loop-i
invariant-loop-i l = Marks (ways l.joins (take l.i l.xs) (take l.i l.ys)) l.initial.marks l.marks
