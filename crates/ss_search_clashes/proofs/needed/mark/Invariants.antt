use Rattle.std.proofs.Common.{take}
use Rattle.ss_search_clashes.specs.Needed.{Marks}
use Rattle.ss_search_clashes.proofs.needed.mark.Given as goal

abbrev pub invariant-loop-number : goal.invariant-loop-number
invariant-loop-number l = Marks (take l.number-index l.numbers) l.initial.marks l.marks
