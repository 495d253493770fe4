use Rattle.std.proofs.Common.{length}
use Rattle.ss_search_path.proofs.Lines.{ArePoured}
use Rattle.ss_search_path.proofs.path.pour.Given as goal

abbrev pub invariant-loop-from : goal.invariant-loop-from
invariant-loop-from l = ArePoured l.initial.from.items l.initial.onto.items l.to l.from.items l.onto.items

abbrev pub decreases-loop-from : goal.decreases-loop-from
decreases-loop-from l = length l.from.items
