use Rattle.std.proofs.Common.{◌≡◌, ◌++◌, length, reverse}
use Rattle.ss_search_path.proofs.finishing.add_all.Given as goal

abbrev pub invariant-loop-line : goal.invariant-loop-line
invariant-loop-line l = l.draft ++ reverse l.turned.items ≡ l.initial.draft ++ reverse l.initial.turned.items

abbrev pub decreases-loop-line : goal.decreases-loop-line
decreases-loop-line l = length l.turned.items
