use Rattle.std.proofs.Common.{◌≡◌, ◌-◌, length, map, drop, reverse, ◌++◌}
use Rattle.ss_check_steps.proofs.cases.push_all.Given as goal

abbrev pub invariant-loop-i : goal.invariant-loop-i
invariant-loop-i l = reverse l.waiting.items ≡ map (λ f. (l.n, f)) (drop (length l.fs - l.i) l.fs) ++ reverse l.initial.waiting.items
