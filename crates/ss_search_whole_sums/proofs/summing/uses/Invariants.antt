use Rattle.std.proofs.Common.{◌≡◌, ◌==◌, take, false}
use Rattle.std.specs.List.{list_any}
use Rattle.ss_search_whole_sums.proofs.summing.uses.Given as goal

abbrev pub invariant-loop-sum : goal.invariant-loop-sum
invariant-loop-sum l = list_any (λ s. list_any (λ p. p.0 == l.place) s.parts.items) (take l.sum-index l.sums) ≡ false
