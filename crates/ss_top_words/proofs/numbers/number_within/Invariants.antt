use Rattle.std.proofs.Common.{◌≡◌, ◌≤◌, length}
use Rattle.ss_top_words.specs.Numbers.{number_after}
use Rattle.ss_top_words.proofs.numbers.number_within.Given as goal

abbrev pub invariant-loop-rest : goal.invariant-loop-rest
invariant-loop-rest l = record { bounded : l.number ≤ l.fn.limit; so_far : number_after l.number l.rest ≡ number_after 0 l.fn.digits }

abbrev pub decreases-loop-rest : goal.decreases-loop-rest
decreases-loop-rest l = length l.rest
