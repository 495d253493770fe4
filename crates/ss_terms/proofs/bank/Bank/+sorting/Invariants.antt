use Rattle.std.proofs.Common.{◌≡◌, ◌+◌, ◌*◌, List, drop}
use Rattle.ss_core.specs.Tree.{ClassTree}
use Rattle.ss_logic.specs.Terms.{terms_from, are_well_sorted}
use Rattle.ss_terms.specs.Forms.{terms_at, IsBankOf}
use Rattle.ss_terms.proofs.bank.Bank.+sorting.Given as goal

abbrev pub decreases-is_sorted_under : goal.decreases-is_sorted_under
decreases-is_sorted_under l = 3 * l.t.0 + 2

abbrev pub decreases-is_applied_under : goal.decreases-is_applied_under
decreases-is_applied_under l = 3 * l.below + 1

abbrev pub decreases-are_sorted_under : goal.decreases-are_sorted_under
decreases-are_sorted_under l = 3 * l.below

abbrev pub invariant-are_sorted_under-loop-t : goal.invariant-are_sorted_under-loop-t
invariant-are_sorted_under-loop-t l =
    (cs : List ClassTree) → IsBankOf cs l.self → are_well_sorted cs l.bound (terms_from (terms_at l.self (drop l.t-index l.ts))) ≡ are_well_sorted cs l.bound (terms_from (terms_at l.self l.ts))
