use Rattle.std.proofs.Common.{◌≡◌, ◌+◌, ◌*◌, List, drop}
use Rattle.ss_core.specs.Tree.{ClassTree}
use Rattle.ss_logic.specs.Formulas.{formulas_from, are_well_formed}
use Rattle.ss_terms.specs.Forms.{formulas_at, IsBankOf}
use Rattle.ss_terms.proofs.bank.Bank.+forming.Given as goal

abbrev pub decreases-is_formed_under : goal.decreases-is_formed_under
decreases-is_formed_under l = 4 * l.f.0 + 3

abbrev pub decreases-is_form_under : goal.decreases-is_form_under
decreases-is_form_under l = 4 * l.below + 2

abbrev pub decreases-are_formed_under : goal.decreases-are_formed_under
decreases-are_formed_under l = 4 * l.below + 1

abbrev pub decreases-is_body_under : goal.decreases-is_body_under
decreases-is_body_under l = 4 * l.body.0 + 4

abbrev pub invariant-are_formed_under-loop-f : goal.invariant-are_formed_under-loop-f
invariant-are_formed_under-loop-f l =
    (cs : List ClassTree) → IsBankOf cs l.self → are_well_formed cs l.bound (formulas_from (formulas_at l.self (drop l.f-index l.fs))) ≡ are_well_formed cs l.bound (formulas_from (formulas_at l.self l.fs))
