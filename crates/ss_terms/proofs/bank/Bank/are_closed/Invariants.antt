use Rattle.std.proofs.Common.{◌≡◌, List, [], drop}
use Rattle.ss_core.specs.Tree.{ClassTree}
use Rattle.ss_logic.specs.Terms.{terms_from, are_well_sorted}
use Rattle.ss_terms.specs.Forms.{terms_at, IsBankOf}
use Rattle.ss_terms.proofs.bank.Bank.are_closed.Given as goal

abbrev pub invariant-loop-t : goal.invariant-loop-t
invariant-loop-t l = (cs : List ClassTree) → IsBankOf cs l.self → are_well_sorted cs [] (terms_from (terms_at l.self (drop l.t-index l.ts))) ≡ are_well_sorted cs [] (terms_from (terms_at l.self l.ts))
