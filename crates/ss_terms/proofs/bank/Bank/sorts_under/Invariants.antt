use Rattle.std.proofs.Common.{◌≡◌, List, map, take}
use Rattle.ss_core.specs.Tree.{ClassTree}
use Rattle.ss_logic.specs.Terms.{sort_of}
use Rattle.ss_terms.specs.Forms.{terms_at, IsBankOf}
use Rattle.ss_terms.proofs.bank.Bank.sorts_under.Given as goal

abbrev pub invariant-loop-t : goal.invariant-loop-t
invariant-loop-t l = (cs : List ClassTree) → IsBankOf cs l.self → l.sorts.items ≡ map (sort_of cs l.bound) (terms_at l.self (take l.t-index l.ts))
