use Rattle.std.proofs.Common.{◌≡◌, drop}
use Rattle.std.specs.Prelude.{max}
use Rattle.ss_logic.specs.Terms.{terms_from}
use Rattle.ss_terms.specs.Forms.{terms_at}
use Rattle.ss_terms.specs.Highest.{highest_of_terms}
use Rattle.ss_terms.proofs.bank.Bank.highest_of_terms.Given as goal

abbrev pub invariant-loop-t : goal.invariant-loop-t
invariant-loop-t l = max l.highest (highest_of_terms (terms_from (terms_at l.self (drop l.t-index l.ts)))) ≡ highest_of_terms (terms_from (terms_at l.self l.ts))
