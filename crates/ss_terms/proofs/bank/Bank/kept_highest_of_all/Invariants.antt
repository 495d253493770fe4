use Rattle.std.proofs.Common.{◌≡◌, drop}
use Rattle.std.specs.Prelude.{max}
use Rattle.ss_logic.specs.Formulas.{formulas_from}
use Rattle.ss_terms.specs.Forms.{formulas_at}
use Rattle.ss_terms.specs.Highest.{highest_of_all}
use Rattle.ss_terms.proofs.bank.Bank.kept_highest_of_all.Given as goal

abbrev pub invariant-loop-f : goal.invariant-loop-f
invariant-loop-f l = max l.highest (highest_of_all (formulas_from (formulas_at l.self (drop l.f-index l.fs)))) ≡ highest_of_all (formulas_from (formulas_at l.self l.fs))
