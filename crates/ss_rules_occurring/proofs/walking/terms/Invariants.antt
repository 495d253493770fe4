use Rattle.std.proofs.Common.{[], take}
use Rattle.ss_logic.specs.Occurring.{with_terms_of_all}
use Rattle.ss_terms.specs.Forms.{formulas_at}
use Rattle.ss_rules_occurring.specs.Found.{HoldsTerms}
use Rattle.ss_rules_occurring.proofs.walking.terms.Given as goal

abbrev pub invariant-loop-f : goal.invariant-loop-f
invariant-loop-f l = HoldsTerms l.bank l.found (with_terms_of_all [] (formulas_at l.bank (take l.f-index l.atoms)))
