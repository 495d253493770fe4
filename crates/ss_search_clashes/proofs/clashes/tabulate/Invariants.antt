use Rattle.ss_search_clashes.specs.Numbered.{IsClassing}
use Rattle.ss_search_procedure_rules.specs.Clashes.{Classing}
use Rattle.ss_search_clashes.specs.Tables.{Tabulates}
use Rattle.ss_search_clashes.proofs.clashes.tabulate.Given as goal

abbrev pub invariant-loop-place : goal.invariant-loop-place
invariant-loop-place l = (class : Classing) → IsClassing l.bank l.classes class → Tabulates l.bank class l.known l.place l.said
