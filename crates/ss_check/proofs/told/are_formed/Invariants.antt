use Rattle.std.proofs.Common.{◌≡◌, [], drop}
use Rattle.ss_core.specs.View as view
use Rattle.ss_logic.specs.Formulas.{formulas_from, are_well_formed}
use Rattle.ss_terms.specs.Forms.{formulas_at}
use Rattle.ss_check.proofs.told.are_formed.Given as goal

abbrev pub invariant-loop-f : goal.invariant-loop-f
invariant-loop-f l = are_well_formed (view.classes l.classes) [] (formulas_from (formulas_at l.bank (drop l.f-index l.fs))) ≡ are_well_formed (view.classes l.classes) [] (formulas_from (formulas_at l.bank l.fs))
