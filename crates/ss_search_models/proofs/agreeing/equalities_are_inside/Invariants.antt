use Rattle.std.proofs.Common.{◌≡◌, take, true}
use Rattle.std.specs.List.{list_all}
use Rattle.ss_logic_countermodels.specs.Refuting.{is_equal_inside}
use Rattle.ss_terms.specs.Forms.{formulas_at}
use Rattle.ss_search_models.specs.Candidates.{model_at}
use Rattle.ss_search_models.proofs.agreeing.equalities_are_inside.Given as goal

abbrev pub invariant-loop-f : goal.invariant-loop-f
invariant-loop-f l = list_all (is_equal_inside (model_at l.bank l.candidate)) (formulas_at l.bank (take l.f-index l.candidate.told.now.list.items)) ≡ true
