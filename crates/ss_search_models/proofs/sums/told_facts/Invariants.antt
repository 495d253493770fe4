use Rattle.std.proofs.Common.{◌≡◌, map, take}
use Rattle.ss_logic_countermodels.specs.Refuting.{as_told}
use Rattle.ss_terms.specs.Forms.{formulas_at, HasFormulas}
use Rattle.ss_search_models.specs.Candidates.{model_at}
use Rattle.ss_search_models.proofs.sums.told_facts.Given as goal

abbrev pub invariant-loop-f : goal.invariant-loop-f
invariant-loop-f l = record {
  in_bank : HasFormulas l.bank l.facts.items;
  told : formulas_at l.bank l.facts.items ≡ map (as_told (model_at l.bank l.candidate)) (formulas_at l.bank (take l.f-index l.f-items));
}
