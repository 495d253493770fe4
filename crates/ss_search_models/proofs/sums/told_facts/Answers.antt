use Rattle.std.proofs.Common.{◌≡◌, List, map, sym, ◌∙◌, subst}
use Rattle.std.proofs.lemmas.List.{take_all}
use Rattle.ss_logic_countermodels.specs.Refuting.{as_told}
use Rattle.ss_terms.specs.declared.forms.FormulaId.{FormulaId}
use Rattle.ss_terms.specs.Forms.{formulas_at, HasFormulas}
use Rattle.ss_terms.proofs.Tested.{AreBelow-get}
use Rattle.ss_search_models.specs.Candidates.{model_at}
use Rattle.ss_search_models.proofs.Facts.{formulas_pushed, told_more}
use Rattle.ss_search_models.proofs.sums.told_facts.Goals as goal

pub as_told-requires-clause-formula : goal.as_told-requires-clause-formula
as_told-requires-clause-formula c =
    AreBelow-get _ c.deref-f-items.result.now c.loop-f.f-index (record { 0 = 0 }) (subst (HasFormulas c.args.bank.now) (sym c.deref-f-items.ensures.value) c.requires.told.has) c.loop-f-test.true

pub loop-f-preserved : goal.loop-f-preserved
loop-f-preserved c = record {
  in_bank = formulas_pushed c.args.bank.now c.loop-f.facts.items c.push.new.self.items c.as_told.result c.in_ok-push.ensures.items c.loop-f.invariant.in_bank c.as_told.ensures.in_bank;
  told = told_more c.args.bank.now (model_at c.args.bank.now c.args.candidate.now) c.deref-f-items.result.now c.loop-f.f-index (record { 0 = 0 }) c.loop-f.facts.items c.push.new.self.items c.as_told.result
      c.loop-f-test.true c.loop-f.invariant.told c.in_ok-push.ensures.items c.as_told.ensures.told;
}

pub returns-clause-told : goal.returns-clause-told
returns-clause-told c =
    subst (λ (fs : List FormulaId). formulas_at c.args.bank.now c.loop-f.facts.items ≡ map (as_told (model_at c.args.bank.now c.args.candidate.now)) (formulas_at c.args.bank.now fs))
    (take_all c.loop-f.f-index c.deref-f-items.result.now c.loop-f-test.false ∙ c.deref-f-items.ensures.value) c.loop-f.invariant.told
