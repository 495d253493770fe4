use Rattle.std.proofs.Common.{subst, sym}
use Rattle.ss_terms.specs.Forms.{formulas_at, HasFormulas}
use Rattle.ss_search_models.proofs.Models.{for_formulas}
use Rattle.ss_search_models.proofs.checking.countermodel.Goals as goal

pub terms-requires : goal.terms-requires
terms-requires c = subst (HasFormulas c.args.bank.now) (sym c.deref.ensures.value) c.in_ok-told.ensures.has

pub model-requires-clause-candidate : goal.model-requires-clause-candidate
model-requires-clause-candidate c =
    for_formulas c.args.bank.now _ (formulas_at c.args.bank.now c.args.formulas.now) c.deref.result.now c.in_ok-told.ensures c.deref.ensures.value c.in_ok-terms.ensures
