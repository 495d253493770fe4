use Rattle.std.proofs.Common.{true, false, refl, sym, ◌∙◌}
use Rattle.ss_terms.specs.Forms.{formula_at}
use Rattle.ss_search_models.specs.Candidates.{model_at}
use Rattle.ss_search_models.proofs.Facts.{told_so}
use Rattle.ss_search_models.proofs.sums.as_told.Goals as goal

pub returns-then-truth-clause-told : goal.returns-then-truth-clause-told
returns-then-truth-clause-told c = told_so (model_at c.args.bank.now c.args.candidate.now) (formula_at c.args.bank.now c.args.f) true _ (sym c.if-truth.true ∙ c.truth.ensures) refl

pub returns-else-truth-clause-told : goal.returns-else-truth-clause-told
returns-else-truth-clause-told c = told_so (model_at c.args.bank.now c.args.candidate.now) (formula_at c.args.bank.now c.args.f) false _ (sym c.if-truth.false ∙ c.truth.ensures) c.negation.ensures.negation
