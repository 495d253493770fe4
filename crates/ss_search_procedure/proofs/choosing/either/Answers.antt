use Rattle.std.proofs.Common.{[], ◌∷◌, ◌++◌, ◌∙◌, ap}
use Rattle.ss_terms.specs.Forms.{formula_at}
use Rattle.ss_terms_puts.proofs.Putting.{formula_equal}
use Rattle.ss_search_procedure.proofs.Saying.{either_is, has_both}
use Rattle.ss_search_procedure.proofs.choosing.either.Goals as goal

pub formula-requires : goal.formula-requires
formula-requires c =
    has_both _ _ c.negation-none.result c.args.body
    (c.in_ok-push-2.ensures.items ∙ ap (λ fs. fs ++ c.args.body ∷ []) (c.in_ok-push.ensures.items ∙ ap (λ fs. fs ++ c.negation-none.result ∷ []) c.new-parts.ensures.items)) c.negation-none.ensures.in_bank c.requires.body

pub returns-clause-at : goal.returns-clause-at
returns-clause-at c =
    formula_equal c.formula.result c.formula.new.self _ _
    (either_is c.args.bank.now _ c.negation-none.result c.args.body (formula_at c.args.bank.now c.args.whole)
    (c.in_ok-push-2.ensures.items ∙ ap (λ fs. fs ++ c.args.body ∷ []) (c.in_ok-push.ensures.items ∙ ap (λ fs. fs ++ c.negation-none.result ∷ []) c.new-parts.ensures.items)) c.negation-none.ensures.negation)
    c.formula.ensures.at
