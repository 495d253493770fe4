use Rattle.std.proofs.Common.{◌∷◌, ◌++◌, [], reverse, ◌∙◌, ap}
use Rattle.ss_deriv.specs.declared.line.Line.TheVariants.{Case}
use Rattle.ss_search_path.proofs.Going.{goes_by_part}
use Rattle.ss_search_path.proofs.path.Path.unit.Goals as goal

pub returns-clause-goes_on : goal.returns-clause-goes_on
returns-clause-goes_on c = λ cs premises goal fs one two is many parts in_front in_back.
    goes_by_part cs premises goal c.args.bank.now _ _ c.args.branching.place c.args.branching.count c.args.front.items c.args.back.items c.args.f
    (c.in_ok-leave.ensures.before ∙ c.in_ok-enter.ensures.before ∙ ap (λ ls. ls ++ (c.args.front.items ++ Case ∷ [])) c.in_ok-push.ensures.items)
    (c.in_ok-leave.ensures.behind ∙ ap (λ ls. ls ++ reverse c.args.back.items) c.in_ok-enter.ensures.behind)
    (c.in_ok-leave.ensures.known ∙ ap (λ gs. gs ++ c.args.f ∷ []) c.in_ok-enter.ensures.known)
    fs one two is many parts in_front in_back
