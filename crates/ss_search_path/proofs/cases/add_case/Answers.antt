use Rattle.std.proofs.Common.{◌∷◌, ◌++◌, [], sym, ◌∙◌, ap, subst}
use Rattle.ss_deriv.specs.Lines.{lines_of}
use Rattle.ss_search_path.specs.Paths.{AreCases}
use Rattle.ss_search_path.proofs.Going.{case_more}
use Rattle.ss_search_path.proofs.cases.add_case.Goals as goal

pub returns : goal.returns
returns c = λ cs premises goal b known fs f are closes.
    subst (λ ls. AreCases cs premises goal known (fs ++ f ∷ []) (lines_of b ls)) (sym (c.in_ok-append.ensures.items ∙ ap (λ ls. ls ++ c.args.closing.items) c.in_ok-push.ensures.items))
    (case_more cs premises goal b known fs f c.args.cases.now.items c.args.closing.items are closes)
