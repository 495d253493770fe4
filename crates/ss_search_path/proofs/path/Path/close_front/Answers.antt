use Rattle.std.proofs.Common.{◌++◌, ◌∷◌, [], reverse, drop, ◌∙◌, ap}
use Rattle.ss_deriv.specs.declared.line.Line.TheVariants.{Case}
use Rattle.ss_search_path.proofs.path.Path.close_front.Goals as goal

pub returns-clause-before : goal.returns-clause-before
returns-clause-before c =
    let stretch = reverse (drop c.args.mark.behind c.args.self.now.behind.items) in
    c.in_ok-push.ensures.items ∙ ap (λ ls. ls ++ Case ∷ []) (c.in_ok-pour.ensures.onto ∙ ap (λ ls. ls ++ stretch) c.in_ok-append.ensures.items)

pub returns-clause-behind : goal.returns-clause-behind
returns-clause-behind c = c.in_ok-pour.ensures.from
