use Rattle.std.proofs.Common.{◌++◌, ◌∷◌, [], ◌∙◌, ap, append_assoc}
use Rattle.ss_deriv.specs.declared.line.Line.TheVariants.{Case}
use Rattle.ss_search_path.proofs.path.Path.enter.Goals as goal

pub returns-clause-before : goal.returns-clause-before
returns-clause-before c = c.in_ok-push.ensures.items ∙ ap (λ ls. ls ++ Case ∷ []) c.in_ok-append.ensures.items ∙ append_assoc c.args.self.now.before.items c.args.closed.items (Case ∷ [])
