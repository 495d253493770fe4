use Rattle.std.proofs.Common.{◌++◌, ◌∷◌, [], ◌∙◌, ap}
use Rattle.ss_deriv.specs.declared.line.Line.TheVariants.{Split}
use Rattle.ss_search_reaching.proofs.closing.split.Goals as goal

pub returns : goal.returns
returns c = c.in_ok-append.ensures.items ∙ ap (λ ls. ls ++ c.args.closed.items) (c.in_ok-push.ensures.items ∙ ap (λ ls. ls ++ Split c.args.of c.args.cases ∷ []) c.new-lines.ensures.items)
