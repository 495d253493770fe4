use Rattle.std.proofs.Common.{◌++◌, drop, ◌∙◌, ap}
use Rattle.ss_search_path.proofs.path.Path.move_out.Goals as goal

pub returns-clause-lines : goal.returns-clause-lines
returns-clause-lines c = c.in_ok-lines.ensures.lines ∙ ap (λ xs. drop c.args.mark.before c.args.self.now.before.items ++ xs) c.in_ok-pour.ensures.onto

pub returns-clause-before : goal.returns-clause-before
returns-clause-before c = c.in_ok-lines.ensures.before

pub returns-clause-behind : goal.returns-clause-behind
returns-clause-behind c = c.in_ok-lines.ensures.behind ∙ c.in_ok-pour.ensures.from

pub returns-clause-known : goal.returns-clause-known
returns-clause-known c = c.in_ok-lines.ensures.known
