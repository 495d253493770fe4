use Rattle.std.proofs.Common.{◌++◌, reverse, drop, ◌∙◌, ap}
use Rattle.ss_search_path.proofs.Lines.{front_first}
use Rattle.ss_search_path.proofs.path.Path.with_front.Goals as goal

pub returns-clause-lines : goal.returns-clause-lines
returns-clause-lines c =
    let front = drop c.args.mark.before c.args.self.now.before.items in
    c.in_ok-pour-3.ensures.onto
    ∙ ap (λ xs. xs ++ reverse c.pour-2.new.onto.items) c.in_ok-pour.ensures.from
    ∙ ap reverse (c.in_ok-pour-2.ensures.onto ∙ ap (λ xs. xs ++ reverse front) (c.in_ok-pour.ensures.onto ∙ ap (λ xs. xs ++ reverse c.args.lines.items) c.new-turned.ensures.items))
    ∙ front_first front c.args.lines.items
