use Rattle.std.proofs.Common.{◌++◌, reverse, ◌∙◌, ap}
use Rattle.ss_search_path.proofs.Shaping.{whole_turned}
use Rattle.ss_search_path.proofs.path.Path.closed_by.Goals as goal

pub returns : goal.returns
returns c =
    ap reverse (c.in_ok-pour-2.ensures.onto ∙ ap (λ xs. xs ++ reverse c.args.self.before.items) c.in_ok-pour.ensures.onto)
    ∙ whole_turned c.args.self.before.items c.args.closing.items c.args.self.behind.items
