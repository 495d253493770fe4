use Rattle.std.proofs.Common.{◌∷◌, ◌++◌, [], ◌∙◌, ap, append_assoc}
use Rattle.ss_search_path.proofs.path.push_two.Goals as goal

pub returns : goal.returns
returns c = c.in_ok-push-2.ensures.items ∙ ap (λ ls. ls ++ c.args.two ∷ []) c.in_ok-push.ensures.items ∙ append_assoc c.args.lines.now.items (c.args.one ∷ []) (c.args.two ∷ [])
