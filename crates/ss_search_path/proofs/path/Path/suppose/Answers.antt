use Rattle.std.proofs.Common.{◌++◌, ◌∷◌, [], ◌∙◌, ap}
use Rattle.ss_search_path.proofs.path.Path.suppose.Goals as goal

pub returns-clause-supposed : goal.returns-clause-supposed
returns-clause-supposed c = record {
  before = c.in_ok-begin.ensures.before;
  behind = c.in_ok-begin.ensures.behind;
  known = c.in_ok-push.ensures.items ∙ ap (λ fs. fs ++ c.args.f ∷ []) c.in_ok-begin.ensures.known;
}
