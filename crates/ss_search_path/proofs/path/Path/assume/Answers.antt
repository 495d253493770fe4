use Rattle.std.proofs.Common.{refl, sym}
use Rattle.std.proofs.lemmas.List.{append-nil}
use Rattle.ss_search_path.proofs.path.Path.assume.Goals as goal

pub returns-clause-begun : goal.returns-clause-begun
returns-clause-begun c = record {
  before = sym (append-nil c.args.self.now.before.items);
  behind = refl;
  known = c.in_ok-push.ensures.items;
}
