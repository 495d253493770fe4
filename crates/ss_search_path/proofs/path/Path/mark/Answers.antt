use Rattle.std.proofs.Common.{◌∙◌}
use Rattle.ss_search_path.proofs.path.Path.mark.Goals as goal

pub returns : goal.returns
returns c = record {
  before = c.len-before.ensures ∙ c.args.self.now.before.ok.0;
  behind = c.len-behind.ensures ∙ c.args.self.now.behind.ok.0;
  known = c.len-known.ensures ∙ c.args.self.now.known.ok.0;
}
