use Rattle.std.proofs.Common.{◌∙◌}
use Rattle.ss_resolver_scoping.proofs.Listed.{listed_in}
use Rattle.ss_resolver_scoping.proofs.names.is_listed.Goals as goal

pub returns : goal.returns
returns c = c.contains.ensures ∙ listed_in c.args.name.now c.args.names.now.keys
