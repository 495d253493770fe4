use Rattle.std.proofs.Common.{ap, ◌∙◌}
use Rattle.ss_resolver_scoping.specs.Views.{names_of}
use Rattle.ss_resolver_scoping.proofs.Listed.{inserted}
use Rattle.ss_resolver_scoping.proofs.names.insert_name.Goals as goal

pub returns : goal.returns
returns c = ap names_of c.in_ok-insert.ensures.keys ∙ inserted c.args.names.now.keys c.args.name
