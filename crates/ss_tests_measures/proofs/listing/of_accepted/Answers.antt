use Rattle.ss_core.specs.View as core
use Rattle.ss_ast.specs.Tokens.{toks}
use Rattle.ss_typed.specs.View.{typed}
use Rattle.ss_top_sources.proofs.CoreLimits.{elaborated_limits}
use Rattle.ss_tests_measures.proofs.listing.of_accepted.Goals as goal

pub obligations-requires : goal.obligations-requires
obligations-requires c =
    elaborated_limits c.args.source.now (toks c.args.accepted.now.tokens.items) (typed c.args.accepted.now.program) (core.core c.in-Ok.program) c.requires.accepted c.in-Ok.ensures
