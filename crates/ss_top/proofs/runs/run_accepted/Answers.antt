use Rattle.ss_core.specs.View as core
use Rattle.ss_ast.specs.Tokens.{toks}
use Rattle.ss_typed.specs.View.{typed}
use Rattle.ss_top_sources.proofs.CoreLimits.{elaborated_limits}
use Rattle.ss_top_sources.proofs.Means.{means}
use Rattle.ss_top.proofs.runs.run_accepted.Goals as goal

pub run_whole-requires-clause-limits : goal.run_whole-requires-clause-limits
run_whole-requires-clause-limits g c =
    elaborated_limits c.args.source.now (toks c.args.accepted.now.tokens.items) (typed c.args.accepted.now.program) (core.core c.in-Ok.program) c.requires.accepted c.in-Ok.ensures

pub run_whole-requires-clause-means : goal.run_whole-requires-clause-means
run_whole-requires-clause-means g c = means c.args.source.now (toks c.args.accepted.now.tokens.items) (typed c.args.accepted.now.program) (core.core c.in-Ok.program) c.requires.accepted c.in-Ok.ensures
