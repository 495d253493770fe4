use Rattle.ss_core.specs.View.{core}
use Rattle.ss_ast.specs.Tokens.{toks}
use Rattle.ss_typed.specs.View.{typed}
use Rattle.ss_top_sources.proofs.CoreLimits.{elaborated_limits}
use Rattle.ss_top_sources.proofs.Means.{means}
use Rattle.ss_top_sources.proofs.programs.read_accepted.Goals as goal

pub returns-clause-gives : goal.returns-clause-gives
returns-clause-gives c = means c.args.source.now (toks c.args.accepted.now.tokens.items) (typed c.args.accepted.now.program) (core c.in_ok-program.program) c.requires.accepted c.in_ok-program.ensures

pub returns-clause-limits : goal.returns-clause-limits
returns-clause-limits c = elaborated_limits c.args.source.now (toks c.args.accepted.now.tokens.items) (typed c.args.accepted.now.program) (core c.in_ok-program.program) c.requires.accepted c.in_ok-program.ensures
