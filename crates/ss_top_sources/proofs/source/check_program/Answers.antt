use Rattle.ss_ast.specs.Programs.{program_tree}
use Rattle.ss_top_sources.proofs.Readings.{resolve_gives}
use Rattle.ss_top_sources.proofs.source.check_program.Goals as goal

pub returns-in-Err : goal.returns-in-Err
returns-in-Err c = resolve_gives c.args.source.now c.args.tokens.items (program_tree c.args.tree.now) c.in-Err.stop c.requires.reads c.requires.parses c.in-Err.ensures
