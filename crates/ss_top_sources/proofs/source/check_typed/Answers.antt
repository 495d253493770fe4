use Rattle.ss_ast.specs.Programs.{program_tree}
use Rattle.ss_typed.specs.View.{typed}
use Rattle.ss_top_sources.proofs.Readings.{after_resolve, phases_give}
use Rattle.ss_top_sources.proofs.source.check_typed.Goals as goal

pub returns-in-Ok : goal.returns-in-Ok
returns-in-Ok c = record {
  tree = program_tree c.args.tree.now;
  reads = c.requires.reads;
  parses = c.requires.parses;
  faultless = after_resolve (program_tree c.args.tree.now) (typed c.args.program) c.requires.resolves c.in-Ok.ensures;
  resolves = c.requires.resolves.1;
}

pub returns-in-Err : goal.returns-in-Err
returns-in-Err c =
    phases_give c.args.source.now c.args.tokens.items (program_tree c.args.tree.now) (typed c.args.program) c.in-Err.stop c.requires.reads c.requires.parses c.requires.resolves c.in-Err.ensures
