use Rattle.ss_ast.specs.Programs.{program_tree}
use Rattle.ss_resolver_programs.proofs.Limited.{within_limits}
use Rattle.ss_resolver_programs.proofs.program.resolve_program.Goals as goal

pub resolve_numbered-requires : goal.resolve_numbered-requires
resolve_numbered-requires c = record { limits = within_limits (program_tree c.args.program.now) c.requires.faultless; tables = c.requires.tables }
