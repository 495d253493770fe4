use Rattle.std.proofs.Common.{◌≡◌, Err, subst}
use Rattle.ss_ast.specs.Programs.{program_tree}
use Rattle.ss_decls.specs.Answer.{ProgramAnswer}
use Rattle.ss_top_sources.proofs.Readings.{are_program, refused_gives}
use Rattle.ss_top_sources.proofs.source.read_program.Goals as goal

pub check_program-requires-clause-parses : goal.check_program-requires-clause-parses
check_program-requires-clause-parses c = are_program c.args.tokens.items (program_tree c.in-Ok.tree) (rw c.deref.ensures.value at c.in-Ok.ensures.exact)

pub returns-in-Err : goal.returns-in-Err
returns-in-Err c = refused_gives c.args.source.now c.args.tokens.items c.in-Err.stop c.requires.reads (subst (λ ts. ProgramAnswer ts (Err c.in-Err.stop)) c.deref.ensures.value c.in-Err.ensures.exact)
