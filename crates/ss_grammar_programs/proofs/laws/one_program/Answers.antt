use Rattle.ss_grammar_programs.proofs.Programs.{program_one}
use Rattle.ss_grammar_programs.proofs.laws.one_program.Goals as goal

pub returns : goal.returns
returns c = program_one
