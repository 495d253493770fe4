use Rattle.ss_grammar_programs.proofs.Programs.{program_finds}
use Rattle.ss_grammar_programs.proofs.laws.reading_is_the_grammar.Goals as goal

pub returns : goal.returns
returns c = program_finds
