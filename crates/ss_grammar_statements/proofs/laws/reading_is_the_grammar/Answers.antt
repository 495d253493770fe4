use Rattle.ss_grammar_statements.proofs.Tied.{block_finds}
use Rattle.ss_grammar_statements.proofs.laws.reading_is_the_grammar.Goals as goal

pub returns : goal.returns
returns c = block_finds
