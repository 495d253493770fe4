use Rattle.ss_grammar_expressions.proofs.Tied.{expression_finds}
use Rattle.ss_grammar_expressions.proofs.laws.reading_is_the_grammar.Goals as goal

pub returns : goal.returns
returns c = expression_finds
