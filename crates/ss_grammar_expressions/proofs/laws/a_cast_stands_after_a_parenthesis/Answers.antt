use Rattle.ss_grammar_expressions.proofs.Back.{cast_is_read}
use Rattle.ss_grammar_expressions.proofs.laws.a_cast_stands_after_a_parenthesis.Goals as goal

pub returns : goal.returns
returns c = cast_is_read
