use Rattle.ss_grammar_expressions.proofs.Plain.{unary_is_plain}
use Rattle.ss_grammar_expressions.proofs.laws.a_unary_is_one_of_three.Goals as goal

pub returns : goal.returns
returns c = unary_is_plain
