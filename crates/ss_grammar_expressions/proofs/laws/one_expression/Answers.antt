use Rattle.ss_grammar_expressions.proofs.Tied.{expression_one}
use Rattle.ss_grammar_expressions.proofs.laws.one_expression.Goals as goal

pub returns : goal.returns
returns c = expression_one
