use Rattle.ss_grammar_expressions.proofs.Written.{cast_or_parentheses}
use Rattle.ss_grammar_expressions.proofs.laws.after_a_parenthesis_are_two_productions.Goals as goal

pub returns : goal.returns
returns c = cast_or_parentheses
