use Rattle.ss_grammar_expressions.specs.Grammar.{TheExpression}
use Rattle.ss_grammar_expressions.proofs.Kept.{at_level}
use Rattle.ss_grammar_expressions.proofs.laws.no_expression_takes_the_end.Goals as goal

pub returns : goal.returns
returns c = λ d. at_level d TheExpression
