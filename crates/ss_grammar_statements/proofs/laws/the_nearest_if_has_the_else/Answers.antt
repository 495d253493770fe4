use Rattle.ss_grammar_statements.proofs.Elses.{nearest}
use Rattle.ss_grammar_statements.proofs.laws.the_nearest_if_has_the_else.Goals as goal

pub returns : goal.returns
returns c = nearest
