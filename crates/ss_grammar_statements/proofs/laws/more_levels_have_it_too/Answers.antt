use Rattle.ss_grammar_statements.proofs.Tied.{block_grows}
use Rattle.ss_grammar_statements.proofs.laws.more_levels_have_it_too.Goals as goal

pub returns : goal.returns
returns c = block_grows
