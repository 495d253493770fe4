use Rattle.ss_grammar_statements.proofs.Kept.{block}
use Rattle.ss_grammar_statements.proofs.laws.no_block_takes_the_end.Goals as goal

pub returns : goal.returns
returns c = block
