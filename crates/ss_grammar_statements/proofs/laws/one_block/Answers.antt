use Rattle.ss_grammar_statements.proofs.Tied.{block_one}
use Rattle.ss_grammar_statements.proofs.laws.one_block.Goals as goal

pub returns : goal.returns
returns c = block_one
