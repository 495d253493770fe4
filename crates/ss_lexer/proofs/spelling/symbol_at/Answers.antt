use Rattle.ss_lexer.specs.Lexemes.{symbols}
use Rattle.ss_lexer.proofs.spelling.symbol_at.Goals as goal

pub returns : goal.returns
unfolding symbols
returns c = c.symbol_in.ensures
