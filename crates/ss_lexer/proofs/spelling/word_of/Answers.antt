use Rattle.ss_lexer.specs.Lexemes.{words}
use Rattle.ss_lexer.proofs.spelling.word_of.Goals as goal

pub returns : goal.returns
unfolding words
returns c = c.word_in.ensures
