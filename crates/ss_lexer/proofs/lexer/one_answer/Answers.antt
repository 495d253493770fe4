use Rattle.ss_lexer.proofs.Unique.{one_answer}
use Rattle.ss_lexer.proofs.lexer.one_answer.Goals as goal

pub returns : goal.returns
returns c = one_answer
