use Rattle.ss_lexer.proofs.Unique.{only_answer}
use Rattle.ss_lexer.proofs.lexer.tokens.Goals as goal

pub returns-clause-only : goal.returns-clause-only
returns-clause-only c = only_answer c.args.bytes.now _ c.read_tokens.ensures
