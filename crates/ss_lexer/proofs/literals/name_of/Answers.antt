use Rattle.ss_lexer.proofs.Forms.{word_utf8}
use Rattle.ss_lexer.proofs.literals.name_of.Goals as goal

pub unreachable-requires : goal.unreachable-requires
unreachable-requires c = c.in-Err.ensures.cases.0 (word_utf8 c.args.text.now c.requires)
