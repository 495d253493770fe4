use Rattle.ss_lexer.proofs.Forms.{word_bytes}
use Rattle.ss_lexer.proofs.meaning.word_meaning.Goals as goal

pub name_of-requires : goal.name_of-requires
name_of-requires c = word_bytes c.args.text.now c.requires
