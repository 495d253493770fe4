use Rattle.std.proofs.Common.{ap, ◌∙◌, Some}
use Rattle.ss_lexer.proofs.Forms.{text_long}
use Rattle.ss_lexer.proofs.meaning.meaning_of.Goals as goal

pub string_meaning-requires : goal.string_meaning-requires
string_meaning-requires c = text_long c.args.text.now (c.requires ∙ ap Some c.in-Text.is)
