use Rattle.std.proofs.Common.{◌≡◌, length}
use Rattle.ss_lexer.specs.Lexemes.{look_up}
use Rattle.ss_lexer.specs.Steps.{rows}
use Rattle.ss_lexer.proofs.spelling.word_in.Given as goal

abbrev pub invariant-loop-rest : goal.invariant-loop-rest
invariant-loop-rest l = look_up (rows l.rest) l.text ≡ look_up (rows l.fn.table) l.text

abbrev pub decreases-loop-rest : goal.decreases-loop-rest
decreases-loop-rest l = length l.rest
