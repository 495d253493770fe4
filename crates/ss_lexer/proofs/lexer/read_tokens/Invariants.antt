use Rattle.std.proofs.Common.{length}
use Rattle.ss_lexer.specs.Reading.{without_mark}
use Rattle.ss_lexer.proofs.Progress.{Stands}
use Rattle.ss_lexer.proofs.lexer.read_tokens.Given as goal

abbrev pub invariant-loop-rest : goal.invariant-loop-rest
invariant-loop-rest l = Stands (without_mark l.bytes) l.lexer l.rest

abbrev pub decreases-loop-rest : goal.decreases-loop-rest
decreases-loop-rest l = length l.rest
