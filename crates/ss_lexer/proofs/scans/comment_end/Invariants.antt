use Rattle.std.proofs.Common.{◌≡◌, ◌+◌, length}
use Rattle.ss_lexer.specs.Lexemes.{comment_end}
use Rattle.ss_lexer.proofs.Ends.{shifted}
use Rattle.ss_lexer.proofs.scans.comment_end.Given as goal

abbrev pub invariant-loop-rest : goal.invariant-loop-rest
invariant-loop-rest l = record { lengths : l.n + length l.rest ≡ length l.fn.bytes; ends : shifted l.n (comment_end l.rest) ≡ comment_end l.fn.bytes }

abbrev pub decreases-loop-rest : goal.decreases-loop-rest
decreases-loop-rest l = length l.rest
