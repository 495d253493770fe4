use Rattle.std.proofs.Common.{◌≡◌, ◌+◌, length, false}
use Rattle.ss_lexer.specs.Lexemes.{string_end}
use Rattle.ss_lexer.proofs.Ends.{shifted}
use Rattle.ss_lexer.proofs.scans.string_end.Given as goal

abbrev pub invariant-loop-rest : goal.invariant-loop-rest
invariant-loop-rest l = record { lengths : l.n + length l.rest ≡ length l.fn.bytes; ends : shifted l.n (string_end l.hidden l.rest) ≡ string_end false l.fn.bytes }

abbrev pub decreases-loop-rest : goal.decreases-loop-rest
decreases-loop-rest l = length l.rest
