use Rattle.std.proofs.Common.{◌≡◌, ◌+◌, length, false}
use Rattle.ss_lexer.specs.Lexemes.{escapes_len}
use Rattle.ss_lexer.proofs.literals.escapes_length.Given as goal

abbrev pub invariant-loop-rest : goal.invariant-loop-rest
invariant-loop-rest l = record { lengths : l.n + length l.rest ≡ length l.fn.bytes; so_far : l.n + escapes_len l.hidden l.rest ≡ escapes_len false l.fn.bytes }

abbrev pub decreases-loop-rest : goal.decreases-loop-rest
decreases-loop-rest l = length l.rest
