use Rattle.std.proofs.Common.{◌≡◌, ◌+◌, ◌<◌, ◌^◌, length}
use Rattle.ss_lexer.specs.Reading.{place_after}
use Rattle.ss_lexer.proofs.lexer.place_after.Given as goal

abbrev pub invariant-loop-rest : goal.invariant-loop-rest
invariant-loop-rest l = record { lines : l.at.line + length l.rest < 2 ^ 32; columns : l.at.column + length l.rest < 2 ^ 32; so_far : place_after l.at l.rest ≡ place_after l.fn.place l.fn.bytes }

abbrev pub decreases-loop-rest : goal.decreases-loop-rest
decreases-loop-rest l = length l.rest
