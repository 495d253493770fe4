use Rattle.std.proofs.Common.{◌≡◌, ◌+◌, length}
use Rattle.ss_main_messages.specs.Lines.{line_length}
use Rattle.ss_main_messages.proofs.lines.line_length.Given as goal

abbrev pub invariant-loop-rest : goal.invariant-loop-rest
invariant-loop-rest l = (l.count + line_length l.rest ≡ line_length l.fn.bytes) × (l.count + length l.rest ≡ length l.fn.bytes)

abbrev pub decreases-loop-rest : goal.decreases-loop-rest
decreases-loop-rest l = length l.rest
