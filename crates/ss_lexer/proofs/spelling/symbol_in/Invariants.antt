use Rattle.std.proofs.Common.{◌≡◌, length}
use Rattle.ss_lexer.specs.Fronts.{first_beginning}
use Rattle.ss_lexer.specs.Steps.{rows}
use Rattle.ss_lexer.proofs.spelling.symbol_in.Given as goal

abbrev pub invariant-loop-rest : goal.invariant-loop-rest
invariant-loop-rest l = first_beginning (rows l.rest) l.source ≡ first_beginning (rows l.fn.table) l.source

abbrev pub decreases-loop-rest : goal.decreases-loop-rest
decreases-loop-rest l = length l.rest
