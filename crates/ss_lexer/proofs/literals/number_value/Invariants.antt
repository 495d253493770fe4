use Rattle.std.proofs.Common.{◌≡◌, ◌≤◌, length}
use Rattle.ss_lexer.specs.Lexemes.{decimal, decimal_from}
use Rattle.ss_lexer.proofs.literals.number_value.Given as goal

abbrev pub invariant-loop-rest : goal.invariant-loop-rest
invariant-loop-rest l = record { bounded : l.n ≤ 2147483648; so_far : decimal_from l.n l.rest ≡ decimal l.fn.digits }

abbrev pub decreases-loop-rest : goal.decreases-loop-rest
decreases-loop-rest l = length l.rest
