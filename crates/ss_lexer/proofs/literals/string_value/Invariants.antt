use Rattle.std.proofs.Common.{◌≡◌, ◌++◌, length, false}
use Rattle.ss_lexer.specs.Lexemes.{value_from}
use Rattle.ss_lexer.proofs.literals.string_value.Given as goal

abbrev pub invariant-loop-rest : goal.invariant-loop-rest
invariant-loop-rest l = l.value.items ++ value_from l.hidden l.rest ≡ value_from false l.fn.inside

abbrev pub decreases-loop-rest : goal.decreases-loop-rest
decreases-loop-rest l = length l.rest
