-- What stands after the heading of a loop, read as one part.
use Rattle.std.specs.Prelude.{ℕ, List, Ok}
use Rattle.ss_ast.specs.Expressions.{ExprTree}
use Rattle.ss_ast.specs.Statements.{StmtTree}
use Rattle.ss_grammar.specs.Reading.{◌>>=◌}
use Rattle.ss_grammar_expressions.specs.Parser.{Gets, Inner}
use Rattle.ss_grammar_statements.specs.Parser.{Nesting, invariants, governed}

-- the invariants and the body
unfoldable pub guarded : ℕ → Inner → Nesting → Gets (List ExprTree × StmtTree)
guarded d w s ts = invariants d w s ts >>= λ is. governed d w s is.1 >>= λ a. Ok ((is.0, a.0), a.1)
