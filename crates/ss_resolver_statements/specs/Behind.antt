-- Statements in order, and the class that is exposed.
use Rattle.std.specs.Prelude.{ℕ, List, [], ◌∷◌, Option, option_map}
use Rattle.ss_ast.specs.Expressions.{NameTree}
use Rattle.ss_ast.specs.Programs.{ClassTree}
use Rattle.ss_ast.specs.Statements.{StmtTree}
use Rattle.ss_typed.specs.Tree as typed
use Rattle.ss_resolver_rules.specs.Numbers.{class_id}
use Rattle.ss_resolver_rules.specs.Names.{Env}
use Rattle.ss_resolver_rules.specs.Statements.{stmt, behind}

-- the environment after them
abbrev pub behind_all : Env → List StmtTree → Env
behind_all e [] = e
behind_all e (s ∷ ss) = behind_all (behind e s) ss

-- each resolved
abbrev pub each_stmt : Env → List StmtTree → List typed.StmtTree
each_stmt e [] = []
each_stmt e (s ∷ ss) = stmt e s ∷ each_stmt (behind e s) ss

abbrev pub class_at : List ClassTree → Option NameTree → Option ℕ
class_at cs n = option_map (λ (x : NameTree). class_id cs x.text) n
