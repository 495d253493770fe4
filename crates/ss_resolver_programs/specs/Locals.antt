-- The declared locals of a body, within the classes of a program.
use Rattle.std.specs.Prelude.{false, List, map}
use Rattle.ss_ast.specs.Expressions.{TypeTree}
use Rattle.ss_ast.specs.Statements.{DeclaratorTree}
use Rattle.ss_ast.specs.Programs.{ClassTree}
use Rattle.ss_core.specs.Tree.{LocalTree}
use Rattle.ss_resolver_rules.specs.Numbers.{type_id}
use Rattle.ss_resolver_rules.specs.Statements.{Declared}

abbrev pub local_in : List ClassTree → Declared → LocalTree
local_in cs d = record { name = d.name.text; ty = type_id cs d.ty; captured = false }

abbrev pub locals_in : List ClassTree → List Declared → List LocalTree
locals_in cs ds = map (local_in cs) ds

-- of one declaration
abbrev pub locals_named : List ClassTree → TypeTree → List DeclaratorTree → List LocalTree
locals_named cs t ds = locals_in cs (map (λ (d : DeclaratorTree). record { name = d.name; ty = t }) ds)
