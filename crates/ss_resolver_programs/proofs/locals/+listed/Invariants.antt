use Rattle.std.proofs.Common.{◌≡◌, ◌++◌, map, drop}
use Rattle.ss_ast.specs.Statements.{stmt_tree, stmt_trees}
use Rattle.ss_core.specs.View.{local_of}
use Rattle.ss_tables_lookup.specs.Classes.{trees}
use Rattle.ss_resolver_rules.specs.Statements.{declared_in_all}
use Rattle.ss_resolver_programs.specs.Locals.{locals_in}
use Rattle.ss_resolver_programs.proofs.locals.+listed.Given as goal

abbrev pub invariant-list_stmts-loop-stmt : goal.invariant-list_stmts-loop-stmt
invariant-list_stmts-loop-stmt l = map local_of l.locals.items ++ locals_in (trees l.tables) (declared_in_all (stmt_trees (map stmt_tree (drop l.stmt-index l.stmts))))
    ≡ map local_of l.fn.locals.items ++ locals_in (trees l.tables) (declared_in_all (stmt_trees (map stmt_tree l.stmts)))
