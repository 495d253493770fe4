use Rattle.std.proofs.Common.{◌≡◌, ◌++◌, map, drop}
use Rattle.ss_ast.specs.Expressions.{type_tree}
use Rattle.ss_ast.specs.Statements.{declarator_tree}
use Rattle.ss_core.specs.View.{local_of}
use Rattle.ss_tables_lookup.specs.Classes.{trees}
use Rattle.ss_resolver_programs.specs.Locals.{locals_named}
use Rattle.ss_resolver_programs.proofs.locals.list_declarators.Given as goal

abbrev pub invariant-loop-declarator : goal.invariant-loop-declarator
invariant-loop-declarator l = map local_of l.locals.items ++ locals_named (trees l.tables) (type_tree l.ty) (map declarator_tree (drop l.declarator-index l.declarators))
    ≡ map local_of l.fn.locals.items ++ locals_named (trees l.tables) (type_tree l.ty) (map declarator_tree l.declarators)
