use Rattle.std.proofs.Common.{◌≡◌, ◌++◌, map, drop}
use Rattle.ss_ast.specs.Expressions.{name_tree, type_tree}
use Rattle.ss_ast.specs.Statements.{declarator_tree}
use Rattle.ss_tables.specs.Members.{declared_field}
use Rattle.ss_tables_lookup.specs.Views.{field_tree}
use Rattle.ss_tables_lookup.proofs.shelves.add_declared.Given as goal

abbrev pub invariant-loop-declarator : goal.invariant-loop-declarator
invariant-loop-declarator l =
    map field_tree l.fields.items ++ map (declared_field (map name_tree l.attributes) (type_tree l.declaration.ty)) (map declarator_tree (drop l.declarator-index l.declarator-items))
    ≡ map field_tree l.initial.fields.items ++ map (declared_field (map name_tree l.attributes) (type_tree l.declaration.ty)) (map declarator_tree l.declarator-items)
