use Rattle.std.proofs.Common.{◌≡◌, map, drop}
use Rattle.ss_ast.specs.Expressions.{name_tree}
use Rattle.ss_tables.specs.Members.{has_attribute}
use Rattle.ss_tables_scopes.proofs.modifiers.has_attribute.Given as goal

abbrev pub invariant-loop-attribute : goal.invariant-loop-attribute
invariant-loop-attribute l =
    has_attribute l.name (map name_tree (drop l.attribute-index l.attributes)) ≡ has_attribute l.name (map name_tree l.attributes)
