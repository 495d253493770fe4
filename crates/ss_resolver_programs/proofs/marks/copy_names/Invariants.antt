use Rattle.std.proofs.Common.{◌≡◌, ◌++◌, map, drop}
use Rattle.ss_ast.specs.Expressions.{name_tree}
use Rattle.ss_resolver_programs.proofs.marks.copy_names.Given as goal

abbrev pub invariant-loop-name : goal.invariant-loop-name
invariant-loop-name l = map name_tree l.list.items ++ map name_tree (drop l.name-index l.names) ≡ map name_tree l.names
