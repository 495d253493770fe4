use Rattle.std.proofs.Common.{◌≡◌, ◌++◌, map, drop}
use Rattle.ss_ast.specs.Programs.{member_tree}
use Rattle.ss_tables.specs.Members.{methods_in}
use Rattle.ss_tables_lookup.specs.Views.{method_tree}
use Rattle.ss_tables_lookup.proofs.shelves.list_methods.Given as goal

abbrev pub invariant-loop-member : goal.invariant-loop-member
invariant-loop-member l = map method_tree l.methods.items ++ methods_in (map member_tree (drop l.member-index l.members)) ≡ methods_in (map member_tree l.members)
