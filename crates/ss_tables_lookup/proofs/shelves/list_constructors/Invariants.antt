use Rattle.std.proofs.Common.{◌≡◌, ◌++◌, map, drop}
use Rattle.ss_ast.specs.Programs.{member_tree}
use Rattle.ss_tables.specs.Members.{constructors_in}
use Rattle.ss_tables_lookup.specs.Views.{constructor_tree}
use Rattle.ss_tables_lookup.proofs.shelves.list_constructors.Given as goal

abbrev pub invariant-loop-member : goal.invariant-loop-member
invariant-loop-member l = map constructor_tree l.constructors.items ++ constructors_in (map member_tree (drop l.member-index l.members)) ≡ constructors_in (map member_tree l.members)
