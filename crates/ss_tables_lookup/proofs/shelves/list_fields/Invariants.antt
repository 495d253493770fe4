use Rattle.std.proofs.Common.{◌≡◌, ◌++◌, map, drop}
use Rattle.ss_ast.specs.Programs.{member_tree}
use Rattle.ss_tables.specs.Members.{fields_in}
use Rattle.ss_tables_lookup.specs.Views.{field_tree}
use Rattle.ss_tables_lookup.proofs.shelves.list_fields.Given as goal

abbrev pub invariant-loop-member : goal.invariant-loop-member
invariant-loop-member l = map field_tree l.fields.items ++ fields_in (map member_tree (drop l.member-index l.members)) ≡ fields_in (map member_tree l.members)
