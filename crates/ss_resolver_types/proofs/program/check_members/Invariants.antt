use Rattle.std.proofs.Common.{◌≡◌, ◌++◌, map, drop}
use Rattle.ss_ast.specs.Programs.{member_tree, class_tree}
use Rattle.ss_tables_lookup.specs.Classes.{trees}
use Rattle.ss_resolver_types_expressions.specs.Programs.{members_faults}
use Rattle.ss_resolver_types.proofs.program.check_members.Given as goal

abbrev pub invariant-loop-member : goal.invariant-loop-member
invariant-loop-member l =
    l.found.items ++ members_faults (trees l.tables) l.class (class_tree l.declaration) (map member_tree (drop l.member-index l.members))
    ≡ l.fn.found.items ++ members_faults (trees l.tables) l.class (class_tree l.declaration) (map member_tree l.members)
