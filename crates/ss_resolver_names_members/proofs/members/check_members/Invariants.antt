use Rattle.std.proofs.Common.{◌≡◌, ◌++◌, map, drop}
use Rattle.ss_ast.specs.Programs.{member_tree}
use Rattle.ss_tables.specs.Scopes.{class_scope}
use Rattle.ss_tables_lookup.specs.Classes.{trees}
use Rattle.ss_resolver_names_rules.specs.Members.{members_faults}
use Rattle.ss_resolver_names_members.proofs.members.check_members.Given as goal

abbrev pub invariant-loop-member : goal.invariant-loop-member
invariant-loop-member l =
    l.faults.items ++ members_faults (class_scope (trees l.tables) l.class) (map member_tree (drop l.member-index l.members)) ≡ l.fn.faults.items ++ members_faults (class_scope (trees l.tables) l.class) (map member_tree l.members)
