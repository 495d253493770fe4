use Rattle.std.proofs.Common.{◌≡◌, ◌++◌, [], map, drop}
use Rattle.ss_ast.specs.Programs.{member_tree}
use Rattle.ss_resolver_names_rules.specs.Faults.{twice_among}
use Rattle.ss_resolver_names_rules.specs.Members.{member_names}
use Rattle.ss_resolver_scoping.specs.Views.{names_of}
use Rattle.ss_resolver_names.proofs.classes.check_member_names.Given as goal

abbrev pub invariant-loop-member : goal.invariant-loop-member
invariant-loop-member l =
    l.faults.items ++ twice_among (names_of l.names.keys) (member_names (map member_tree (drop l.member-index l.members))) ≡ l.fn.faults.items ++ twice_among [] (member_names (map member_tree l.members))
