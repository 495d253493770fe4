use Rattle.std.proofs.Common.{◌≡◌, ◌+◌, length, map, drop}
use Rattle.ss_ast.specs.Programs.{member_tree}
use Rattle.ss_tables.specs.Members.{fields_in}
use Rattle.ss_resolver_tables.proofs.starts.count_fields.Given as goal

abbrev pub invariant-loop-member : goal.invariant-loop-member
invariant-loop-member l = l.count + length (fields_in (map member_tree (drop l.member-index l.members))) ≡ length (fields_in (map member_tree l.members))
