use Rattle.std.proofs.Common.{◌≡◌, map, drop}
use Rattle.ss_ast.specs.Programs.{member_tree}
use Rattle.ss_tables.specs.Members.{constructors_in}
use Rattle.ss_resolver_types_expressions.specs.Programs.{has_constructor}
use Rattle.ss_resolver_types.proofs.program.has_constructor.Given as goal

abbrev pub invariant-loop-member : goal.invariant-loop-member
invariant-loop-member l = has_constructor (constructors_in (map member_tree (drop l.member-index l.members))) ≡ has_constructor (constructors_in (map member_tree l.members))
