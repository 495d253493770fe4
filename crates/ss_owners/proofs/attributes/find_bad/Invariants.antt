use Rattle.std.proofs.Common.{◌≡◌, ◌++◌, [], map, take, drop}
use Rattle.ss_ast.specs.Expressions.{name_tree}
use Rattle.ss_owners_rules.specs.Attributes.{bad_after}
use Rattle.ss_owners.specs.Bearers.{names_of}
use Rattle.ss_owners.proofs.attributes.find_bad.Given as goal

abbrev pub invariant-loop-place : goal.invariant-loop-place
invariant-loop-place l = l.found.items ++ bad_after (names_of l.on) (map name_tree (take l.place l.attributes)) (map name_tree (drop l.place l.attributes)) ≡ l.initial.found.items ++ bad_after (names_of l.on) [] (map name_tree l.attributes)
