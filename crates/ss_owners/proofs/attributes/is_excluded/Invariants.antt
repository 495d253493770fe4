use Rattle.std.proofs.Common.{◌≡◌, ◌≤◌, map, take, length}
use Rattle.ss_ast.specs.Expressions.{name_tree}
use Rattle.ss_owners_rules.specs.Attributes.{is_excluded}
use Rattle.ss_owners.proofs.attributes.is_excluded.Given as goal

abbrev pub invariant-loop-left : goal.invariant-loop-left
invariant-loop-left l = record {
  within : l.left ≤ length l.before;
  same : is_excluded (map name_tree (take l.left l.before)) l.name ≡ is_excluded (map name_tree l.before) l.name;
}

abbrev pub decreases-loop-left : goal.decreases-loop-left
decreases-loop-left l = l.left
