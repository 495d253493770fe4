use Rattle.std.proofs.Common.{◌≡◌, map, length}
use Rattle.ss_ast.specs.Programs.{param_tree}
use Rattle.ss_resolver_names_rules.specs.Members.{same_params}
use Rattle.ss_resolver_names.proofs.overrides.same_params.Given as goal

abbrev pub invariant-loop-left : goal.invariant-loop-left
invariant-loop-left l =
    same_params (map param_tree l.left) (map param_tree l.right) ≡ same_params (map param_tree l.fn.left) (map param_tree l.fn.right)

abbrev pub decreases-loop-left : goal.decreases-loop-left
decreases-loop-left l = length l.left
