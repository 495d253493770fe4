-- The code of a body for a method that a class inherits.
use Rattle.std.specs.Prelude.{ℕ, ◌+◌, List}
use Rattle.ss_core.specs.declared.names.Place.{Place}
use Rattle.ss_core.specs.Tree as core
use Rattle.ss_typed.specs.Tree.{BodyTree, TypedTree}
use Rattle.ss_expand_rules.specs.Program.{above_of, number_in_table}
use Rattle.ss_expand_rules.specs.Bodies.{wrapper_code, first_of_wrapper, own_params, wrapper_result}

abbrev pub inherited_code : TypedTree → Place → ℕ → ℕ → BodyTree → List core.StmtTree
inherited_code program p t m b =
    wrapper_code p t (number_in_table program (above_of program t) m) (first_of_wrapper b) (own_params p 1 b.params) (wrapper_result b.result (first_of_wrapper b + 1))
