-- The statements with which a constructor's block begins, and after which a `base(..)` that isn't written is implied.
use Rattle.std.specs.Prelude.{ℕ, Bool, true, false, not, ◌&&◌, if◌then◌else◌}
use Rattle.ss_ast.specs.declared.stmt.AssignOperator.TheVariants as assign
use Rattle.ss_typed.specs.Tree.{ExprTree, FieldOf, SimpleTree, AssignOf, StmtTree, SimpleOf, StmtTrees, NoMore, Before, TypedTree}
use Rattle.ss_typed.specs.Shapes.{is_this, mentions_this}
use Rattle.ss_paths.specs.Fields.{is_among, field_numbers}

abbrev pub is_field_of_class : TypedTree → ℕ → ExprTree → Bool
is_field_of_class p t (FieldOf q e f ty) = is_this e && is_among (field_numbers p t) f
is_field_of_class p t e = false

abbrev pub is_first_simple : TypedTree → ℕ → SimpleTree → Bool
is_first_simple p t (AssignOf l assign.Set e) = is_field_of_class p t l && not (mentions_this e)
is_first_simple p t s = false

-- an assignment to a field of the class whose right side is without `this`
abbrev pub is_first : TypedTree → ℕ → StmtTree → Bool
is_first p t (SimpleOf s) = is_first_simple p t s
is_first p t s = false

-- the longest run of these
abbrev pub first_run : TypedTree → ℕ → StmtTrees → StmtTrees
first_run p t NoMore = NoMore
first_run p t (Before s ss) = if is_first p t s then Before s (first_run p t ss) else NoMore
