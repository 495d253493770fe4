-- Parts that may be absent, in their boxes.
use Rattle.std.specs.Global.{Box}
use Rattle.std.specs.Prelude.{Option, Some, None}
use Rattle.ss_typed.specs.declared.expr.TypedExpr.{TypedExpr}
use Rattle.ss_typed.specs.declared.stmt.TypedInit.{TypedInit}
use Rattle.ss_typed.specs.declared.stmt.TypedSimple.{TypedSimple}
use Rattle.ss_typed.specs.Tree.{ExprTree, InitTree, SimpleTree}
use Rattle.ss_typed.specs.View as view

abbrev pub value_of : Option (Box TypedExpr) → Option ExprTree
value_of None = None
value_of (Some e) = Some (view.expr e.value)

abbrev pub init_of : Option (Box TypedInit) → Option InitTree
init_of None = None
init_of (Some i) = Some (view.init_of i.value)

abbrev pub step_of : Option (Box TypedSimple) → Option SimpleTree
step_of None = None
step_of (Some s) = Some (view.simple_of s.value)
