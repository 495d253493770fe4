-- Statements that have been made, and left sides that have been settled.
use Rattle.std.specs.Prelude.{List, ◌++◌, Option, Some, None}
use Rattle.std.specs.Global.{Vec, Box}
use Rattle.ss_core.specs.declared.names.Ty.{Ty}
use Rattle.ss_core.specs.Tree as core
use Rattle.ss_typed.specs.declared.expr.TypedExpr.{TypedExpr}
use Rattle.ss_typed.specs.Tree.{ExprTree, DeclaratorTree}
use Rattle.ss_typed.specs.View.{expr}
use Rattle.ss_expand_rules.specs.Code.{Coded}
use Rattle.ss_expand_rules.specs.Lifting.{ElaborationContext, Lifted, unlifted, right_side}
use Rattle.ss_expand_rules.specs.Simple.{Settled, default_of}
use Rattle.ss_expand_expressions.specs.Sources.{stmts_of}
use Rattle.ss_expand_lifting.specs.declared.code.Code.{Code}

-- the statements, and the types of the temporaries made so far
abbrev pub coded_by : Code → Vec Ty → Coded
coded_by code made = record { code = stmts_of code.statements; made = made.items }

-- a left side that has been settled, and the same after this code
abbrev pub settled_by : Code → Vec Ty → ExprTree → Settled
settled_by code made target = record { code = stmts_of code.statements; target = target; made = made.items }

abbrev pub settled_after : List core.StmtTree → Settled → Settled
settled_after code s = record s { code = code ++ s.code }

-- what stands for a left side: one that was made anew, or itself
abbrev pub settled_target : ExprTree → Option (Box TypedExpr) → ExprTree
settled_target e None = e
settled_target e (Some t) = expr t.value

-- what a declared local begins with
abbrev pub initial_of : ElaborationContext → DeclaratorTree → Option ExprTree → List Ty → Lifted
initial_of s d None made = unlifted (default_of d.place d.ty) made
initial_of s d (Some e) made = right_side s e made
