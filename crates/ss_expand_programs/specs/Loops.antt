-- The test of a loop.
use Rattle.std.specs.Prelude.{List, [], true, if◌then◌else◌, Option, Some, None}
use Rattle.ss_core.specs.declared.names.Place.{Place}
use Rattle.ss_core.specs.declared.names.Ty.{Ty}
use Rattle.ss_core.specs.Tree.{BoolExpr}
use Rattle.ss_typed.specs.Tree.{ExprTree, SimpleTree, StmtTree}
use Rattle.ss_expand_rules.specs.Code.{Coded, nothing, then_code}
use Rattle.ss_expand_rules.specs.Ends.{can_end}
use Rattle.ss_expand_rules.specs.Lifting.{ElaborationContext, Valued, value}
use Rattle.ss_expand_rules.specs.Statements.{stmt, advance}

-- without one it is `true`
abbrev pub tested : ElaborationContext → Place → Option ExprTree → List Ty → Valued
tested s p None made = record { code = []; value = BoolExpr p true; made = made }
tested s p (Some e) made = value s e made

-- a turn of a `for`, with its step where its end can be reached
abbrev pub turn_of : ElaborationContext → StmtTree → Option SimpleTree → List Ty → Coded
turn_of s a x made = then_code (stmt s a made) (if can_end a then advance s x else nothing)
