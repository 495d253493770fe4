-- The operations of compound assignments.
use Rattle.std.specs.Prelude.{Option, Some, None}
use Rattle.ss_ast.specs.declared.stmt.AssignOperator.{AssignOperator}
use Rattle.ss_ast.specs.declared.stmt.AssignOperator.TheVariants as operator
use Rattle.ss_core.specs.declared.expr.Operator.{Operator}
use Rattle.ss_core.specs.declared.expr.Operator.TheVariants as op

abbrev pub operator_of : AssignOperator → Option Operator
operator_of operator.Set = None
operator_of operator.Add = Some op.Add
operator_of operator.Subtract = Some op.Subtract
operator_of operator.Multiply = Some op.Multiply
