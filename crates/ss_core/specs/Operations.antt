-- The types of operations.
use Rattle.ss_core.specs.declared.names.Ty.{Ty}
use Rattle.ss_core.specs.declared.names.Ty.TheVariants as ty
use Rattle.ss_core.specs.declared.expr.Operator.{Operator}
use Rattle.ss_core.specs.declared.expr.Operator.TheVariants as op

-- what an operation gives
abbrev pub operation_type : Operator → Ty
operation_type op.Or = ty.Bool
operation_type op.And = ty.Bool
operation_type op.Equal = ty.Bool
operation_type op.NotEqual = ty.Bool
operation_type op.Less = ty.Bool
operation_type op.LessEqual = ty.Bool
operation_type op.Greater = ty.Bool
operation_type op.GreaterEqual = ty.Bool
operation_type op.Add = ty.Int
operation_type op.Subtract = ty.Int
operation_type op.Multiply = ty.Int
operation_type op.Divide = ty.Int
operation_type op.Remainder = ty.Int
