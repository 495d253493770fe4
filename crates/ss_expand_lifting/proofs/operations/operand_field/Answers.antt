use Rattle.ss_core.specs.Tree.{FieldExpr}
use Rattle.ss_expand_lifting.proofs.Joins.{unary_kept}
use Rattle.ss_expand_lifting.proofs.operations.operand_field.Goals as goal

pub returns : goal.returns
returns c = λ s e t before types n h.
    unary_kept (λ v. FieldExpr c.args.place v c.args.field.0) s e _ before _ _ _ types _
    c.any_object.ensures (c.in_ok-object.ensures s e before types n h) c.in_ok-value.ensures
