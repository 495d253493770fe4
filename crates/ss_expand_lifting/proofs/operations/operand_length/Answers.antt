use Rattle.ss_core.specs.Tree.{LengthExpr}
use Rattle.ss_expand_lifting.proofs.Joins.{unary_kept}
use Rattle.ss_expand_lifting.proofs.operations.operand_length.Goals as goal

pub returns : goal.returns
returns c = λ s e before types n h.
    unary_kept (LengthExpr c.args.place) s e _ before _ _ _ types _
    c.any_object.ensures (c.in_ok-array.ensures s e before types n h) c.in_ok-length.ensures
