use Rattle.ss_core.specs.Tree.{IsExpr}
use Rattle.ss_expand_lifting.proofs.Joins.{unary_kept}
use Rattle.ss_expand_lifting.proofs.operations.operand_is.Goals as goal

pub returns : goal.returns
returns c = λ s e before types n h.
    unary_kept (λ v. IsExpr c.args.place v c.args.class.0) s e _ before _ _ _ types _
    c.any_object.ensures (c.in_ok-value.ensures s e before types n h) c.in_ok-test.ensures
