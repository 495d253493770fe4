-- Where calls stand in an expression.
use Rattle.std.specs.Prelude.{Bool, true, false, ◌||◌}
use Rattle.ss_core.specs.declared.names.Place.{Place}
use Rattle.ss_core.specs.declared.expr.Operator.{Operator}
use Rattle.ss_core.specs.declared.expr.Operator.TheVariants as op
use Rattle.ss_typed.specs.Tree.{ExprTree, IntOf, BoolOf, NullOf, ThisOf, LocalOf, ResultOf, BoundOf, IffOf, ImpliesOf, BinaryOf, IsOf, AsOf, NegateOf, NotOf, CastOf, FieldOf, ElementOf, LengthOf, OldOf, QuantifiedOf, StateOf, OwnersOf, NewOf, NewArrayOf, CallOf, StaticOf, BaseOf, Arguments, NoMore, Argument}

-- a call or a `new` stands in it
abbrev mutual
  pub has_call : ExprTree → Bool
  has_call (IntOf p n) = false
  has_call (BoolOf p b) = false
  has_call (NullOf p) = false
  has_call (ThisOf p t) = false
  has_call (LocalOf p x t) = false
  has_call (ResultOf p t) = false
  has_call (BoundOf p n) = false
  has_call (IffOf p a b) = has_call a || has_call b
  has_call (ImpliesOf p a b) = has_call a || has_call b
  has_call (BinaryOf p o a b) = has_call a || has_call b
  has_call (IsOf p e t) = has_call e
  has_call (AsOf p e t) = has_call e
  has_call (NegateOf p e) = has_call e
  has_call (NotOf p e) = has_call e
  has_call (CastOf p t non_null e) = has_call e
  has_call (FieldOf p e f t) = has_call e
  has_call (ElementOf p a i) = has_call a || has_call i
  has_call (LengthOf p e) = has_call e
  has_call (OldOf p e) = has_call e
  has_call (QuantifiedOf p q name low high e) = has_call low || has_call high || has_call e
  has_call (StateOf p w e) = has_call e
  has_call (OwnersOf p w a b) = has_call a || has_call b
  has_call (NewOf p t es) = true
  has_call (NewArrayOf p t e) = true
  has_call (CallOf p e m t es) = true
  has_call (StaticOf p n t es) = true
  has_call (BaseOf p m t es) = true

  pub have_call : Arguments → Bool
  have_call NoMore = false
  have_call (Argument e es) = has_call e || have_call es

abbrev pub is_lazy_operator : Operator → Bool
is_lazy_operator op.And = true
is_lazy_operator op.Or = true
is_lazy_operator o = false

-- an operation whose right side is evaluated only where its left side asks for it
abbrev pub is_lazy : ExprTree → Bool
is_lazy (ImpliesOf p a b) = true
is_lazy (BinaryOf p o a b) = is_lazy_operator o
is_lazy e = false
