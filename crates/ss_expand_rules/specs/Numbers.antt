-- Numbers of locals, and expressions without calls in these numbers.
use Rattle.std.specs.Prelude.{ℕ, ◌+◌, List, [], ◌∷◌, map, unwrap_or, slice_get}
use Rattle.ss_core.specs.Tree as core
use Rattle.ss_core.specs.Tree.{IntExpr, BoolExpr, NullExpr, LocalExpr, FieldExpr, ElementExpr, LengthExpr, NegateExpr, NotExpr, BinaryExpr, ImpliesExpr, IffExpr, IsExpr, AsExpr, CastExpr, OldExpr, QuantifiedExpr, StateExpr, OwnersExpr}
use Rattle.ss_typed.specs.Tree.{ExprTree, IntOf, BoolOf, NullOf, ThisOf, LocalOf, ResultOf, BoundOf, IffOf, ImpliesOf, BinaryOf, IsOf, AsOf, NegateOf, NotOf, CastOf, FieldOf, ElementOf, LengthOf, OldOf, QuantifiedOf, StateOf, OwnersOf, NewOf, NewArrayOf, CallOf, StaticOf, BaseOf, Arguments, NoMore, Argument}

-- What the locals of a body have for numbers. `this`, the parameters and the declared locals keep theirs. After them stand the copies
-- of the parameters that the body assigns, then the temporaries, then the result, and then the names of quantifiers.
pub record Numbers : Type 0 where
  -- what `this` and each parameter is meant by: itself, or its copy
  pub meant : List ℕ
  pub first_temporary : ℕ
  pub outcome : ℕ
  pub first_bound : ℕ

-- Copied parameters: code means the copy of a parameter that the body assigns.
abbrev pub number : Numbers → ℕ → ℕ
number ns x = unwrap_or (slice_get ns.meant x) x

-- a contract means the parameter itself
abbrev pub uncopied : Numbers → Numbers
uncopied ns = record ns { meant = [] }

-- An expression of the core program, which has no call: calls are lifted out before.
abbrev pub plain : Numbers → ExprTree → core.ExprTree
plain ns (IntOf p n) = IntExpr p n
plain ns (BoolOf p b) = BoolExpr p b
plain ns (NullOf p) = NullExpr p
plain ns (ThisOf p t) = LocalExpr p 0
plain ns (LocalOf p x t) = LocalExpr p (number ns x)
plain ns (ResultOf p t) = LocalExpr p ns.outcome
plain ns (BoundOf p n) = LocalExpr p (ns.first_bound + n)
plain ns (IffOf p a b) = IffExpr p (plain ns a) (plain ns b)
plain ns (ImpliesOf p a b) = ImpliesExpr p (plain ns a) (plain ns b)
plain ns (BinaryOf p o a b) = BinaryExpr p o (plain ns a) (plain ns b)
plain ns (IsOf p e t) = IsExpr p (plain ns e) t
plain ns (AsOf p e t) = AsExpr p (plain ns e) t
plain ns (NegateOf p e) = NegateExpr p (plain ns e)
plain ns (NotOf p e) = NotExpr p (plain ns e)
plain ns (CastOf p t non_null e) = CastExpr p t non_null (plain ns e)
plain ns (FieldOf p e f t) = FieldExpr p (plain ns e) f
plain ns (ElementOf p a i) = ElementExpr p (plain ns a) (plain ns i)
plain ns (LengthOf p e) = LengthExpr p (plain ns e)
plain ns (OldOf p e) = OldExpr p (plain ns e)
plain ns (QuantifiedOf p q name low high e) = QuantifiedExpr p q name (plain ns low) (plain ns high) (plain ns e)
plain ns (StateOf p w e) = StateExpr p w (plain ns e)
plain ns (OwnersOf p w a b) = OwnersExpr p w (plain ns a) (plain ns b)
plain ns (NewOf p t es) = NullExpr p
plain ns (NewArrayOf p t e) = NullExpr p
plain ns (CallOf p e m t es) = NullExpr p
plain ns (StaticOf p n t es) = NullExpr p
plain ns (BaseOf p m t es) = NullExpr p

abbrev pub all_plain : Numbers → List ExprTree → List core.ExprTree
all_plain ns es = map (plain ns) es

abbrev pub plain_arguments : Numbers → Arguments → List core.ExprTree
plain_arguments ns NoMore = []
plain_arguments ns (Argument e es) = plain ns e ∷ plain_arguments ns es
