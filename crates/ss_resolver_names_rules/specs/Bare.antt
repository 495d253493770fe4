-- The name that an expression is, where it is one.
use Rattle.std.specs.Prelude.{ℕ, List, Option, Some, None}
use Rattle.ss_ast.specs.Expressions.{ExprTree, IffOf, ImpliesOf, BinaryOf, IsOf, AsOf, NegateOf, NotOf, CastOf, MemberOf, ElementOf, CallOf, NumberOf, TextOf, TruthOf, NullOf, ThisOf, BaseOf, ResultOf, NameOf, ParenOf, OldOf, NewOf, NewArrayOf, QuantifiedOf}

abbrev pub bare_name : ExprTree → Option (List ℕ)
bare_name (NameOf p n) = Some n
bare_name (IffOf p a b) = None
bare_name (ImpliesOf p a b) = None
bare_name (BinaryOf p o a b) = None
bare_name (IsOf p e t) = None
bare_name (AsOf p e t) = None
bare_name (NegateOf p e) = None
bare_name (NotOf p e) = None
bare_name (CastOf p t e) = None
bare_name (MemberOf p e n) = None
bare_name (ElementOf p e i) = None
bare_name (CallOf p e es) = None
bare_name (NumberOf p n) = None
bare_name (TextOf p x) = None
bare_name (TruthOf p b) = None
bare_name (NullOf p) = None
bare_name (ThisOf p) = None
bare_name (BaseOf p) = None
bare_name (ResultOf p) = None
bare_name (ParenOf p e) = None
bare_name (OldOf p e) = None
bare_name (NewOf p n es) = None
bare_name (NewArrayOf p q t e) = None
bare_name (QuantifiedOf p q n low high e) = None
