-- What an expression is outermost, its place, whether `this` stands in it; and whether statements call `base(..)`.
use Rattle.std.specs.Prelude.{ℕ, Bool, true, false, ◌||◌, if◌then◌else◌, Option, Some, None}
use Rattle.ss_core.specs.declared.names.Place.{Place}
use Rattle.ss_typed.specs.Tree.{ExprTree, IntOf, BoolOf, NullOf, ThisOf, LocalOf, ResultOf, BoundOf, IffOf, ImpliesOf, BinaryOf, IsOf, AsOf, NegateOf, NotOf, CastOf, FieldOf, ElementOf, LengthOf, OldOf, QuantifiedOf, StateOf, OwnersOf, NewOf, NewArrayOf, CallOf, StaticOf, BaseOf, Arguments, NoMore, Argument, BaseCallOf, BlockTree, BlockOf, StmtTree, SimpleOf, StmtTrees, Before}

-- the place at which it stands
abbrev pub place_of : ExprTree → Place
place_of (IntOf p n) = p
place_of (BoolOf p b) = p
place_of (NullOf p) = p
place_of (ThisOf p t) = p
place_of (LocalOf p x t) = p
place_of (ResultOf p t) = p
place_of (BoundOf p n) = p
place_of (IffOf p a b) = p
place_of (ImpliesOf p a b) = p
place_of (BinaryOf p o a b) = p
place_of (IsOf p e t) = p
place_of (AsOf p e t) = p
place_of (NegateOf p e) = p
place_of (NotOf p e) = p
place_of (CastOf p t non_null e) = p
place_of (FieldOf p e f t) = p
place_of (ElementOf p a i) = p
place_of (LengthOf p e) = p
place_of (OldOf p e) = p
place_of (QuantifiedOf p q name low high e) = p
place_of (StateOf p w e) = p
place_of (OwnersOf p w a b) = p
place_of (NewOf p t es) = p
place_of (NewArrayOf p t e) = p
place_of (CallOf p e m t es) = p
place_of (StaticOf p n t es) = p
place_of (BaseOf p m t es) = p

-- the literal `true`
abbrev pub is_true : ExprTree → Bool
is_true (BoolOf p b) = b
is_true e = false

abbrev pub is_this : ExprTree → Bool
is_this (ThisOf p t) = true
is_this e = false

-- the local that the expression is, where it is one
abbrev pub local_of : ExprTree → Option ℕ
local_of (LocalOf p x t) = Some x
local_of e = None

-- the field of `this` that the expression is, where it is one
abbrev pub own_field : ExprTree → Option ℕ
own_field (FieldOf p e f t) = if is_this e then Some f else None
own_field e = None

-- `this` stands in it, or a `base.M(..)`, which is called on `this`
abbrev mutual
  pub mentions_this : ExprTree → Bool
  mentions_this (IntOf p n) = false
  mentions_this (BoolOf p b) = false
  mentions_this (NullOf p) = false
  mentions_this (ThisOf p t) = true
  mentions_this (LocalOf p x t) = false
  mentions_this (ResultOf p t) = false
  mentions_this (BoundOf p n) = false
  mentions_this (IffOf p a b) = mentions_this a || mentions_this b
  mentions_this (ImpliesOf p a b) = mentions_this a || mentions_this b
  mentions_this (BinaryOf p o a b) = mentions_this a || mentions_this b
  mentions_this (IsOf p e t) = mentions_this e
  mentions_this (AsOf p e t) = mentions_this e
  mentions_this (NegateOf p e) = mentions_this e
  mentions_this (NotOf p e) = mentions_this e
  mentions_this (CastOf p t non_null e) = mentions_this e
  mentions_this (FieldOf p e f t) = mentions_this e
  mentions_this (ElementOf p a i) = mentions_this a || mentions_this i
  mentions_this (LengthOf p e) = mentions_this e
  mentions_this (OldOf p e) = mentions_this e
  mentions_this (QuantifiedOf p q name low high e) = mentions_this low || mentions_this high || mentions_this e
  mentions_this (StateOf p w e) = mentions_this e
  mentions_this (OwnersOf p w a b) = mentions_this a || mentions_this b
  mentions_this (NewOf p t es) = mention_this es
  mentions_this (NewArrayOf p t e) = mentions_this e
  mentions_this (CallOf p e m t es) = mentions_this e || mention_this es
  mentions_this (StaticOf p n t es) = mention_this es
  mentions_this (BaseOf p m t es) = true

  pub mention_this : Arguments → Bool
  mention_this NoMore = false
  mention_this (Argument e es) = mentions_this e || mention_this es

-- the statements of a block, and the place of its closing brace
abbrev pub in_block : BlockTree → StmtTrees
in_block (BlockOf p ss end) = ss

abbrev pub closing_brace : BlockTree → Place
closing_brace (BlockOf p ss end) = end

-- the statement is `base(..)`, and one of the statements is
abbrev pub is_base : StmtTree → Bool
is_base (SimpleOf (BaseCallOf p es)) = true
is_base s = false

abbrev pub has_base : StmtTrees → Bool
has_base NoMore = false
has_base (Before s ss) = is_base s || has_base ss
