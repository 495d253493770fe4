-- Which tokens a part of an expression may begin with, and what each of them says.
use Rattle.std.specs.Prelude.{ℕ, Bool, true, false, List, Option, Some, None, ◌==◌, pos, map, option_map}
use Rattle.ss_core.specs.declared.names.Place.{Place}
use Rattle.ss_ast.specs.declared.token.Word.{Word}
use Rattle.ss_ast.specs.declared.token.Word.TheVariants as word
use Rattle.ss_ast.specs.declared.token.Symbol.{Symbol}
use Rattle.ss_ast.specs.declared.token.Symbol.TheVariants as symbol
use Rattle.ss_core.specs.declared.expr.Operator.{Operator}
use Rattle.ss_core.specs.declared.expr.Operator.TheVariants as operator
use Rattle.ss_core.specs.declared.expr.Quantifier.{Quantifier}
use Rattle.ss_core.specs.declared.expr.Quantifier.TheVariants as quantifier
use Rattle.ss_ast.specs.Tokens.{Kind, AWord, ASymbol, AName, ANumber, AText, AnEnd, Tok, tok, word_number}
use Rattle.ss_ast.specs.declared.token.Token.{Token}
use Rattle.ss_ast.specs.Expressions.{NameTree, TypeNameTree, IntType, BoolType, ObjectType, ClassType, ExprTree, NumberOf, TextOf, TruthOf, NullOf, ThisOf, BaseOf, ResultOf, NameOf}

abbrev pub if_so : {A : Type 0} → Bool → A → Option A
if_so true a = Some a
if_so false a = None

abbrev pub found : {A : Type 0} → Option A → Bool
found None = false
found (Some a) = true

-- A token, or a part that is left out: one that would open a level where it stands. So it can be said that tokens are the
-- start of an expression, whatever levels the rest of it opens. A list of tokens has nothing left out.
pub data Piece : Type 0 where
  AToken : Tok → Piece
  LeftOut : Piece

abbrev pub pieces : List Token → List Piece
pieces ts = map (λ t. AToken (tok t)) ts

abbrev pub place_at : Piece → Place
place_at (AToken t) = t.place
place_at LeftOut = record { line = 1; column = 1 }

-- what f says of a token, or that a part is left out
abbrev pub or_left_out : {B : Type 0} → (Piece → Option B) → Piece → Option (Option B)
or_left_out f LeftOut = Some None
or_left_out f (AToken t) = option_map Some (f (AToken t))

-- whether f knows the token
abbrev pub is : {T A : Type 0} → (T → Option A) → T → Bool
is f t = found (f t)

abbrev pub symbol_number : Symbol → ℕ
symbol_number symbol.Iff = 0
symbol_number symbol.Implies = 1
symbol_number symbol.EqualEqual = 2
symbol_number symbol.BangEqual = 3
symbol_number symbol.LessEqual = 4
symbol_number symbol.GreaterEqual = 5
symbol_number symbol.AndAnd = 6
symbol_number symbol.OrOr = 7
symbol_number symbol.PlusEqual = 8
symbol_number symbol.MinusEqual = 9
symbol_number symbol.StarEqual = 10
symbol_number symbol.PlusPlus = 11
symbol_number symbol.MinusMinus = 12
symbol_number symbol.OpenBrace = 13
symbol_number symbol.CloseBrace = 14
symbol_number symbol.Open = 15
symbol_number symbol.Close = 16
symbol_number symbol.OpenBracket = 17
symbol_number symbol.CloseBracket = 18
symbol_number symbol.Semicolon = 19
symbol_number symbol.Colon = 20
symbol_number symbol.Comma = 21
symbol_number symbol.Dot = 22
symbol_number symbol.Equal = 23
symbol_number symbol.Less = 24
symbol_number symbol.Greater = 25
symbol_number symbol.Plus = 26
symbol_number symbol.Minus = 27
symbol_number symbol.Star = 28
symbol_number symbol.Slash = 29
symbol_number symbol.Percent = 30
symbol_number symbol.Bang = 31

abbrev pub symbol_is : Symbol → Place → Kind → Option Place
symbol_is s p (ASymbol r) = if_so (symbol_number r == symbol_number s) p
symbol_is s p _ = None

-- this symbol, with its place
abbrev pub the : Symbol → Piece → Option Place
the s (AToken t) = symbol_is s t.place t.kind
the s LeftOut = None

abbrev pub word_is : Word → Place → Kind → Option Place
word_is w p (AWord v) = if_so (word_number v == word_number w) p
word_is w p _ = None

-- this word, with its place
abbrev pub the_word : Word → Piece → Option Place
the_word w (AToken t) = word_is w t.place t.kind
the_word w LeftOut = None

abbrev pub name_of : Place → Kind → Option NameTree
name_of p (AName n) = Some (record { text = n; place = p })
name_of p _ = None

-- any name
abbrev pub a_name : Piece → Option NameTree
a_name (AToken t) = name_of t.place t.kind
a_name LeftOut = None

abbrev pub least_is : Place → Kind → Option Place
least_is p (ANumber n) = if_so (n == 2147483648) p
least_is p _ = None

-- the number that stands only after a `-`
abbrev pub the_least : Piece → Option Place
the_least (AToken t) = least_is t.place t.kind
the_least LeftOut = None

-- ---- types

-- the first token of a type, with its place
pub record TypeHead : Type 0 where
  pub place : Place
  pub name : TypeNameTree

abbrev pub type_word_of : Place → Word → Option TypeHead
type_word_of p word.Int = Some (record { place = p; name = IntType })
type_word_of p word.Bool = Some (record { place = p; name = BoolType })
type_word_of p word.Object = Some (record { place = p; name = ObjectType })
type_word_of p _ = None

abbrev pub type_word_kind : Place → Kind → Option TypeHead
type_word_kind p (AWord w) = type_word_of p w
type_word_kind p _ = None

-- "int" | "bool" | "object"
abbrev pub type_word : Piece → Option TypeHead
type_word (AToken t) = type_word_kind t.place t.kind
type_word LeftOut = None

abbrev pub type_head_kind : Place → Kind → Option TypeHead
type_head_kind p (AWord w) = type_word_of p w
type_head_kind p (AName n) = Some (record { place = p; name = ClassType n })
type_head_kind p _ = None

-- "int" | "bool" | "object" | Name
abbrev pub type_head : Piece → Option TypeHead
type_head (AToken t) = type_head_kind t.place t.kind
type_head LeftOut = None

-- ---- operators that group to the left

pub data LinkHead : Type 0 where
  Operation : Operator → LinkHead
  IsHead : LinkHead
  AsHead : LinkHead

-- an operator and its rank: the lowest rank binds closest
pub record Ranked : Type 0 where
  pub rank : ℕ
  pub head : LinkHead

abbrev pub link_symbol : Symbol → Option Ranked
link_symbol symbol.Star = Some (record { rank = 1; head = Operation operator.Multiply })
link_symbol symbol.Slash = Some (record { rank = 1; head = Operation operator.Divide })
link_symbol symbol.Percent = Some (record { rank = 1; head = Operation operator.Remainder })
link_symbol symbol.Plus = Some (record { rank = 2; head = Operation operator.Add })
link_symbol symbol.Minus = Some (record { rank = 2; head = Operation operator.Subtract })
link_symbol symbol.Less = Some (record { rank = 3; head = Operation operator.Less })
link_symbol symbol.LessEqual = Some (record { rank = 3; head = Operation operator.LessEqual })
link_symbol symbol.Greater = Some (record { rank = 3; head = Operation operator.Greater })
link_symbol symbol.GreaterEqual = Some (record { rank = 3; head = Operation operator.GreaterEqual })
link_symbol symbol.EqualEqual = Some (record { rank = 4; head = Operation operator.Equal })
link_symbol symbol.BangEqual = Some (record { rank = 4; head = Operation operator.NotEqual })
link_symbol symbol.AndAnd = Some (record { rank = 5; head = Operation operator.And })
link_symbol symbol.OrOr = Some (record { rank = 6; head = Operation operator.Or })
link_symbol _ = None

abbrev pub link_word : Word → Option Ranked
link_word word.Is = Some (record { rank = 3; head = IsHead })
link_word word.As = Some (record { rank = 3; head = AsHead })
link_word _ = None

abbrev pub link_of : Kind → Option Ranked
link_of (ASymbol s) = link_symbol s
link_of (AWord w) = link_word w
link_of _ = None

abbrev pub of_rank : ℕ → Option Ranked → Option LinkHead
of_rank k None = None
of_rank k (Some l) = if_so (l.rank == k) l.head

-- an operator of this rank
abbrev pub link_head : ℕ → Piece → Option LinkHead
link_head k (AToken t) = of_rank k (link_of t.kind)
link_head k LeftOut = None

-- ---- what stands after a part of a path

pub data PostfixHead : Type 0 where
  DotHead : PostfixHead
  IndexHead : PostfixHead
  CallHead : PostfixHead

abbrev pub postfix_symbol : Symbol → Option PostfixHead
postfix_symbol symbol.Dot = Some DotHead
postfix_symbol symbol.OpenBracket = Some IndexHead
postfix_symbol symbol.Open = Some CallHead
postfix_symbol _ = None

abbrev pub postfix_of : Kind → Option PostfixHead
postfix_of (ASymbol s) = postfix_symbol s
postfix_of _ = None

-- "." | "[" | "("
abbrev pub postfix_head : Piece → Option PostfixHead
postfix_head (AToken t) = postfix_of t.kind
postfix_head LeftOut = None

-- `[` and `(` open a level
abbrev pub postfix_opens : PostfixHead → Bool
postfix_opens DotHead = false
postfix_opens IndexHead = true
postfix_opens CallHead = true

-- ---- unary expressions

-- a unary expression begins with one of these; a leaf is a whole part by itself
pub data Head : Type 0 where
  NegateHead : Place → Head
  NotHead : Place → Head
  OpenHead : Place → Head
  Leaf : Place → ExprTree → Head
  OldHead : Place → Head
  NewHead : Place → Head
  QuantifierHead : Place → Quantifier → Head

abbrev pub unary_symbol : Place → Symbol → Option Head
unary_symbol p symbol.Minus = Some (NegateHead p)
unary_symbol p symbol.Bang = Some (NotHead p)
unary_symbol p symbol.Open = Some (OpenHead p)
unary_symbol p _ = None

abbrev pub unary_word : Place → Word → Option Head
unary_word p word.True = Some (Leaf p (TruthOf p true))
unary_word p word.False = Some (Leaf p (TruthOf p false))
unary_word p word.Null = Some (Leaf p (NullOf p))
unary_word p word.This = Some (Leaf p (ThisOf p))
unary_word p word.Base = Some (Leaf p (BaseOf p))
unary_word p word.Result = Some (Leaf p (ResultOf p))
unary_word p word.Old = Some (OldHead p)
unary_word p word.New = Some (NewHead p)
unary_word p word.Forall = Some (QuantifierHead p quantifier.Forall)
unary_word p word.Exists = Some (QuantifierHead p quantifier.Exists)
unary_word p _ = None

abbrev pub unary_kind : Place → Kind → Option Head
unary_kind p (ASymbol s) = unary_symbol p s
unary_kind p (AWord w) = unary_word p w
unary_kind p (AName n) = Some (Leaf p (NameOf p n))
unary_kind p (ANumber n) = Some (Leaf p (NumberOf p (pos n)))
unary_kind p (AText s) = Some (Leaf p (TextOf p s))
unary_kind p AnEnd = None

abbrev pub unary_head : Piece → Option Head
unary_head (AToken t) = unary_kind t.place t.kind
unary_head LeftOut = None

-- `-`, `!` and `(` open a level
abbrev pub head_opens : Head → Bool
head_opens (NegateHead p) = true
head_opens (NotHead p) = true
head_opens (OpenHead p) = true
head_opens (Leaf p v) = false
head_opens (OldHead p) = false
head_opens (NewHead p) = false
head_opens (QuantifierHead p q) = false

-- ---- the operand of a cast

abbrev pub castable_symbol : Symbol → Bool
castable_symbol symbol.Open = true
castable_symbol symbol.Bang = true
castable_symbol _ = false

abbrev pub castable_word : Word → Bool
castable_word word.True = true
castable_word word.False = true
castable_word word.Null = true
castable_word word.This = true
castable_word word.Result = true
castable_word word.New = true
castable_word word.Old = true
castable_word _ = false

abbrev pub castable_kind : Kind → Bool
castable_kind (ASymbol s) = castable_symbol s
castable_kind (AWord w) = castable_word w
castable_kind (AName n) = true
castable_kind (ANumber n) = true
castable_kind (AText s) = true
castable_kind AnEnd = false

-- the operand of a cast begins with a number, a string, a name, `(`, `!`, `true`, `false`, `null`, `this`, `result`, `new` or `old`
abbrev pub castable : Piece → Bool
castable (AToken t) = castable_kind t.kind
castable LeftOut = false

-- ---- after `(` and a name

pub data NamedHead : Type 0 where
  BangAfter : NamedHead
  BracketAfter : NamedHead

abbrev pub named_symbol : Symbol → Option NamedHead
named_symbol symbol.Bang = Some BangAfter
named_symbol symbol.OpenBracket = Some BracketAfter
named_symbol _ = None

abbrev pub named_of : Kind → Option NamedHead
named_of (ASymbol s) = named_symbol s
named_of _ = None

-- "!" | "["
abbrev pub named_head : Piece → Option NamedHead
named_head (AToken t) = named_of t.kind
named_head LeftOut = None

abbrev pub named_opens : NamedHead → Bool
named_opens BangAfter = false
named_opens BracketAfter = true

-- ---- after `new` and a type

pub data NewKind : Type 0 where
  ArrayKind : NewKind
  ObjectKind : List ℕ → NewKind

abbrev pub new_symbol : TypeNameTree → Symbol → Option NewKind
new_symbol n symbol.OpenBracket = Some ArrayKind
new_symbol (ClassType n) symbol.Open = Some (ObjectKind n)
new_symbol n _ = None

abbrev pub new_of : TypeNameTree → Kind → Option NewKind
new_of n (ASymbol s) = new_symbol n s
new_of n _ = None

-- "[", and after a class's name "(" too
abbrev pub new_head : TypeNameTree → Piece → Option NewKind
new_head n (AToken t) = new_of n t.kind
new_head n LeftOut = None
