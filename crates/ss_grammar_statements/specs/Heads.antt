-- Which tokens a statement and its parts may begin with, and what each of them says.
use Rattle.std.specs.Prelude.{Bool, true, false, Option, Some, None, option_map}
use Rattle.std.specs.Option.{option_or}
use Rattle.ss_core.specs.declared.names.Place.{Place}
use Rattle.ss_ast.specs.declared.token.Word.{Word}
use Rattle.ss_ast.specs.declared.token.Word.TheVariants as word
use Rattle.ss_ast.specs.declared.token.Symbol.{Symbol}
use Rattle.ss_ast.specs.declared.token.Symbol.TheVariants as symbol
use Rattle.ss_core.specs.declared.expr.Quantifier.{Quantifier}
use Rattle.ss_ast.specs.declared.stmt.AssignOperator.{AssignOperator}
use Rattle.ss_ast.specs.declared.stmt.AssignOperator.TheVariants as assign
use Rattle.ss_ast.specs.declared.stmt.StepOperator.{StepOperator}
use Rattle.ss_ast.specs.declared.stmt.StepOperator.TheVariants as by_one
use Rattle.ss_ast.specs.Tokens.{Kind, AWord, ASymbol, AName}
use Rattle.ss_ast.specs.Expressions.{NameTree, ExprTree}
use Rattle.ss_grammar_expressions.specs.Heads.{Piece, AToken, LeftOut, a_name, TypeHead, type_word, Head, NegateHead, NotHead, OpenHead, Leaf, OldHead, NewHead, QuantifierHead, unary_head}

-- ---- paths

-- a path begins with one of these; a leaf is a whole part by itself, and a `(` never begins a cast
pub data PrimHead : Type 0 where
  ParenPrim : Place → PrimHead
  LeafPrim : Place → ExprTree → PrimHead
  OldPrim : Place → PrimHead
  NewPrim : Place → PrimHead
  QuantifierPrim : Place → Quantifier → PrimHead

abbrev pub prim_place : PrimHead → Place
prim_place (ParenPrim p) = p
prim_place (LeafPrim p e) = p
prim_place (OldPrim p) = p
prim_place (NewPrim p) = p
prim_place (QuantifierPrim p q) = p

-- the beginning of a unary expression, where it isn't `-` or `!`
abbrev pub prim_of : Option Head → Option PrimHead
prim_of None = None
prim_of (Some (NegateHead p)) = None
prim_of (Some (NotHead p)) = None
prim_of (Some (OpenHead p)) = Some (ParenPrim p)
prim_of (Some (Leaf p e)) = Some (LeafPrim p e)
prim_of (Some (OldHead p)) = Some (OldPrim p)
prim_of (Some (NewHead p)) = Some (NewPrim p)
prim_of (Some (QuantifierHead p q)) = Some (QuantifierPrim p q)

abbrev pub prim_head : Piece → Option PrimHead
prim_head t = prim_of (unary_head t)

-- `(` opens a level
abbrev pub prim_opens : PrimHead → Bool
prim_opens (ParenPrim p) = true
prim_opens (LeafPrim p e) = false
prim_opens (OldPrim p) = false
prim_opens (NewPrim p) = false
prim_opens (QuantifierPrim p q) = false

-- ---- after a path

pub data SimpleHead : Type 0 where
  AssignHead : AssignOperator → SimpleHead
  StepHead : StepOperator → SimpleHead

abbrev pub simple_symbol : Symbol → Option SimpleHead
simple_symbol symbol.Equal = Some (AssignHead assign.Set)
simple_symbol symbol.PlusEqual = Some (AssignHead assign.Add)
simple_symbol symbol.MinusEqual = Some (AssignHead assign.Subtract)
simple_symbol symbol.StarEqual = Some (AssignHead assign.Multiply)
simple_symbol symbol.PlusPlus = Some (StepHead by_one.Up)
simple_symbol symbol.MinusMinus = Some (StepHead by_one.Down)
simple_symbol _ = None

abbrev pub simple_of : Kind → Option SimpleHead
simple_of (ASymbol s) = simple_symbol s
simple_of _ = None

-- "=" | "+=" | "-=" | "*=" | "++" | "--"
abbrev pub simple_head : Piece → Option SimpleHead
simple_head (AToken t) = simple_of t.kind
simple_head LeftOut = None

-- ---- after a name at the beginning of a statement

-- a further name or a `!`, so that the first one is a type, or a `[`, after which either may come
pub data NextHead : Type 0 where
  NextName : NameTree → NextHead
  NextBang : NextHead
  NextBracket : NextHead

abbrev pub next_symbol : Symbol → Option NextHead
next_symbol symbol.Bang = Some NextBang
next_symbol symbol.OpenBracket = Some NextBracket
next_symbol _ = None

abbrev pub next_of : Place → Kind → Option NextHead
next_of p (ASymbol s) = next_symbol s
next_of p (AName n) = Some (NextName (record { text = n; place = p }))
next_of p _ = None

abbrev pub next_head : Piece → Option NextHead
next_head (AToken t) = next_of t.place t.kind
next_head LeftOut = None

-- `[` opens a level
abbrev pub next_opens : NextHead → Bool
next_opens (NextName n) = false
next_opens NextBang = false
next_opens NextBracket = true

-- ---- declarations and simple statements

-- a type's word; a name, with which a type or a path begins; anything else that a path may begin with
pub data StartHead : Type 0 where
  TypeFirst : TypeHead → StartHead
  NameFirst : NameTree → StartHead
  PrimFirst : PrimHead → StartHead

abbrev pub start_head : Piece → Option StartHead
start_head t = option_or (option_map TypeFirst (type_word t)) (option_or (option_map NameFirst (a_name t)) (option_map PrimFirst (prim_head t)))

abbrev pub start_opens : StartHead → Bool
start_opens (TypeFirst t) = false
start_opens (NameFirst n) = false
start_opens (PrimFirst h) = prim_opens h

-- ---- statements

pub data StmtHead : Type 0 where
  BlockFirst : Place → StmtHead
  StartFirst : StartHead → StmtHead
  IfFirst : Place → StmtHead
  WhileFirst : Place → StmtHead
  ForFirst : Place → StmtHead
  ReturnFirst : Place → StmtHead
  AssertFirst : Place → StmtHead
  AssumeFirst : Place → StmtHead
  ExposeFirst : Place → StmtHead
  EmptyFirst : Place → StmtHead

abbrev pub stmt_symbol : Place → Symbol → Option StmtHead
stmt_symbol p symbol.OpenBrace = Some (BlockFirst p)
stmt_symbol p symbol.Semicolon = Some (EmptyFirst p)
stmt_symbol p _ = None

abbrev pub stmt_word : Place → Word → Option StmtHead
stmt_word p word.If = Some (IfFirst p)
stmt_word p word.While = Some (WhileFirst p)
stmt_word p word.For = Some (ForFirst p)
stmt_word p word.Return = Some (ReturnFirst p)
stmt_word p word.Assert = Some (AssertFirst p)
stmt_word p word.Assume = Some (AssumeFirst p)
stmt_word p word.Expose = Some (ExposeFirst p)
stmt_word p _ = None

abbrev pub stmt_kind : Place → Kind → Option StmtHead
stmt_kind p (ASymbol s) = stmt_symbol p s
stmt_kind p (AWord w) = stmt_word p w
stmt_kind p _ = None

abbrev pub stmt_head : Piece → Option StmtHead
stmt_head (AToken t) = option_or (stmt_kind t.place t.kind) (option_map StartFirst (start_head (AToken t)))
stmt_head LeftOut = None

-- `{` and `(` open a level
abbrev pub stmt_opens : StmtHead → Bool
stmt_opens (BlockFirst p) = true
stmt_opens (StartFirst h) = start_opens h
stmt_opens (IfFirst p) = false
stmt_opens (WhileFirst p) = false
stmt_opens (ForFirst p) = false
stmt_opens (ReturnFirst p) = false
stmt_opens (AssertFirst p) = false
stmt_opens (AssumeFirst p) = false
stmt_opens (ExposeFirst p) = false
stmt_opens (EmptyFirst p) = false

abbrev pub unless_block : Option StmtHead → Option StmtHead
unless_block None = None
unless_block (Some (BlockFirst p)) = None
unless_block (Some h) = Some h

-- the beginning of a statement other than a block
abbrev pub other_head : Piece → Option StmtHead
other_head t = unless_block (stmt_head t)
