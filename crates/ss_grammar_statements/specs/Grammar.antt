-- The grammar of statements and blocks. Each line in quotes is the production that the definition below it states.
--
-- Levels: a level of nesting is open from each `{`, `(` and `[` to its partner, and through each statement other than a
-- block that `if`, `else`, `while` or `for` governs. Block d has what is nested at most d deep. A production speaks of
-- what stands on its own level and, as V and W, of the expressions and of the statements one level deeper. `o` says whether
-- a level may still be opened; without it one may.
use Rattle.std.specs.Prelude.{ℕ, zero, suc, Bool, true, false, List, [], ◌∷◌, ◌++◌, Option, Some, None}
use Rattle.ss_core.specs.declared.names.Place.{Place}
use Rattle.ss_ast.specs.declared.token.Word.TheVariants as word
use Rattle.ss_ast.specs.declared.token.Symbol.{Symbol}
use Rattle.ss_ast.specs.declared.token.Symbol.TheVariants as symbol
use Rattle.ss_ast.specs.Expressions.{NameTree, TypeTree, ExprTree, ElementOf, ParenOf}
use Rattle.ss_ast.specs.Statements.{DeclaratorTree, SimpleTree, AssignOf, StepOf, AloneOf, ForInitTree, DeclareFirst, SimpleFirst, BlockTree, BlockOf, StmtTree, InBlock, DeclareOf, SimpleOf, IfOf, IfElseOf, WhileOf, ForOf, ReturnOf, AssertOf, AssumeOf, ExposeOf, EmptyOf, StmtTrees, NoMore, stmt_trees}
use Rattle.ss_grammar.specs.Language.{Done, Take, Maybe, Bind, Many}
use Rattle.ss_grammar_expressions.specs.First.{Choose}
use Rattle.ss_grammar_expressions.specs.Heads.{Piece, is, the, the_word}
use Rattle.ss_grammar_expressions.specs.Grammar.{TheExpression, Parts, NoParts, AtLevel, Deeper, Held, BangEnd, TypeEnd, type_of, AnyName, join_argument, IndexEnd, ParenEnd, head_of, named, no_place, Old, New, Quantified, Postfixes, WholeExpression}
use Rattle.ss_grammar_statements.specs.Heads.{PrimHead, ParenPrim, LeafPrim, OldPrim, NewPrim, QuantifierPrim, prim_place, prim_head, SimpleHead, AssignHead, StepHead, simple_head, NextHead, NextName, NextBang, NextBracket, next_head, StartHead, TypeFirst, NameFirst, PrimFirst, start_head, StmtHead, BlockFirst, StartFirst, IfFirst, WhileFirst, ForFirst, ReturnFirst, AssertFirst, AssumeFirst, ExposeFirst, EmptyFirst, stmt_head, other_head}

-- L ";"
abbrev pub Ended : {A : Type 0} → (List Piece → A → Type 0) → List Piece → A → Type 0
Ended L = Bind L (λ a. Take (the symbol.Semicolon) (λ _. Done a))

-- [ L ], and then this symbol
abbrev pub Optional : {A : Type 0} → Symbol → (List Piece → A → Type 0) → List Piece → Option A → Type 0
Optional s L = Choose (is (the s)) (Take (the s) (λ _. Done None)) (Bind L (λ a. Take (the s) (λ _. Done (Some a))))

abbrev pub declared : NameTree → Option ExprTree → DeclaratorTree
declared n e = record { name = n; initial = e }

abbrev pub join_declarator : List DeclaratorTree → Place → DeclaratorTree → List DeclaratorTree
join_declarator cs _ c = cs ++ c ∷ []

abbrev pub declares : TypeTree → List DeclaratorTree → ForInitTree
declares t cs = DeclareFirst (record { ty = t; declarators = cs })

module _ (o : Bool) (V : Parts) where
  -- ---- declarations

  -- after a declared name: [ "=" Expr ]
  abbrev pub Initial : NameTree → List Piece → DeclaratorTree → Type 0
  Initial n = Maybe (the symbol.Equal) (λ _. Bind (WholeExpression o V) (λ e. Done (declared n (Some e)))) (declared n None)

  -- after the first of the declared names
  abbrev pub DeclsFrom : NameTree → List Piece → List DeclaratorTree → Type 0
  DeclsFrom n = Bind (Initial n) (λ c. Many (the symbol.Comma) (λ _. Bind AnyName Initial) join_declarator (c ∷ []))

  -- Decls = Name [ "=" Expr ] { "," Name [ "=" Expr ] }
  abbrev pub Decls : List Piece → List DeclaratorTree → Type 0
  Decls = Bind AnyName DeclsFrom

  -- after the type t: Decls
  abbrev pub Declared : TypeTree → List Piece → ForInitTree → Type 0
  Declared t = Bind Decls (λ cs. Done (declares t cs))

  -- ---- simple statements

  -- Prim = Number | String | "true" | "false" | "null" | "this" | "base" | "result" | Name
  --      | "(" Expr ")" | "old" "(" Expr ")" | "new" Name "(" [ Args ] ")" | "new" ElemType "[" Expr "]"
  --      | ( "forall" | "exists" ) "{" "int" Name "in" "(" Expr ":" Expr ")" ";" Expr "}"
  abbrev pub PrimAfter : PrimHead → List Piece → ExprTree → Type 0
  PrimAfter (ParenPrim p) = Deeper o (Bind (ParenEnd (V TheExpression)) (λ e. Done (ParenOf p e)))
  PrimAfter (LeafPrim p e) = Done e
  PrimAfter (OldPrim p) = Old o V p
  PrimAfter (NewPrim p) = New o V p
  PrimAfter (QuantifierPrim p q) = Quantified o V p q

  abbrev pub Prim : List Piece → ExprTree → Type 0
  Prim = Take prim_head PrimAfter

  -- Post = Prim { "." Name | "[" Expr "]" | "(" [ Args ] ")" }
  abbrev pub PostAfter : PrimHead → List Piece → ExprTree → Type 0
  PostAfter h = Bind (PrimAfter h) (Postfixes o V (prim_place h))

  abbrev pub Post : List Piece → ExprTree → Type 0
  Post = Take prim_head PostAfter

  abbrev pub SimpleAfter : ExprTree → SimpleHead → List Piece → SimpleTree → Type 0
  SimpleAfter a (AssignHead op) = Bind (WholeExpression o V) (λ e. Done (AssignOf a op e))
  SimpleAfter a (StepHead op) = Done (StepOf a op)

  -- after the path a: [ ( "=" | "+=" | "-=" | "*=" ) Expr | "++" | "--" ]
  abbrev pub SimpleEnd : ExprTree → List Piece → SimpleTree → Type 0
  SimpleEnd a = Maybe simple_head (SimpleAfter a) (AloneOf a)

  -- Simple = Post ( "=" | "+=" | "-=" | "*=" ) Expr | Post ( "++" | "--" ) | Post
  abbrev pub Simple : List Piece → SimpleTree → Type 0
  Simple = Bind Post SimpleEnd

  -- ---- "Type Decls" and "Simple", told apart by what follows a name

  abbrev pub SimpleThen : ExprTree → List Piece → ForInitTree → Type 0
  SimpleThen a = Bind (SimpleEnd a) (λ s. Done (SimpleFirst s))

  -- after the beginning a of a path
  abbrev pub SimpleFrom : Place → ExprTree → List Piece → ForInitTree → Type 0
  SimpleFrom p a = Bind (Postfixes o V p a) SimpleThen

  -- after Name "[": "]" [ "!" ] Decls, or Expr "]" and the rest of a path
  abbrev pub ElementOrArray : NameTree → List Piece → ForInitTree → Type 0
  ElementOrArray n = Choose (is (the symbol.CloseBracket))
      (Take (the symbol.CloseBracket) (λ _. Bind BangEnd (λ s. Declared (type_of (head_of n) true s))))
      (Bind (IndexEnd (V TheExpression)) (λ i. SimpleFrom n.place (ElementOf n.place (named n) i)))

  abbrev pub NextAfter : NameTree → NextHead → List Piece → ForInitTree → Type 0
  NextAfter n (NextName m) = Bind (DeclsFrom m) (λ cs. Done (declares (type_of (head_of n) false false) cs))
  NextAfter n NextBang = Declared (type_of (head_of n) false true)
  NextAfter n NextBracket = Deeper o (ElementOrArray n)

  -- after a name: a declaration exactly where the name begins a type and a name stands after the type
  abbrev pub NameAfter : NameTree → List Piece → ForInitTree → Type 0
  NameAfter n = Choose (is next_head) (Take next_head (NextAfter n)) (SimpleFrom n.place (named n))

  -- after a type's word, after a name, and after any other token that a path may begin with
  abbrev pub StartAfter : StartHead → List Piece → ForInitTree → Type 0
  StartAfter (TypeFirst t) = Bind (TypeEnd o t) Declared
  StartAfter (NameFirst n) = NameAfter n
  StartAfter (PrimFirst h) = Bind (PostAfter h) SimpleThen

  -- ForInit = Type Decls | Simple
  abbrev pub ForInit : List Piece → ForInitTree → Type 0
  ForInit = Take start_head StartAfter

-- ---- parts of statements that stand one level deeper, and what each is read as

pub data Nest : Type 0 where
  -- what is after the `{` of a block
  TheStatements : Nest
  -- a statement other than a block, which another governs
  TheGoverned : Nest
  -- what is after the `(` of a `for`
  TheHeading : Nest

-- the statements of a block, and the place of its `}`
pub record Listed : Type 0 where
  pub statements : StmtTrees
  pub end : Place

-- what stands in the heading of a `for`
pub record HeadingTree : Type 0 where
  pub first : Option ForInitTree
  pub test : Option ExprTree
  pub step : Option SimpleTree

abbrev pub Nested : Nest → Type 0
Nested TheStatements = Listed
Nested TheGoverned = StmtTree
Nested TheHeading = HeadingTree

abbrev pub Nests : Type 1
Nests = (i : Nest) → List Piece → Nested i → Type 0

abbrev pub join_stmt : List StmtTree → StmtHead → StmtTree → List StmtTree
join_stmt ss _ s = ss ++ s ∷ []

abbrev pub statement_of : ForInitTree → StmtTree
statement_of (DeclareFirst d) = DeclareOf d
statement_of (SimpleFirst s) = SimpleOf s

-- whether the statement ends with an `if` that has no `else`
abbrev pub open_if : StmtTree → Bool
open_if (InBlock b) = false
open_if (DeclareOf d) = false
open_if (SimpleOf s) = false
open_if (IfOf p e a) = true
open_if (IfElseOf p e a b) = open_if b
open_if (WhileOf p e is a) = open_if a
open_if (ForOf p i e s is a) = open_if a
open_if (ReturnOf p e) = false
open_if (AssertOf p e) = false
open_if (AssumeOf p e) = false
open_if (ExposeOf p e n b) = false
open_if (EmptyOf p) = false

module _ (V : Parts) (W : Nests) where
  -- ---- blocks and governed statements

  -- after the `{` at p: { Stmt } "}"
  abbrev pub BlockAfter : Place → List Piece → BlockTree → Type 0
  BlockAfter p = Bind (W TheStatements) (λ b. Done (BlockOf p b.statements b.end))

  -- Block = "{" { Stmt } "}"
  abbrev pub InnerBlock : List Piece → BlockTree → Type 0
  InnerBlock = Take (the symbol.OpenBrace) BlockAfter

  -- a statement that another governs, which is one level deeper where it isn't a block
  abbrev pub Governed : List Piece → StmtTree → Type 0
  Governed = Choose (is (the symbol.OpenBrace)) (Bind InnerBlock (λ b. Done (InBlock b))) (W TheGoverned)

  -- [ "else" Stmt ], which belongs to the nearest `if`: where a itself ends with an `if` without `else` that one has it
  abbrev pub ElseEnd : Place → ExprTree → StmtTree → Bool → List Piece → StmtTree → Type 0
  ElseEnd p e a true = Done (IfOf p e a)
  ElseEnd p e a false = Maybe (the_word word.Else) (λ _. Bind Governed (λ b. Done (IfElseOf p e a b))) (IfOf p e a)

  -- Expr ")" Stmt [ "else" Stmt ]
  abbrev pub IfEnd : Place → List Piece → StmtTree → Type 0
  IfEnd p = Bind (ParenEnd (V TheExpression)) (λ e. Bind Governed (λ a. ElseEnd p e a (open_if a)))

  -- { "invariant" Expr ";" }
  abbrev pub Invariants : List Piece → List ExprTree → Type 0
  Invariants = Many (the_word word.Invariant) (λ _. Ended (WholeExpression true V)) join_argument []

  -- Expr ")" { "invariant" Expr ";" } Stmt
  abbrev pub WhileEnd : Place → List Piece → StmtTree → Type 0
  WhileEnd p = Bind (ParenEnd (V TheExpression)) (λ e. Bind Invariants (λ is. Bind Governed (λ a. Done (WhileOf p e is a))))

  -- [ ForInit ] ";" [ Expr ] ";" [ Simple ] ")" { "invariant" Expr ";" } Stmt
  abbrev pub ForEnd : Place → List Piece → StmtTree → Type 0
  ForEnd p = Bind (W TheHeading) (λ h. Bind Invariants (λ is. Bind Governed (λ a. Done (ForOf p h.first h.test h.step is a))))

  -- [ "at" Name ]
  abbrev pub AtEnd : List Piece → Option NameTree → Type 0
  AtEnd = Maybe (the_word word.At) (λ _. Bind AnyName (λ n. Done (Some n))) None

  -- Expr [ "at" Name ] ")" Block
  abbrev pub ExposeEnd : Place → List Piece → StmtTree → Type 0
  ExposeEnd p = Bind (V TheExpression) (λ e. Bind AtEnd (λ n. Take (the symbol.Close) (λ _. Bind InnerBlock (λ b. Done (ExposeOf p e n b)))))

-- a block that is left out
abbrev pub left_out_block : BlockTree
left_out_block = BlockOf no_place NoMore no_place

module _ (o : Bool) (V : Parts) (W : Nests) where
  -- what stands after the first token of a statement:
  -- Block
  -- Type Decls ";" | Simple ";"
  -- "if" "(" Expr ")" Stmt [ "else" Stmt ]
  -- "while" "(" Expr ")" { "invariant" Expr ";" } Stmt
  -- "for" "(" [ ForInit ] ";" [ Expr ] ";" [ Simple ] ")" { "invariant" Expr ";" } Stmt
  -- "return" [ Expr ] ";"
  -- "assert" Expr ";"
  -- "assume" Expr ";"
  -- "expose" "(" Expr [ "at" Name ] ")" Block
  -- ";"
  abbrev pub StmtAfter : StmtHead → List Piece → StmtTree → Type 0
  StmtAfter (BlockFirst p) = Deeper o (Bind (BlockAfter V W p) (λ b. Done (InBlock b)))
  StmtAfter (StartFirst h) = Bind (StartAfter o V h) (λ i. Take (the symbol.Semicolon) (λ _. Done (statement_of i)))
  StmtAfter (IfFirst p) = Held o (the symbol.Open) (λ _. IfEnd V W p) (EmptyOf p)
  StmtAfter (WhileFirst p) = Held o (the symbol.Open) (λ _. WhileEnd V W p) (EmptyOf p)
  StmtAfter (ForFirst p) = Held o (the symbol.Open) (λ _. ForEnd V W p) (EmptyOf p)
  StmtAfter (ReturnFirst p) = Bind (Optional symbol.Semicolon (WholeExpression o V)) (λ e. Done (ReturnOf p e))
  StmtAfter (AssertFirst p) = Bind (Ended (WholeExpression o V)) (λ e. Done (AssertOf p e))
  StmtAfter (AssumeFirst p) = Bind (Ended (WholeExpression o V)) (λ e. Done (AssumeOf p e))
  StmtAfter (ExposeFirst p) = Held o (the symbol.Open) (λ _. ExposeEnd V W p) (EmptyOf p)
  StmtAfter (EmptyFirst p) = Done (EmptyOf p)

  -- Stmt
  abbrev pub Stmt : List Piece → StmtTree → Type 0
  Stmt = Take stmt_head StmtAfter

  -- Stmt, but not Block
  abbrev pub Other : List Piece → StmtTree → Type 0
  Other = Take other_head StmtAfter

  -- { Stmt } "}"
  abbrev pub Statements : List Piece → Listed → Type 0
  Statements = Bind (Many stmt_head StmtAfter join_stmt []) (λ ss. Take (the symbol.CloseBrace) (λ p. Done (record { statements = stmt_trees ss; end = p })))

  -- [ ForInit ] ";" [ Expr ] ";" [ Simple ] ")"
  abbrev pub Heading : List Piece → HeadingTree → Type 0
  Heading = Bind (Optional symbol.Semicolon (ForInit o V)) (λ i. Bind (Optional symbol.Semicolon (WholeExpression o V)) (λ e. Bind (Optional symbol.Close (Simple o V)) (λ s. Done (record { first = i; test = e; step = s }))))

  -- Block = "{" { Stmt } "}"
  abbrev pub WholeBlock : List Piece → BlockTree → Type 0
  WholeBlock = Held o (the symbol.OpenBrace) (BlockAfter V W) left_out_block

  -- ---- all parts

  abbrev pub Production : (i : Nest) → List Piece → Nested i → Type 0
  Production TheStatements = Statements
  Production TheGoverned = Other
  Production TheHeading = Heading

abbrev pub NoNests : (i : Nest) → List Piece → Nested i → Type 0
NoNests i ts v = ⊥

-- the parts that nest at most so deep
abbrev pub NestedAt : ℕ → (i : Nest) → List Piece → Nested i → Type 0
NestedAt zero = Production false NoParts NoNests
NestedAt (suc d) = Production true (AtLevel d) (NestedAt d)

-- a block that nests at most d deep
abbrev pub Block : ℕ → List Piece → BlockTree → Type 0
Block zero = WholeBlock false NoParts NoNests
Block (suc d) = WholeBlock true (AtLevel d) (NestedAt d)
