-- What a `for` begins with, and what stands before the `;` of a statement, as two productions beside each other.
use Rattle.std.specs.Prelude.{◌≡◌, ℕ, zero, suc, Bool, true, false, List, ◌++◌}
use Rattle.ss_ast.specs.Expressions.{NameTree, TypeTree}
use Rattle.ss_ast.specs.Statements.{ForInitTree, DeclareFirst, SimpleFirst}
use Rattle.ss_grammar.specs.Language.{Done, Take, Bind}
use Rattle.ss_grammar_expressions.specs.Heads.{Piece, type_head}
use Rattle.ss_grammar_expressions.specs.Grammar.{Parts, NoParts, AtLevel, TypeEnd, AnyName}
use Rattle.ss_grammar_statements.specs.Grammar.{Declared, Simple}

-- Type = ( "int" | "bool" | "object" | Name ) [ "[" "]" ] [ "!" ]
abbrev pub AnyType : Bool → List Piece → TypeTree → Type 0
AnyType o = Take type_head (TypeEnd o)

-- Type Decls
abbrev pub Declaration : Bool → Parts → List Piece → ForInitTree → Type 0
Declaration o V = Bind (AnyType o) (Declared o V)

-- Simple
abbrev pub Simply : Bool → Parts → List Piece → ForInitTree → Type 0
Simply o V = Bind (Simple o V) (λ s. Done (SimpleFirst s))

-- a production where at most d levels may be opened
abbrev pub Leveled : (Bool → Parts → List Piece → ForInitTree → Type 0) → ℕ → List Piece → ForInitTree → Type 0
Leveled P zero = P false NoParts
Leveled P (suc d) = P true (AtLevel d)

-- a type and a name after it
abbrev pub TypeAndName : Bool → List Piece → NameTree → Type 0
TypeAndName o = Bind (AnyType o) (λ t. AnyName)

-- the tokens begin so
pub record Begins (o : Bool) (ts : List Piece) : Type 0 where
  pub front : List Piece
  pub rest : List Piece
  pub name : NameTree
  pub parts : ts ≡ front ++ rest
  pub reads : TypeAndName o front name

-- whether a level may be opened where at most d may
abbrev pub room : ℕ → Bool
room zero = false
room (suc d) = true

abbrev pub declares_names : ForInitTree → Bool
declares_names (DeclareFirst x) = true
declares_names (SimpleFirst s) = false
