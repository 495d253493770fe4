-- The grammar of declarations and programs. Each line in quotes is the production that the definition below it states.
--
-- A level of nesting is open from each `{`, `(` and `[` to its partner, and in blocks and expressions as their grammars
-- say. A part of the number d has what is nested at most d deep. Members are told apart by their first tokens.
use Rattle.std.specs.Prelude.{ℕ, zero, suc, Bool, true, false, List, [], ◌∷◌, ◌++◌, Option, Some, None}
use Rattle.ss_core.specs.declared.names.Place.{Place}
use Rattle.ss_ast.specs.declared.token.Word.TheVariants as word
use Rattle.ss_ast.specs.declared.token.Symbol.TheVariants as symbol
use Rattle.ss_ast.specs.declared.class.Modifier.{Modifier}
use Rattle.ss_ast.specs.Expressions.{NameTree, TypeTree, ExprTree, MemberOf, ElementOf, CallOf, arguments}
use Rattle.ss_ast.specs.Statements.{BlockTree}
use Rattle.ss_ast.specs.Programs.{ParamTree, ModifiedTree, AllOf, ElementsOf, OneOf, ClauseTree, RequiresOf, EnsuresOf, ModifiesOf, BaseCallTree, MemberKindTree, FieldsOf, InvariantOf, MethodOf, ConstructorOf, MemberTree, ClassTree, ProgramTree}
use Rattle.ss_grammar.specs.Language.{Done, Take, Maybe, Bind, Many, Inside}
use Rattle.ss_grammar_expressions.specs.First.{Choose, Here}
use Rattle.ss_grammar_expressions.specs.Heads.{Piece, place_at, is, the, the_word, a_name, TypeHead, type_head, PostfixHead, DotHead, IndexHead, CallHead, postfix_head}
use Rattle.ss_grammar_expressions.specs.Grammar.{TheTypeEnd, Parts, NoParts, AtLevel, Expression, Held, AnyName, ArgsEnd, IndexEnd, head_of}
use Rattle.ss_grammar_statements.specs.Grammar.{Ended, DeclsFrom, Prim, Block}
use Rattle.ss_grammar_programs.specs.Again.{Again}
use Rattle.ss_grammar_programs.specs.Heads.{the_end, an_access, member_word, begins_class, MemberHead, InvariantFirst, VoidFirst, WordFirst, NameFirst, member_head, begins_member, type_follows, fields_follow, ClauseHead, RequiresFirst, EnsuresFirst, ModifiesFirst, clause_head}

-- after a token that must come and opens a level; where it is left out the value is a
abbrev pub Opening : {A B : Type 0} → (Piece → Option B) → (B → ℕ → List Piece → A → Type 0) → A → ℕ → List Piece → A → Type 0
Opening f K a d = Held true f (λ b. Inside (K b) d) a

-- a part of the grammar of statements, at level d
abbrev pub AtDepth : {A : Type 0} → (Bool → Parts → List Piece → A → Type 0) → ℕ → List Piece → A → Type 0
AtDepth F zero = F false NoParts
AtDepth F (suc d) = F true (AtLevel d)

-- one more at the end
abbrev pub push : {A : Type 0} → List A → A → List A
push xs x = xs ++ x ∷ []

-- the same, whatever the token before it
abbrev pub push_after : {A B : Type 0} → List A → B → A → List A
push_after xs _ x = xs ++ x ∷ []

-- what leaves no trace
abbrev pub dropped : {B C : Type 0} → Unit {0} → B → C → Unit {0}
dropped a _ _ = a

-- ---- attributes, types and parameters

-- an attribute counts as a name at the place of its `[`
abbrev pub attribute_at : Place → NameTree → NameTree
attribute_at p n = record n { place = p }

-- Attr = "[" Name "]", and what is after its `[` at this place
abbrev pub AttributeEnd : Place → List Piece → NameTree → Type 0
AttributeEnd p = Bind AnyName (λ n. Take (the symbol.CloseBracket) (λ _. Done (attribute_at p n)))

-- { Attr }
abbrev pub Attributes : ℕ → List Piece → List NameTree → Type 0
Attributes d = Many (the symbol.OpenBracket) (λ p. Inside (λ _. AttributeEnd p) d) push_after []

-- Type = ( "int" | "bool" | "object" | Name ) [ "[" "]" ] [ "!" ], after its first token
abbrev pub TypeFrom : ℕ → TypeHead → List Piece → TypeTree → Type 0
TypeFrom d t = AtLevel d (TheTypeEnd t)

-- Type
abbrev pub FullType : ℕ → List Piece → TypeTree → Type 0
FullType d = Take type_head (TypeFrom d)

-- { Attr } Type Name
abbrev pub Parameter : ℕ → List Piece → ParamTree → Type 0
Parameter d = Bind (Attributes d) (λ xs. Bind (FullType d) (λ t. Bind AnyName (λ n. Done (record { attributes = xs; ty = t; name = n }))))

-- Params = { Attr } Type Name { "," { Attr } Type Name }
abbrev pub Params : ℕ → List Piece → List ParamTree → Type 0
Params d = Bind (Parameter d) (λ p. Many (the symbol.Comma) (λ _. Parameter d) push_after (p ∷ []))

-- [ Params ] ")"
abbrev pub ParamsEnd : ℕ → List Piece → List ParamTree → Type 0
ParamsEnd d = Choose (is (the symbol.Close)) (Take (the symbol.Close) (λ _. Done [])) (Bind (Params d) (λ ps. Take (the symbol.Close) (λ _. Done ps)))

-- "(" [ Params ] ")"
abbrev pub Parameters : ℕ → List Piece → List ParamTree → Type 0
Parameters = Opening (the symbol.Open) (λ _. ParamsEnd) []

-- ---- clauses

-- what is read of a term of a `modifies` clause: a path, after which more may come, or a whole term, which ends with `*`
pub data Reached : Type 0 where
  Path : ExprTree → Reached
  Whole : ModifiedTree → Reached

abbrev pub path_goes : Reached → Piece → Bool
path_goes (Path a) t = is postfix_head t
path_goes (Whole m) t = false

-- what a part makes of the path before it, in a term that begins at a place
abbrev pub Step : Type 0
Step = Place → ExprTree → Reached

abbrev pub stepped : Place → Reached → Step → Reached
stepped p (Path a) s = s p a
stepped p (Whole m) s = Whole m

abbrev pub modified : Reached → ModifiedTree
modified (Path a) = OneOf a
modified (Whole m) = m

-- "*" or Name, and "*" "]" or Expr "]"
abbrev pub DotStep : List Piece → Step → Type 0
DotStep = Choose (is (the symbol.Star)) (Take (the symbol.Star) (λ _. Done (λ p a. Whole (AllOf a)))) (Bind AnyName (λ n. Done (λ p a. Path (MemberOf p a n))))

abbrev pub IndexStep : ℕ → List Piece → Step → Type 0
IndexStep d = Choose (is (the symbol.Star)) (Take (the symbol.Star) (λ _. Take (the symbol.CloseBracket) (λ _. Done (λ p a. Whole (ElementsOf a))))) (Bind (IndexEnd (Expression d)) (λ e. Done (λ p a. Path (ElementOf p a e))))

-- [ Args ] ")"
abbrev pub CallStep : ℕ → List Piece → Step → Type 0
CallStep d = Bind (ArgsEnd (Expression d)) (λ es. Done (λ p a. Path (CallOf p a (arguments es))))

abbrev pub StepAfter : ℕ → PostfixHead → List Piece → Step → Type 0
StepAfter d DotHead = DotStep
StepAfter d IndexHead = Inside IndexStep d
StepAfter d CallHead = Inside CallStep d

abbrev pub AnyStep : ℕ → List Piece → Step → Type 0
AnyStep d = Take postfix_head (StepAfter d)

-- after the beginning a of a term that begins at p
abbrev pub ModifiedFrom : Place → ExprTree → ℕ → List Piece → ModifiedTree → Type 0
ModifiedFrom p a d = Bind (Again path_goes (AnyStep d) (stepped p) (Path a)) (λ r. Done (modified r))

-- Mod = Post "." "*" | Post "[" "*" "]" | Post
abbrev pub Modified : ℕ → List Piece → ModifiedTree → Type 0
Modified d = Here place_at (λ p. Bind (AtDepth Prim d) (λ a. ModifiedFrom p a d))

-- Mod { "," Mod }
abbrev pub Modifies : ℕ → List Piece → List ModifiedTree → Type 0
Modifies d = Bind (Modified d) (λ m. Many (the symbol.Comma) (λ _. Modified d) push_after (m ∷ []))

-- Clause = "requires" Expr ";" | "ensures" Expr ";" | "modifies" Mod { "," Mod } ";"
abbrev pub ClauseAfter : ℕ → ClauseHead → List Piece → ClauseTree → Type 0
ClauseAfter d RequiresFirst = Bind (Ended (Expression d)) (λ e. Done (RequiresOf e))
ClauseAfter d EnsuresFirst = Bind (Ended (Expression d)) (λ e. Done (EnsuresOf e))
ClauseAfter d ModifiesFirst = Bind (Ended (Modifies d)) (λ ms. Done (ModifiesOf ms))

-- { Clause }
abbrev pub Clauses : ℕ → List Piece → List ClauseTree → Type 0
Clauses d = Many clause_head (ClauseAfter d) push_after []

-- { Clause } Block
abbrev pub Specified : ℕ → List Piece → List ClauseTree × BlockTree → Type 0
Specified d = Bind (Clauses d) (λ cs. Bind (Block d) (λ b. Done (cs, b)))

-- ---- members

-- Decls ";", after the type and the first name
abbrev pub Fields : ℕ → TypeTree → NameTree → List Piece → MemberKindTree → Type 0
Fields d t n = Bind (Ended (AtDepth (λ o V. DeclsFrom o V n) d)) (λ cs. Done (FieldsOf (record { ty = t; declarators = cs })))

-- Method = ( "void" | Type ) Name "(" [ Params ] ")" { Clause } Block, after the name
abbrev pub Method : ℕ → Option TypeTree → NameTree → List Piece → MemberKindTree → Type 0
Method d t n = Bind (Parameters d) (λ ps. Bind (Specified d) (λ c. Done (MethodOf t n ps c.0 c.1)))

abbrev pub base_call : Place → List ExprTree → Option BaseCallTree
base_call p es = Some (record { place = p; arguments = es })

-- [ Args ] ")"
abbrev pub BaseEnd : Place → ℕ → List Piece → Option BaseCallTree → Type 0
BaseEnd p d = Bind (ArgsEnd (Expression d)) (λ es. Done (base_call p es))

-- [ ":" "base" "(" [ Args ] ")" ]
abbrev pub BaseCall : ℕ → List Piece → Option BaseCallTree → Type 0
BaseCall d = Maybe (the symbol.Colon) (λ _. Take (the_word word.Base) (λ p. Opening (the symbol.Open) (λ _. BaseEnd p) (base_call p []) d)) None

-- Ctor = Name "(" [ Params ] ")" [ ":" "base" "(" [ Args ] ")" ] { Clause } Block, after the name
abbrev pub Constructor : ℕ → NameTree → List Piece → MemberKindTree → Type 0
Constructor d n = Bind (Parameters d) (λ ps. Bind (BaseCall d) (λ b. Bind (Specified d) (λ c. Done (ConstructorOf n ps b c.0 c.1))))

-- after a type and a name
abbrev pub FieldsOrMethod : ℕ → TypeTree → NameTree → List Piece → MemberKindTree → Type 0
FieldsOrMethod d t n = Choose fields_follow (Fields d t n) (Method d (Some t) n)

-- after the first token of a type
abbrev pub Typed : ℕ → TypeHead → List Piece → MemberKindTree → Type 0
Typed d t = Bind (TypeFrom d t) (λ y. Bind AnyName (FieldsOrMethod d y))

-- Type Decls ";" | "invariant" Expr ";" | Method | Ctor
abbrev pub KindAfter : ℕ → MemberHead → List Piece → MemberKindTree → Type 0
KindAfter d InvariantFirst = Bind (Ended (Expression d)) (λ e. Done (InvariantOf e))
KindAfter d VoidFirst = Bind AnyName (Method d None)
KindAfter d (WordFirst t) = Typed d t
KindAfter d (NameFirst n) = Choose type_follows (Typed d (head_of n)) (Constructor d n)

abbrev pub MemberKind : ℕ → List Piece → MemberKindTree → Type 0
MemberKind d = Take member_head (KindAfter d)

abbrev pub join_word : List Modifier → Option Modifier → List Modifier
join_word ms None = ms
join_word ms (Some m) = ms ++ m ∷ []

-- { Access | "static" | "virtual" | "override" }
abbrev pub Words : List Piece → List Modifier → Type 0
Words = Again (λ _. is member_word) (Take member_word Done) join_word []

-- Member = { Attr } { Access | "static" | "virtual" | "override" } ( Type Decls ";" | "invariant" Expr ";" | Method | Ctor )
abbrev pub Member : ℕ → List Piece → MemberTree → Type 0
Member d = Bind (Attributes d) (λ xs. Bind Words (λ ms. Bind (MemberKind d) (λ k. Done (record { attributes = xs; modifiers = ms; kind = k }))))

-- ---- classes and programs

-- { Member } "}"
abbrev pub ClassEnd : NameTree → Option NameTree → ℕ → List Piece → ClassTree → Type 0
ClassEnd n a d = Bind (Again (λ _. begins_member) (Member d) push []) (λ ms. Take (the symbol.CloseBrace) (λ _. Done (record { name = n; above = a; members = ms })))

-- [ ":" Name ]
abbrev pub Above : List Piece → Option NameTree → Type 0
Above = Maybe (the symbol.Colon) (λ _. Bind AnyName (λ n. Done (Some n))) None

-- Name [ ":" Name ] "{" { Member } "}"
abbrev pub ClassNamed : ℕ → List Piece → ClassTree → Type 0
ClassNamed d = Bind AnyName (λ n. Bind Above (λ a. Opening (the symbol.OpenBrace) (λ _. ClassEnd n a) (record { name = n; above = a; members = [] }) d))

-- { Access }
abbrev pub Accesses : List Piece → Unit {0} → Type 0
Accesses = Again (λ _. is an_access) (Take an_access Done) (λ a _. a) tt

-- Class = { Access } "class" Name [ ":" Name ] "{" { Member } "}"
abbrev pub Class : ℕ → List Piece → ClassTree → Type 0
Class d = Bind Accesses (λ _. Take (the_word word.Class) (λ _. ClassNamed d))

-- a name that leaves no trace
abbrev pub SkippedName : List Piece → Unit {0} → Type 0
SkippedName = Take a_name (λ _. Done tt)

-- Name { "." Name } ";"
abbrev pub UsingEnd : List Piece → Unit {0} → Type 0
UsingEnd = Bind SkippedName (λ _. Bind (Many (the symbol.Dot) (λ _. SkippedName) dropped tt) (λ _. Take (the symbol.Semicolon) (λ _. Done tt)))

-- { "using" Name { "." Name } ";" }
abbrev pub Usings : List Piece → Unit {0} → Type 0
Usings = Many (the_word word.Using) (λ _. UsingEnd) dropped tt

-- { "using" Name { "." Name } ";" } { Class }
abbrev pub Declarations : ℕ → List Piece → List ClassTree → Type 0
Declarations d = Bind Usings (λ _. Again (λ _. begins_class) (Class d) push [])

-- Program = { "using" Name { "." Name } ";" } { Class }, and the end of the text
abbrev pub Program : ℕ → List Piece → ProgramTree → Type 0
Program d = Bind (Declarations d) (λ cs. Take the_end (λ p. Done (record { classes = cs; last = p })))
