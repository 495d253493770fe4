-- The kinds of members as plain productions beside each other.
use Rattle.std.specs.Prelude.{ℕ, List, Some, None}
use Rattle.ss_ast.specs.declared.token.Word.TheVariants as word
use Rattle.ss_ast.specs.Programs.{MemberKindTree, InvariantOf}
use Rattle.ss_grammar.specs.Language.{Done, Take, Bind}
use Rattle.ss_grammar_expressions.specs.Heads.{Piece, the_word}
use Rattle.ss_grammar_expressions.specs.Grammar.{Expression, AnyName}
use Rattle.ss_grammar_statements.specs.Grammar.{Ended}
use Rattle.ss_grammar_programs.specs.Grammar.{FullType, Fields, Method, Constructor}

-- Type Decls ";"
abbrev pub IsFields : ℕ → List Piece → MemberKindTree → Type 0
IsFields d = Bind (FullType d) (λ t. Bind AnyName (Fields d t))

-- "invariant" Expr ";"
abbrev pub IsInvariant : ℕ → List Piece → MemberKindTree → Type 0
IsInvariant d = Take (the_word word.Invariant) (λ _. Bind (Ended (Expression d)) (λ e. Done (InvariantOf e)))

-- "void" Name "(" [ Params ] ")" { Clause } Block
abbrev pub IsVoidMethod : ℕ → List Piece → MemberKindTree → Type 0
IsVoidMethod d = Take (the_word word.Void) (λ _. Bind AnyName (Method d None))

-- Type Name "(" [ Params ] ")" { Clause } Block
abbrev pub IsTypedMethod : ℕ → List Piece → MemberKindTree → Type 0
IsTypedMethod d = Bind (FullType d) (λ t. Bind AnyName (Method d (Some t)))

-- Ctor
abbrev pub IsConstructor : ℕ → List Piece → MemberKindTree → Type 0
IsConstructor d = Bind AnyName (Constructor d)

-- Type Decls ";" | "invariant" Expr ";" | Method | Ctor
pub data Plainly : ℕ → List Piece → MemberKindTree → Type 0 where
  fields : {d : ℕ} {ts : List Piece} {k : MemberKindTree} → IsFields d ts k → Plainly d ts k
  invariant : {d : ℕ} {ts : List Piece} {k : MemberKindTree} → IsInvariant d ts k → Plainly d ts k
  void_method : {d : ℕ} {ts : List Piece} {k : MemberKindTree} → IsVoidMethod d ts k → Plainly d ts k
  typed_method : {d : ℕ} {ts : List Piece} {k : MemberKindTree} → IsTypedMethod d ts k → Plainly d ts k
  constructor : {d : ℕ} {ts : List Piece} {k : MemberKindTree} → IsConstructor d ts k → Plainly d ts k
