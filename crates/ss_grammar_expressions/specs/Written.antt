-- Unary expressions, and what stands after a `(`, as plain productions beside each other.
use Rattle.std.specs.Prelude.{ℕ, zero, suc, Bool, true, false, List, ◌⊎◌}
use Rattle.ss_core.specs.declared.names.Place.{Place}
use Rattle.ss_ast.specs.declared.token.Symbol.TheVariants as symbol
use Rattle.ss_ast.specs.Expressions.{TypeTree, ExprTree, NotOf}
use Rattle.ss_grammar.specs.Language.{Done, Take, Bind}
use Rattle.ss_grammar_expressions.specs.First.{Nothing}
use Rattle.ss_grammar_expressions.specs.Heads.{Piece, the, type_head, Head, NegateHead, NotHead, OpenHead, Leaf, OldHead, NewHead, QuantifierHead, unary_head}
use Rattle.ss_grammar_expressions.specs.Grammar.{TheUnary, TheTypeEnd, Parts, NoParts, AtLevel, Deeper, Postfixes, Old, New, Quantified, CastOnly, OtherParen, Negated}

-- Type = ( "int" | "bool" | "object" | Name ) [ "[" "]" ] [ "!" ], one level deeper
abbrev pub InnerType : Parts → List Piece → TypeTree → Type 0
InnerType V = Take type_head (λ t. V (TheTypeEnd t))

-- Type ")" Unary, where the operand begins as that of a cast may
abbrev pub Casted : Parts → Place → List Piece → ExprTree → Type 0
Casted V p = Bind (InnerType V) (λ t. Take (the symbol.Close) (λ _. CastOnly V p t))

-- ( "-" | "!" ) Unary, where `-` and the least number are one literal
abbrev pub SignedAfter : Bool → Parts → Head → List Piece → ExprTree → Type 0
SignedAfter o V (NegateHead p) = Deeper o (Negated V p)
SignedAfter o V (NotHead p) = Deeper o (Bind (V TheUnary) (λ e. Done (NotOf p e)))
SignedAfter o V _ = Nothing

-- "(" Type ")" Unary
abbrev pub CastAfter : Bool → Parts → Head → List Piece → ExprTree → Type 0
CastAfter o V (OpenHead p) = Deeper o (Casted V p)
CastAfter o V _ = Nothing

-- Post = Prim { "." Name | "[" Expr "]" | "(" [ Args ] ")" }
abbrev pub PathAfter : Bool → Parts → Head → List Piece → ExprTree → Type 0
PathAfter o V (OpenHead p) = Deeper o (OtherParen V p)
PathAfter o V (Leaf p v) = Postfixes o V p v
PathAfter o V (OldHead p) = Bind (Old o V p) (Postfixes o V p)
PathAfter o V (NewHead p) = Bind (New o V p) (Postfixes o V p)
PathAfter o V (QuantifierHead p q) = Bind (Quantified o V p q) (Postfixes o V p)
PathAfter o V _ = Nothing

-- Unary = ( "-" | "!" ) Unary | "(" Type ")" Unary | Post
abbrev pub PlainUnary : Bool → Parts → List Piece → ExprTree → Type 0
PlainUnary o V ts e = Take unary_head (SignedAfter o V) ts e ⊎ (Take unary_head (CastAfter o V) ts e ⊎ Take unary_head (PathAfter o V) ts e)

-- the same at level d
abbrev pub PlainAt : ℕ → List Piece → ExprTree → Type 0
PlainAt zero = PlainUnary false NoParts
PlainAt (suc d) = PlainUnary true (AtLevel d)
