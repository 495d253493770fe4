-- The terms of a `modifies` clause as plain productions beside each other.
use Rattle.std.specs.Prelude.{ℕ, zero, suc, true, false, List}
use Rattle.ss_core.specs.declared.names.Place.{Place}
use Rattle.ss_ast.specs.declared.token.Symbol.TheVariants as symbol
use Rattle.ss_ast.specs.Expressions.{ExprTree}
use Rattle.ss_ast.specs.Programs.{ModifiedTree, AllOf, ElementsOf, OneOf}
use Rattle.ss_grammar.specs.Language.{Done, Take, Bind, Inside}
use Rattle.ss_grammar_expressions.specs.First.{Here}
use Rattle.ss_grammar_expressions.specs.Heads.{Piece, place_at, the}
use Rattle.ss_grammar_expressions.specs.Grammar.{NoParts, AtLevel, Postfixes}
use Rattle.ss_grammar_statements.specs.Grammar.{Prim}
use Rattle.ss_grammar_programs.specs.Grammar.{AtDepth}

-- { "." Name | "[" Expr "]" | "(" [ Args ] ")" }, after the beginning a of a path that begins at p
abbrev pub PostfixesAt : ℕ → Place → ExprTree → List Piece → ExprTree → Type 0
PostfixesAt zero p a = Postfixes false NoParts p a
PostfixesAt (suc d) p a = Postfixes true (AtLevel d) p a

-- ".", "*"
abbrev pub AllAfter : ExprTree → List Piece → ModifiedTree → Type 0
AllAfter a = Take (the symbol.Dot) (λ _. Take (the symbol.Star) (λ _. Done (AllOf a)))

-- "[", "*", "]"
abbrev pub ElementsAfter : ℕ → ExprTree → List Piece → ModifiedTree → Type 0
ElementsAfter d a = Take (the symbol.OpenBracket) (λ _. Inside (λ _. Take (the symbol.Star) (λ _. Take (the symbol.CloseBracket) (λ _. Done (ElementsOf a)))) d)

-- a path, which is a primary expression and its postfixes, and then K
abbrev pub PathThen : ℕ → (ExprTree → List Piece → ModifiedTree → Type 0) → List Piece → ModifiedTree → Type 0
PathThen d K = Here place_at (λ p. Bind (AtDepth Prim d) (λ a. Bind (PostfixesAt d p a) K))

-- Mod = Post "." "*" | Post "[" "*" "]" | Post
pub data Term : ℕ → List Piece → ModifiedTree → Type 0 where
  all : {d : ℕ} {ts : List Piece} {m : ModifiedTree} → PathThen d AllAfter ts m → Term d ts m
  elements : {d : ℕ} {ts : List Piece} {m : ModifiedTree} → PathThen d (ElementsAfter d) ts m → Term d ts m
  one : {d : ℕ} {ts : List Piece} {m : ModifiedTree} → PathThen d (λ a. Done (OneOf a)) ts m → Term d ts m
