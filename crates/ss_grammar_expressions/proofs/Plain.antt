-- A unary expression, told apart by its first tokens, is one of the plain productions.
use Rattle.std.proofs.Common.{◌≡◌, ℕ, zero, suc, List, [], ◌∷◌, Option, Some, None, Bool, true, false, refl, sym, subst, ◌⊎◌, inl, inr}
use Rattle.ss_core.specs.declared.names.Place.{Place}
use Rattle.ss_ast.specs.Expressions.{ExprTree}
use Rattle.ss_grammar.specs.Language.{After}
use Rattle.ss_grammar_expressions.specs.Heads.{Piece, Head, NegateHead, NotHead, OpenHead, Leaf, OldHead, NewHead, QuantifierHead, unary_head}
use Rattle.ss_grammar_expressions.specs.Grammar.{TheUnary, Parts, NoParts, AtLevel, Deeper, OtherParen, Paren, UnaryAfter, Unary}
use Rattle.ss_grammar_expressions.specs.Written.{Casted, SignedAfter, CastAfter, PathAfter, PlainUnary, PlainAt}
use Rattle.ss_grammar_expressions.proofs.Written.{cast_or_parentheses}

module _ (o : Bool) (V : Parts) (told : (p : Place) (ts : List Piece) (e : ExprTree) → Deeper o (Paren V p) ts e → Deeper o (Casted V p) ts e ⊎ Deeper o (OtherParen V p) ts e) where
  as_path : (u : Piece) (us : List Piece) (e : ExprTree) (h : Head) → unary_head u ≡ Some h → PathAfter o V h us e → PlainUnary o V (u ∷ us) e
  as_path u us e h k q = inr (inr (subst (λ (x : Option Head). After x (PathAfter o V) us e) (sym k) q))

  as_signed : (u : Piece) (us : List Piece) (e : ExprTree) (h : Head) → unary_head u ≡ Some h → SignedAfter o V h us e → PlainUnary o V (u ∷ us) e
  as_signed u us e h k q = inl (subst (λ (x : Option Head). After x (SignedAfter o V) us e) (sym k) q)

  as_cast : (u : Piece) (us : List Piece) (e : ExprTree) (h : Head) → unary_head u ≡ Some h → CastAfter o V h us e → PlainUnary o V (u ∷ us) e
  as_cast u us e h k q = inr (inl (subst (λ (x : Option Head). After x (CastAfter o V) us e) (sym k) q))

  by_head : (u : Piece) (us : List Piece) (e : ExprTree) (h : Head) → unary_head u ≡ Some h → UnaryAfter o V h us e → PlainUnary o V (u ∷ us) e
  by_head u us e (NegateHead p) k q = as_signed u us e (NegateHead p) k q
  by_head u us e (NotHead p) k q = as_signed u us e (NotHead p) k q
  by_head u us e (OpenHead p) k q = at (told p us e q)
    where
      at : Deeper o (Casted V p) us e ⊎ Deeper o (OtherParen V p) us e → PlainUnary o V (u ∷ us) e
      at (inl r) = as_cast u us e (OpenHead p) k r
      at (inr r) = as_path u us e (OpenHead p) k r
  by_head u us e (Leaf p v) k q = as_path u us e (Leaf p v) k q
  by_head u us e (OldHead p) k q = as_path u us e (OldHead p) k q
  by_head u us e (NewHead p) k q = as_path u us e (NewHead p) k q
  by_head u us e (QuantifierHead p r) k q = as_path u us e (QuantifierHead p r) k q

  one_of_three : (ts : List Piece) (e : ExprTree) → Unary o V ts e → PlainUnary o V ts e
  one_of_three [] e q = absurd q
  one_of_three (u ∷ us) e q = at (unary_head u) refl q
    where
      at : (x : Option Head) → unary_head u ≡ x → After x (UnaryAfter o V) us e → PlainUnary o V (u ∷ us) e
      at None k r = absurd r
      at (Some h) k r = by_head u us e h k r

pub unary_is_plain : (d : ℕ) (ts : List Piece) (e : ExprTree) → AtLevel d TheUnary ts e → PlainAt d ts e
unary_is_plain zero ts e q = one_of_three false NoParts (λ p us x r. absurd r) ts e q
unary_is_plain (suc d) ts e q = one_of_three true (AtLevel d) (cast_or_parentheses d) ts e q
