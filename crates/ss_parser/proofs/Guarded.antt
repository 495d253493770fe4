-- A loop reads its invariants and its body as one part.
use Rattle.std.proofs.Common.{◌≡◌, ℕ, List, Result, Ok, Err, refl}
use Rattle.ss_core.specs.declared.names.Place.{Place}
use Rattle.ss_ast.specs.Expressions.{ExprTree}
use Rattle.ss_ast.specs.Statements.{StmtTree, WhileOf, ForOf}
use Rattle.ss_grammar.specs.declared.fault.Fault.{Fault}
use Rattle.ss_grammar.specs.Reading.{◌>>=◌}
use Rattle.ss_grammar_expressions.specs.Heads.{Piece}
use Rattle.ss_grammar_expressions.specs.Parser.{Gets, Inner}
use Rattle.ss_grammar_statements.specs.Grammar.{HeadingTree}
use Rattle.ss_grammar_statements.specs.Parser.{Nesting, invariants, governed, while_body, for_body}
use Rattle.ss_parser.specs.Loops.{guarded}

-- the value a and that of r
abbrev with_second : {A B : Type 0} → A → Result (B × List Piece) (Fault × List Piece) → Result ((A × B) × List Piece) (Fault × List Piece)
with_second a r = r >>= λ b. Ok ((a, b.0), b.1)

-- two parts and then a value of both
joined : {A B C : Type 0} (r : Result (A × List Piece) (Fault × List Piece)) (g : Gets B) (f : A → B → C) → (r >>= λ a. g a.1 >>= λ b. Ok (f a.0 b.0, b.1)) ≡ ((r >>= λ a. with_second a.0 (g a.1)) >>= λ x. Ok (f x.0.0 x.0.1, x.1))
joined (Err e) g f = refl
joined {A} {B} {C} (Ok a) g f = at (g a.1)
  where
    at : (r : Result (B × List Piece) (Fault × List Piece)) → (r >>= λ b. Ok (f a.0 b.0, b.1)) ≡ (with_second a.0 r >>= λ x. Ok (f x.0.0 x.0.1, x.1))
    at (Err e) = refl
    at (Ok b) = refl

module _ (d : ℕ) (w : Inner) (s : Nesting) where
  pub while_guarded : (p : Place) (e : ExprTree) (ts : List Piece) → while_body d w s p e ts ≡ (guarded d w s ts >>= λ b. Ok (WhileOf p e b.0.0 b.0.1, b.1))
  unfolding while_body guarded
  while_guarded p e ts = joined (invariants d w s ts) (governed d w s) (λ is a. WhileOf p e is a)

  pub for_guarded : (p : Place) (h : HeadingTree) (ts : List Piece) → for_body d w s p h ts ≡ (guarded d w s ts >>= λ b. Ok (ForOf p h.first h.test h.step b.0.0 b.0.1, b.1))
  unfolding for_body guarded
  for_guarded p h ts = joined (invariants d w s ts) (governed d w s) (λ is a. ForOf p h.first h.test h.step is a)
