-- A value, and the symbol after it.
use Rattle.std.proofs.Common.{◌≡◌, List, [], ◌∷◌, Option, Some, None, Result, Ok, Err, refl, ap}
use Rattle.ss_ast.specs.declared.token.Symbol.{Symbol}
use Rattle.ss_grammar.specs.declared.fault.Fault.{Fault}
use Rattle.ss_grammar.specs.declared.fault.Fault.TheVariants.{Expected}
use Rattle.ss_grammar.specs.Reading.{◌>>=◌, take, after}
use Rattle.ss_grammar_expressions.specs.Heads.{Piece, the}
use Rattle.ss_grammar_expressions.specs.Parser.{Gets, give}
use Rattle.ss_grammar_statements.specs.Parser.{some_of}

abbrev behind : {B : Type 0} → Result (B × List Piece) (Fault × List Piece) → List Piece
behind (Ok x) = x.1
behind (Err e) = []

-- a token that is there, whatever is given after it
pub taken : {A B : Type 0} (f : Piece → Option B) (v : A) (ts : List Piece) (b : B) (rest : List Piece) → take f give ts ≡ Ok (b, rest) → take f (λ _. give v) ts ≡ Ok (v, rest)
taken f v [] b rest e = absurd cc
taken {A} {B} f v (t ∷ ts) b rest e = at (f t) e
  where
    at : (o : Option B) → after o give (Err (Expected, t ∷ ts)) ts ≡ Ok (b, rest) → after o (λ _. give v) (Err (Expected, t ∷ ts)) ts ≡ Ok (v, rest)
    at None e = absurd cc
    at (Some x) e = ap (λ (r : Result (B × List Piece) (Fault × List Piece)). Ok (v, behind r)) e

pub some_of_is : {A : Type 0} (s : Symbol) (l : Gets A) (ts : List Piece) → some_of s l ts ≡ (l ts >>= λ a. take (the s) (λ _. give (Some a.0)) a.1)
unfolding some_of
some_of_is s l ts = refl
