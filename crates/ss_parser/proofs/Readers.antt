-- What a reader of statements reads one level deeper.
use Rattle.std.proofs.Common.{◌≡◌, ℕ, zero, suc, ◌-◌, ◌<◌, List, refl, ◌∙◌, subst, arith}
use Rattle.ss_grammar_expressions.specs.Heads.{Piece}
use Rattle.ss_grammar_expressions.specs.Parser.{below}
use Rattle.ss_grammar_statements.specs.Grammar.{Nest}
use Rattle.ss_grammar_statements.specs.Parser.{nested, nested_below, nested_production}

-- each part is read by its production
pub reading_is : (d : ℕ) (i : Nest) (ts : List Piece) → nested d i ts ≡ nested_production d (below d) (nested_below d) i ts
unfolding nested nested_below below
reading_is zero i ts = refl
reading_is (suc d) i ts = refl

below_is : (d : ℕ) (i : Nest) (ts : List Piece) → nested_below (suc d) i ts ≡ nested d i ts
unfolding nested_below
below_is d i ts = refl

pub nested_is : (d : ℕ) (i : Nest) (ts : List Piece) → 0 < d → nested_below d i ts ≡ nested_production (d - 1) (below (d - 1)) (nested_below (d - 1)) i ts
nested_is zero i ts lt = absurd (omega arith)
nested_is (suc d) i ts lt = let e : d ≡ suc d - 1 = omega arith in subst (λ n. nested_below (suc d) i ts ≡ nested_production n (below n) (nested_below n) i ts) e (below_is d i ts ∙ reading_is d i ts)
