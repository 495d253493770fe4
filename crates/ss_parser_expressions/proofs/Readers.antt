-- What a reader reads one level deeper.
use Rattle.std.proofs.Common.{◌≡◌, ℕ, zero, suc, ◌-◌, ◌<◌, List, refl, ◌∙◌, subst, arith}
use Rattle.ss_grammar_expressions.specs.Heads.{Piece}
use Rattle.ss_grammar_expressions.specs.Grammar.{Part}
use Rattle.ss_grammar_expressions.specs.Parser.{below, reading, production}

-- each part is read by its production
pub reading_is : (d : ℕ) (i : Part) (ts : List Piece) → reading d i ts ≡ production d (below d) i ts
unfolding reading below
reading_is zero i ts = refl
reading_is (suc d) i ts = refl

below_is : (d : ℕ) (i : Part) (ts : List Piece) → below (suc d) i ts ≡ reading d i ts
unfolding below
below_is d i ts = refl

pub inner_is : (d : ℕ) (i : Part) (ts : List Piece) → 0 < d → below d i ts ≡ production (d - 1) (below (d - 1)) i ts
inner_is zero i ts lt = absurd (omega arith)
inner_is (suc d) i ts lt = let e : d ≡ suc d - 1 = omega arith in subst (λ n. below (suc d) i ts ≡ production n (below n) i ts) e (below_is d i ts ∙ reading_is d i ts)
