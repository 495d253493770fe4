-- Sets as functions, and lists that say a function at each number.
use Rattle.std.specs.Prelude.{ℕ, zero, suc, List, [], ◌∷◌, ◌++◌, slice_index_or, not, nat_lt, ◌==◌, ◌&&◌, ◌||◌, if◌then◌else◌, option_map}
use Rattle.ss_store_rules.specs.NonNull.{Facts}
use Rattle.ss_vcgen_known.specs.Pairs.{Pair}

-- the facts without the local
abbrev pub without : ℕ → Facts → Facts
without x f y = f y && not (x == y)

abbrev pub pair_without : ℕ → Pair → Pair
pair_without x p = record { holds = option_map (without x) p.holds; fails = option_map (without x) p.fails }

-- below n the numbers of both sets, and from there on those of the first
unfoldable pub joined_below : ℕ → Facts → Facts → Facts
joined_below n f g x = if nat_lt x n then f x || g x else f x

-- the values of a function below n
abbrev pub below : {X : Type 0} → (ℕ → X) → ℕ → List X
below f zero = []
below f (suc n) = below f n ++ f n ∷ []

-- the element at each number; past the end it is the last argument
unfoldable pub at : {X : Type 0} → List X → X → ℕ → X
at xs d x = slice_index_or xs x d
