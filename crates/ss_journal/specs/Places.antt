-- Where the entries of objects are.
use Rattle.std.specs.Prelude.{◌≡◌, ℕ, zero, suc, List, [], ◌∷◌, length, get_or, Bool, false, ◌==◌, if◌then◌else◌, Option, Some, None, slice_get, option_map}

-- the place of the first that is q
abbrev pub place_of : List ℕ → ℕ → Option ℕ
place_of [] q = None
place_of (x ∷ xs) q = if q == x then Some 0 else option_map suc (place_of xs q)

abbrev pub is_of : Option ℕ → ℕ → Bool
is_of None q = false
is_of (Some x) q = q == x

-- what is at the place
abbrev pub at_place : {X : Type 0} → List X → Option ℕ → Option X
at_place xs None = None
at_place xs (Some i) = slice_get xs i

-- one more than the place of the last q among the first k, and 0 where there is none
abbrev pub newest : List ℕ → ℕ → ℕ → ℕ
newest xs q zero = 0
newest xs q (suc k) = if is_of (slice_get xs k) q then suc k else newest xs q k

-- Each entry knows the one before of its object, and each object knows its last one.
pub record AreLinked (positions before lasts : List ℕ) : Type 0 where
  pub lengths : length before ≡ length positions
  pub earlier : (i q : ℕ) → slice_get positions i ≡ Some q → get_or before i 0 ≡ newest positions q i
  pub last : (q : ℕ) → get_or lasts q 0 ≡ newest positions q (length positions)
