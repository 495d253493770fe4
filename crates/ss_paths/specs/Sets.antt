-- Sets of numbers.
use Rattle.std.specs.Prelude.{ℕ, ◌==◌, List, [], ◌∷◌, Bool, false, not, ◌&&◌, ◌||◌, if◌then◌else◌}

abbrev pub Set : Type 0
Set = ℕ → Bool

unfoldable pub none : Set
none x = false

unfoldable pub only : ℕ → Set
only x y = x == y

unfoldable pub either : Set → Set → Set
either f g x = f x || g x

unfoldable pub both : Set → Set → Set
both f g x = f x && g x

unfoldable pub without : Set → Set → Set
without f g x = f x && not (g x)

-- with the number or without it
unfoldable pub put : ℕ → Bool → Set → Set
put x is_in f y = if x == y then is_in else f y

-- the numbers of a list
abbrev pub among : List ℕ → Set
among [] = none
among (x ∷ xs) = either (only x) (among xs)
