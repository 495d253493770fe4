-- Constants with rising numbers.
use Rattle.std.specs.Prelude.{ℕ, List, [], ◌∷◌, Bool, true, false, ◌&&◌, Option, Some, None, nat_lt}
use Rattle.ss_logic.specs.declared.Sort.{Sort}
use Rattle.ss_logic.specs.Terms.{Term}
use Rattle.ss_terms_puts.specs.Entries.{constant_of}

-- it is a constant with a number above this one
abbrev pub is_above : ℕ → Option (Sort × ℕ) → Bool
is_above n None = false
is_above n (Some c) = nat_lt n c.1

abbrev pub number_in : Option (Sort × ℕ) → ℕ
number_in None = 0
number_in (Some c) = c.1

-- constants of which each has a number above the one before, and the first a number above this one
abbrev pub are_rising : ℕ → List Term → Bool
are_rising n [] = true
are_rising n (t ∷ ts) = is_above n (constant_of t) && are_rising (number_in (constant_of t)) ts
