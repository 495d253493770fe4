-- Numbers in words: one to ten decimal digits.
use Rattle.std.specs.Prelude.{ℕ, ℤ, pos, neg_ℤ, ◌+◌, ◌-◌, ◌*◌, ◌^◌, nat_le, List, [], ◌∷◌, length, Bool, ◌==◌, ◌&&◌, if◌then◌else◌, Option, Some, None}
use Rattle.std.specs.List.{list_all}

abbrev pub is_digit : ℕ → Bool
is_digit b = nat_le 48 b && nat_le b 57

-- the number of these digits after this one
abbrev pub number_after : ℕ → List ℕ → ℕ
number_after n [] = n
number_after n (b ∷ bs) = number_after (n * 10 + (b - 48)) bs

abbrev pub within : ℕ → ℕ → Option ℕ
within limit n = if nat_le n limit then Some n else None

-- the number of one to ten digits, where it is at most the limit
abbrev pub natural : ℕ → List ℕ → Option ℕ
natural limit bytes = if nat_le 1 (length bytes) && nat_le (length bytes) 10 && list_all is_digit bytes then within limit (number_after 0 bytes) else None

abbrev pub negated : Option ℕ → Option ℤ
negated None = None
negated (Some n) = Some (neg_ℤ (pos n))

abbrev pub positive : Option ℕ → Option ℤ
positive None = None
positive (Some n) = Some (pos n)

-- a number of an input: digits, or a `-` and digits, within 32 bits
abbrev pub whole : List ℕ → Option ℤ
whole [] = None
whole (b ∷ bytes) = if b == 45 then negated (natural (2 ^ 31) bytes) else positive (natural (2 ^ 31 - 1) (b ∷ bytes))
