-- Numbers, UTF-8, and what the form of a text says of it.
use Rattle.std.proofs.Common.{ℕ, ◌≡◌, ◌≤◌, ◌+◌, ◌-◌, ◌*◌, List, [], ◌∷◌, length, IsUtf8, arith}
use Rattle.std.specs.Str.Lossy.{utf8_valid_len}
use Rattle.std.proofs.lemmas.Str.{utf8_valid_len-IsUtf8, utf8_valid_len_le}
use Rattle.ss_lexer.specs.Lexemes.{decimal_from}

-- UTF-8 is so to its end
pub utf8_whole : (bs : List ℕ) → IsUtf8 bs → length bs ≡ utf8_valid_len bs
utf8_whole bs h = omega (arith, utf8_valid_len-IsUtf8 bs h)

pub utf8_within : (bs : List ℕ) → utf8_valid_len bs ≤ length bs
utf8_within bs = utf8_valid_len_le bs

-- more digits make no smaller number
pub decimal_from_le : (n : ℕ) (ds : List ℕ) → n ≤ decimal_from n ds
decimal_from_le n [] = omega arith
decimal_from_le n (d ∷ ds) = omega (arith, decimal_from_le (10 * n + (d - 48)) ds)
