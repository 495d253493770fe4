-- What is after a word doesn't mend it.
use Rattle.std.proofs.Common.{ℕ, ◌≡◌, ◌≤◌, ◌+◌, ◌-◌, ◌*◌, List, [], ◌∷◌, Bool, true, false, Some, None, map, length, String, string_bytes, slice_index_or, refl, ap, ◌∙◌, subst, arith}
use Rattle.std.specs.declared.alloc.Global.{Global}
use Rattle.ss_top_words.specs.Numbers.{number_after}
use Rattle.ss_top_words.specs.Words.{Reading, read, read_all, numbers_after}
use Rattle.ss_top_words.specs.Views.{IsRead}

-- more digits make no smaller number
pub number_after_le : (n : ℕ) (bs : List ℕ) → n ≤ number_after n bs
number_after_le n [] = omega arith
number_after_le n (b ∷ bs) = omega (arith, number_after_le (n * 10 + (b - 48)) bs)

pub no_numbers : (words : List (List ℕ)) → numbers_after None words ≡ None
no_numbers [] = refl
no_numbers (word ∷ words) = no_numbers words

no_reading : (words : List (List ℕ)) → read_all None words ≡ None
no_reading [] = refl
no_reading (word ∷ words) = no_reading words

unread : (is_read : Bool) (now r : Reading) (word : List ℕ) (words : List (List ℕ)) → is_read ≡ false → IsRead is_read now (read r word) → read_all (Some r) (word ∷ words) ≡ None
unread true now r word words e h = absurd (cc)
unread false now r word words e h = ap (λ o. read_all o words) h ∙ no_reading words

-- nothing is read where the first word can't be
pub unread_first : (is_read : Bool) (now r : Reading) (rest : List (String Global)) (word : String Global) → word ≡ slice_index_or rest 0 word → 1 ≤ length rest → is_read ≡ false → IsRead is_read now (read r (string_bytes word))
    → read_all (Some r) (map string_bytes rest) ≡ None
unread_first b now r [] word e l n h = absurd (omega (arith, l))
unread_first b now r (x ∷ rest) word e l n h = unread b now r (string_bytes x) (map string_bytes rest) n (subst (λ w. IsRead b now (read r (string_bytes w))) e h)
