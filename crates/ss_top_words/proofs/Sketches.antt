-- Whether words ask for something shows in a sketch of them.
use Rattle.std.proofs.Common.{ℕ, ℤ, ◌≡◌, ◌≤◌, ◌+◌, ◌-◌, ◌⊎◌, inl, inr, ⊎_elim, List, [], ◌∷◌, ◌++◌, Bool, true, false, ◌==◌, ◌&&◌, nat_le, if◌then◌else◌, Option, Some, None, is_some, map, length, drop, String, string_bytes, slice_index_or, refl, sym, ap, ◌∙◌, subst, arith}
use Rattle.std.specs.List.{list_all}
use Rattle.std.specs.declared.alloc.Global.{Global}
use Rattle.std.proofs.lemmas.Grind.{common_steps}
use Rattle.ss_top_words.specs.declared.Command.{Command}
use Rattle.ss_top_words.specs.declared.Command.TheVariants as command
use Rattle.ss_top_words.specs.declared.sketch.Sketch.{Sketch}
use Rattle.ss_top_words.specs.Numbers.{whole}
use Rattle.ss_top_words.specs.Words.{Reading, Asked, read, read_all, and_number, numbers_after, most_numbers, with_input, takes, of_file, of_run, asked_by, complete}
use Rattle.ss_top_words.specs.Views.{options_of, is_number, IsSketchOf, AsksFor}

no_reading : (words : List (List ℕ)) → read_all None words ≡ None
no_reading [] = refl
no_reading (word ∷ words) = no_reading words

-- after a word that can't stand there nothing is read
pub unsketched : (r : Reading) (rest : List (String Global)) (word : String Global) → word ≡ slice_index_or rest 0 word → 1 ≤ length rest → read r (string_bytes word) ≡ None → read_all (Some r) (map string_bytes rest) ≡ None
unsketched r [] word e l h = absurd (omega (arith, l))
unsketched r (x ∷ rest) word e l h = ap (λ o. read_all o (map string_bytes rest)) (ap (λ w. read r (string_bytes w)) (sym e) ∙ h) ∙ no_reading (map string_bytes rest)

-- ---- a file alone

some_where : {A : Type 0} (b : Bool) (a : A) → is_some (if b then Some a else None) ≡ b
some_where true a = refl
some_where false a = refl

file_alone : (c : Command) (r : Reading) (words : List (List ℕ)) → is_some (of_file c r words) ≡ (length words == 1 && takes c r.options)
file_alone c r [] = refl
file_alone c r (file ∷ []) = some_where (takes c r.options) _
file_alone c r (file ∷ word ∷ words) = grind (arith, common_steps)

-- ---- a file with numbers

-- the words are numbers, so many more; or one is none
abbrev Counted : List ℤ → List (List ℕ) → Option (List ℤ) → Type 0
Counted ns words found = ((list_all is_number words ≡ true) × ((ms : List ℤ) × (found ≡ Some ms) × (length ms ≡ length ns + length words))) ⊎ ((list_all is_number words ≡ false) × (found ≡ None))

no_numbers : (words : List (List ℕ)) → numbers_after None words ≡ None
no_numbers [] = refl
no_numbers (word ∷ words) = no_numbers words

counted_next : (word : List ℕ) (words : List (List ℕ)) (others : (ms : List ℤ) → Counted ms words (numbers_after (Some ms) words)) (ns : List ℤ) (n : Option ℤ) → whole word ≡ n →
    Counted ns (word ∷ words) (numbers_after (and_number (Some ns) n) words)
counted_next word words others ns None e = inr (ap (λ o. is_some o && list_all is_number words) e, no_numbers words)
counted_next word words others ns (Some n) e =
    let first : list_all is_number (word ∷ words) ≡ list_all is_number words = ap (λ o. is_some o && list_all is_number words) e in
    ⊎_elim
    (λ all. inl (first ∙ all.0, ((all.1).0, (all.1).1, (all.1).2 ∙ grind (arith, common_steps))))
    (λ one. inr (first ∙ one.0, one.1))
    (others (ns ++ n ∷ []))

counted : (words : List (List ℕ)) (ns : List ℤ) → Counted ns words (numbers_after (Some ns) words)
counted [] ns = inl (refl, (ns, refl, omega arith))
counted (word ∷ words) ns = counted_next word words (counted words) ns (whole word) refl

input_found : (r : Reading) (file : List ℕ) (words : List (List ℕ)) (found : Option (List ℤ)) → Counted [] words found → is_some (with_input r file found) ≡ (nat_le (length words) most_numbers && list_all is_number words)
input_found r file words found h = ⊎_elim
    (λ all. let ms = (all.1).0 in let same : length ms ≡ length words = (all.1).2 ∙ omega arith in
    ap (λ o. is_some (with_input r file o)) (all.1).1 ∙ some_where (nat_le (length ms) most_numbers) _ ∙ ap (λ n. nat_le n most_numbers) same ∙ and_is_true (nat_le (length words) most_numbers) (list_all is_number words) all.0)
    (λ one. ap (λ o. is_some (with_input r file o)) one.1 ∙ and_is_false (nat_le (length words) most_numbers) (list_all is_number words) one.0)
    h
  where
    and_is_true : (a b : Bool) → b ≡ true → a ≡ (a && b)
    and_is_true true b e = sym e
    and_is_true false b e = refl

    and_is_false : (a b : Bool) → b ≡ false → false ≡ (a && b)
    and_is_false true b e = sym e
    and_is_false false b e = refl

file_with_input : (r : Reading) (words : List (List ℕ)) → is_some (of_run r words) ≡ (nat_le 1 (length words) && (nat_le (length words - 1) most_numbers && list_all is_number (drop 1 words)))
file_with_input r [] = refl
file_with_input r (file ∷ words) = input_found r file words (numbers_after (Some []) words) (counted words []) ∙ grind (arith, common_steps)

-- ---- by the command

nothing_where : (wants : Bool) (o : Option Asked) → wants ≡ true → false ≡ is_some (if wants then None else o)
nothing_where true o e = refl
nothing_where false o e = absurd (cc)

pub asks_nothing : (c : Command) (s : Sketch) (r : Reading) → IsSketchOf s r → is_some s.options.wants ≡ true → AsksFor c r false
asks_nothing c s r is e = nothing_where (is_some r.options.wants) (asked_by c r) (ap (λ o. is_some o.wants) (sym is.options) ∙ e)

asks_of : (r : Reading) (o : Option Asked) (b : Bool) → is_some r.options.wants ≡ false → is_some o ≡ b → b ≡ is_some (if is_some r.options.wants then None else o)
asks_of r o b e h = sym h ∙ ap (λ w. is_some (if w then None else o)) (sym e)

not_wanting : (s : Sketch) (r : Reading) → IsSketchOf s r → is_some s.options.wants ≡ false → is_some r.options.wants ≡ false
not_wanting s r is e = ap (λ o. is_some o.wants) (sym is.options) ∙ e

-- a sketch says what its reading says
sketched_alone : (c : Command) (s : Sketch) (r : Reading) → IsSketchOf s r → (length r.positional == 1 && takes c r.options) ≡ (s.count == 1 && takes c (options_of s.options))
sketched_alone c s r is = ap (λ n. n == 1 && takes c r.options) (sym is.count) ∙ ap (λ o. s.count == 1 && takes c o) (sym is.options)

sketched_input : (s : Sketch) (r : Reading) → IsSketchOf s r → (nat_le 1 (length r.positional) && (nat_le (length r.positional - 1) most_numbers && list_all is_number (drop 1 r.positional))) ≡ (nat_le 1 s.count && (nat_le (s.count - 1) most_numbers && s.numbers))
sketched_input s r is = ap (λ n. nat_le 1 n && (nat_le (n - 1) most_numbers && list_all is_number (drop 1 r.positional))) (sym is.count) ∙ ap (λ b. nat_le 1 s.count && (nat_le (s.count - 1) most_numbers && b)) (sym is.numbers)

pub asks_file : (c : Command) (s : Sketch) (r : Reading) → asked_by c r ≡ of_file c r r.positional → IsSketchOf s r → is_some s.options.wants ≡ false → AsksFor c r (s.count == 1 && takes c (options_of s.options))
asks_file c s r by is e = asks_of r (asked_by c r) _ (not_wanting s r is e) (ap is_some by ∙ file_alone c r r.positional ∙ sketched_alone c s r is)

pub asks_run : (c : Command) (s : Sketch) (r : Reading) → asked_by c r ≡ of_run r r.positional → IsSketchOf s r → is_some s.options.wants ≡ false → AsksFor c r (nat_le 1 s.count && (nat_le (s.count - 1) most_numbers && s.numbers))
asks_run c s r by is e = asks_of r (asked_by c r) _ (not_wanting s r is e) (ap is_some by ∙ file_with_input r r.positional ∙ sketched_input s r is)
