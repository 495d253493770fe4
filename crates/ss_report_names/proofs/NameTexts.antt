-- The texts of a body's own locals, and of bound names after them.
use Rattle.std.proofs.Common.{◌≡◌, ℕ, zero, suc, ◌+◌, ◌<◌, ◌≤◌, List, [], ◌∷◌, ◌++◌, map, length, take, refl, ap, sym, ◌∙◌, append_assoc, arith, None, subst, Bor, String, Global, string_bytes, bytes_eq, codes, decimal, Bool, true, false, if◌then◌else◌, Result, OnOk, option_map}
use Rattle.std.proofs.lemmas.List.{append-nil, length-map, length-append}
use Rattle.std.specs.List.{slice_get, list_any}
use Rattle.std.specs.Prelude.{◌||◌}
use Rattle.ss_report_names.specs.Names.{is_among, marked, texts_from, or_nothing, local_text}
use Rattle.ss_report_names.specs.Tables.{texts}
use Rattle.ss_report_names.proofs.LocalTexts.{texts_from-append, length-texts_from, is_among-append}

after_front : (xs ys : List (List ℕ)) (k : ℕ) → slice_get (xs ++ ys) (length xs + k) ≡ slice_get ys k
after_front [] ys k = ap (λ n. slice_get ys n) (omega arith)
after_front (x ∷ xs) ys k = let e : length (x ∷ xs) + k ≡ suc (length xs + k) = omega arith in ap (λ n. slice_get (x ∷ (xs ++ ys)) n) e ∙ after_front xs ys k

in_front : (xs ys : List (List ℕ)) (k : ℕ) → k < length xs → slice_get (xs ++ ys) k ≡ slice_get xs k
in_front [] ys k h = absurd (omega arith)
in_front (x ∷ xs) ys zero h = refl
in_front (x ∷ xs) ys (suc k) h = in_front xs ys k (omega arith)

taken_length : (bs : List (List ℕ)) (k : ℕ) → k < length bs → length (take k bs) ≡ k
taken_length [] k h = absurd (omega arith)
taken_length (b ∷ bs) zero h = refl
taken_length (b ∷ bs) (suc k) h = ap suc (taken_length bs k (omega arith))

looked_up : (ts : List (String Global)) (x : ℕ) → option_map string_bytes (slice_get ts x) ≡ slice_get (map string_bytes ts) x
looked_up [] x = refl
looked_up (t ∷ ts) zero = refl
looked_up (t ∷ ts) (suc x) = looked_up ts x

text_at : (earlier bs : List (List ℕ)) (k : ℕ) → k < length bs → or_nothing (slice_get (texts_from earlier bs) k) ≡ marked (earlier ++ take k bs) (or_nothing (slice_get bs k))
text_at earlier [] k h = absurd (omega arith)
text_at earlier (b ∷ bs) zero h = ap (λ e. marked e b) (sym (append-nil earlier))
text_at earlier (b ∷ bs) (suc k) h = text_at (earlier ++ b ∷ []) bs k (omega arith) ∙ ap (λ e. marked e (or_nothing (slice_get bs k))) (append_assoc earlier (b ∷ []) (take k bs))

none_at : (earlier bs : List (List ℕ)) (k : ℕ) → length bs ≤ k → slice_get (texts_from earlier bs) k ≡ None
none_at earlier [] k h = refl
none_at earlier (b ∷ bs) zero h = absurd (omega arith)
none_at earlier (b ∷ bs) (suc k) h = none_at (earlier ++ b ∷ []) bs k (omega arith)

after_locals : (ls bs : List (List ℕ)) (k : ℕ) → slice_get (texts_from [] (ls ++ bs)) (length ls + k) ≡ slice_get (texts_from ls bs) k
after_locals ls bs k =
    ap (λ ts. slice_get ts (length ls + k)) (texts_from-append [] ls bs)
    ∙ ap (λ n. slice_get (texts_from [] ls ++ texts_from ls bs) (n + k)) (sym (length-texts_from [] ls))
    ∙ after_front (texts_from [] ls) (texts_from ls bs) k

-- a bound name
pub bound_text : (ls bs : List (List ℕ)) (k x : ℕ) → x ≡ length ls + k → k < length bs → local_text (ls ++ bs) x ≡ marked (ls ++ take k bs) (or_nothing (slice_get bs k))
bound_text ls bs k x e h = ap (λ n. local_text (ls ++ bs) n) e ∙ ap or_nothing (after_locals ls bs k) ∙ text_at ls bs k h

pub length_front : (ls bs : List (List ℕ)) (k : ℕ) → k < length bs → length (ls ++ take k bs) ≡ length ls + k
length_front ls bs k h = length-append ls (take k bs) ∙ ap (λ n. length ls + n) (taken_length bs k h)

-- a number past the last one
pub past_text : (ls bs : List (List ℕ)) (k x : ℕ) → x ≡ length ls + k → length bs ≤ k → local_text (ls ++ bs) x ≡ []
past_text ls bs k x e h = ap (λ n. local_text (ls ++ bs) n) e ∙ ap or_nothing (after_locals ls bs k ∙ none_at ls bs k h)

-- a local of the body
pub own_text : (ls bs : List (List ℕ)) (x : ℕ) → x < length ls → local_text (ls ++ bs) x ≡ local_text ls x
own_text ls bs x h =
    let ts = texts_from [] ls in
    let inside : x < length ts = rw (length-texts_from [] ls) h in
    ap (λ us. or_nothing (slice_get us x)) (texts_from-append [] ls bs)
    ∙ ap or_nothing (in_front ts (texts_from ls bs) x inside)

-- the table has a text for each name
pub table_length : (ts : List (String Global)) (names : List (List ℕ)) → map string_bytes ts ≡ texts_from [] names → length ts ≡ length names
table_length ts names e = sym (length-map ts string_bytes) ∙ ap length e ∙ length-texts_from [] names

pub text_in_table : (ts : List (String Global)) (names : List (List ℕ)) (x : ℕ) → map string_bytes ts ≡ texts_from [] names → or_nothing (option_map string_bytes (slice_get ts x)) ≡ local_text names x
text_in_table ts names x e = ap or_nothing (looked_up ts x) ∙ ap (λ us. or_nothing (slice_get us x)) e

pub marked_is : (earlier : List (List ℕ)) (name : List ℕ) (repeated : Bool) (number : ℕ) → repeated ≡ is_among earlier name → number ≡ length earlier → (if repeated then name ++ codes "#" ++ decimal number else name) ≡ marked earlier name
marked_is earlier name repeated number e f = ap (λ b. if b then name ++ codes "#" ++ decimal number else name) e ∙ ap (λ n. if is_among earlier name then name ++ codes "#" ++ decimal n else name) f

-- what was written has another spelling
pub written_as : {T E : Type 0} (r : Result T E) (new old x y : List ℕ) → x ≡ y → OnOk r (new ≡ old ++ x) → OnOk r (new ≡ old ++ y)
written_as r new old x y e h = subst (λ t. OnOk r (new ≡ old ++ t)) e h

pub among_texts : (ns : List (Bor (List ℕ))) (q : List ℕ) → list_any (λ n. bytes_eq q n.now) ns ≡ is_among (texts ns) q
among_texts [] q = refl
among_texts (n ∷ ns) q = ap (λ b. bytes_eq q n.now || b) (among_texts ns q)

pub take-texts : (k : ℕ) (ns : List (Bor (List ℕ))) → texts (take k ns) ≡ take k (texts ns)
take-texts zero ns = refl
take-texts (suc k) [] = refl
take-texts (suc k) (n ∷ ns) = ap (λ ts. n.now ∷ ts) (take-texts k ns)

-- a name is taken by a local, or by a bound name
pub taken : (ls : List (List ℕ)) (ns : List (Bor (List ℕ))) (k : ℕ) (q : List ℕ) → is_among (ls ++ take k (texts ns)) q ≡ (is_among ls q || list_any (λ n. bytes_eq q n.now) (take k ns))
taken ls ns k q = is_among-append ls (take k (texts ns)) q ∙ ap (λ b. is_among ls q || b) (ap (λ ts. is_among ts q) (sym (take-texts k ns)) ∙ sym (among_texts (take k ns) q))

pub taken_here : (ls : List (List ℕ)) (ns : List (Bor (List ℕ))) (k : ℕ) (q : List ℕ) → is_among ls q ≡ true → true ≡ is_among (ls ++ take k (texts ns)) q
taken_here ls ns k q e = sym (taken ls ns k q ∙ ap (λ b. b || list_any (λ n. bytes_eq q n.now) (take k ns)) e)

pub taken_there : (ls : List (List ℕ)) (ns : List (Bor (List ℕ))) (k : ℕ) (q : List ℕ) → is_among ls q ≡ false → list_any (λ n. bytes_eq q n.now) (take k ns) ≡ is_among (ls ++ take k (texts ns)) q
taken_there ls ns k q e = sym (taken ls ns k q ∙ ap (λ b. b || list_any (λ n. bytes_eq q n.now) (take k ns)) e)

pub length-texts : (ns : List (Bor (List ℕ))) → length (texts ns) ≡ length ns
length-texts [] = refl
length-texts (n ∷ ns) = ap suc (length-texts ns)

pub take-all : (ns : List (Bor (List ℕ))) → take (length ns) (texts ns) ≡ texts ns
take-all [] = refl
take-all (n ∷ ns) = ap (λ ts. n.now ∷ ts) (take-all ns)
