-- The texts of locals, name by name.
use Rattle.std.proofs.Common.{◌≡◌, ℕ, suc, List, [], ◌∷◌, ◌++◌, length, refl, ap, sym, ◌∙◌, append_assoc, bytes_eq, Bool, true, false, cond, codes, decimal, if◌then◌else◌}
use Rattle.std.proofs.lemmas.List.{append-nil}
use Rattle.std.proofs.lemmas.Cmp.{nat_list_eq_equiv}
use Rattle.std.specs.Prelude.{◌||◌}
use Rattle.ss_report_names.specs.Names.{is_among, marked, texts_from}

pub texts_from-append : (earlier ms ns : List (List ℕ)) → texts_from earlier (ms ++ ns) ≡ texts_from earlier ms ++ texts_from (earlier ++ ms) ns
texts_from-append earlier [] ns = ap (λ e. texts_from e ns) (sym (append-nil earlier))
texts_from-append earlier (m ∷ ms) ns = ap (λ ts. marked earlier m ∷ ts) (texts_from-append (earlier ++ m ∷ []) ms ns ∙ ap (λ e. texts_from (earlier ++ m ∷ []) ms ++ texts_from e ns) (append_assoc earlier (m ∷ []) ms))

pub length-texts_from : (earlier ns : List (List ℕ)) → length (texts_from earlier ns) ≡ length ns
length-texts_from earlier [] = refl
length-texts_from earlier (n ∷ ns) = ap suc (length-texts_from (earlier ++ n ∷ []) ns)

pub is_among-append : (ms ns : List (List ℕ)) (q : List ℕ) → is_among (ms ++ ns) q ≡ (is_among ms q || is_among ns q)
is_among-append [] ns q = refl
is_among-append (m ∷ ms) ns q = elim (bytes_eq q m) as (λ b. (b || is_among (ms ++ ns) q) ≡ ((b || is_among ms q) || is_among ns q)) [ true ↦ refl | false ↦ is_among-append ms ns q ]

-- one more text, marked where its name is repeated
pub one_more : (earlier texts : List (List ℕ)) (name text : List ℕ) (repeated : Bool) (number : ℕ) → texts ≡ texts_from [] earlier → repeated ≡ is_among earlier name → number ≡ length texts
    → text ≡ (if repeated then name ++ codes "#" ++ decimal number else name) → texts ++ text ∷ [] ≡ texts_from [] (earlier ++ name ∷ [])
one_more earlier texts name text repeated number same is_repeated is_last is_text =
    let is_number : number ≡ length earlier = is_last ∙ ap length same ∙ length-texts_from [] earlier in
    let is_marked : text ≡ marked earlier name = is_text ∙ ap (λ b. if b then name ++ codes "#" ++ decimal number else name) is_repeated ∙ ap (λ n. if is_among earlier name then name ++ codes "#" ++ decimal n else name) is_number in
    ap (λ ts. ts ++ text ∷ []) same ∙ ap (λ t. texts_from [] earlier ++ t ∷ []) is_marked ∙ sym (texts_from-append [] earlier (name ∷ []))

either_way : (a b : Bool) → cond a true b ≡ (b || (a || false))
either_way true true = refl
either_way true false = refl
either_way false true = refl
either_way false false = refl

-- one more name is known
pub one_more_known : (earlier : List (List ℕ)) (name q : List ℕ) (before after : Bool) → after ≡ cond (bytes_eq name q) true before → before ≡ is_among earlier q → after ≡ is_among (earlier ++ name ∷ []) q
one_more_known earlier name q before after is_after is_before =
    is_after ∙ ap (λ b. cond (bytes_eq name q) true b) is_before ∙ ap (λ b. cond b true (is_among earlier q)) (nat_list_eq_equiv.symm name q) ∙ either_way (bytes_eq q name) (is_among earlier q) ∙ sym (is_among-append earlier (name ∷ []) q)
