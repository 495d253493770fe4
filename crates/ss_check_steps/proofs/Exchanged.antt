-- Congruence of applications, and exchange in literals, over lists of arguments.
use Rattle.std.proofs.Common.{◌≡◌, ℕ, ◌≤◌, List, [], ◌∷◌, length, Bool, true, false, not, ◌&&◌, refl, ap, arith}
use Rattle.std.specs.Bool.{beq}
use Rattle.ss_logic.specs.Terms.{Symbol, Term, App, terms_from, term_list}
use Rattle.ss_logic.specs.Formulas.{Predicate, Formula, Literal}
use Rattle.ss_logic.specs.Equal.{same_symbol, same_predicate}
use Rattle.ss_logic_means.specs.Steps.{are_exchanged, is_congruent, is_swapped}
use Rattle.ss_terms.specs.declared.forms.TermId.{TermId}
use Rattle.ss_terms.specs.Forms.{Forms, terms_at}

listed : (ts : List Term) → term_list (terms_from ts) ≡ ts
listed [] = refl
listed (t ∷ ts) = ap (λ us. t ∷ us) (listed ts)

pub none_left : (b : Forms) (known : List Formula) (xs ys : List TermId) (js : List ℕ) (r : Bool) → length xs ≤ 0 → r ≡ are_exchanged known [] (terms_at b ys) js → r ≡ are_exchanged known (terms_at b xs) (terms_at b ys) js
none_left b known [] ys js r l e = e
none_left b known (x ∷ xs) ys js r l e = absurd (omega arith)

pub congruence : (b : Forms) (known : List Formula) (js : List ℕ) (f g : Symbol) (xs ys : List TermId) → 1 ≤ length xs → same_symbol f g ≡ true →
    are_exchanged known (terms_at b xs) (terms_at b ys) js ≡ is_congruent known js (App f (terms_from (terms_at b xs))) (App g (terms_from (terms_at b ys)))
congruence b known js f g [] ys h e = absurd (omega arith)
congruence b known js f g (x ∷ xs) ys h e = rw (listed (terms_at b xs), listed (terms_at b ys), e) refl

pub swapping : (b : Forms) (known : List Formula) (js : List ℕ) (s r : Bool) (p q : Predicate) (xs ys : List TermId) → not (beq s r) ≡ false → same_predicate p q ≡ true →
    are_exchanged known (terms_at b xs) (terms_at b ys) js ≡ is_swapped known js (Literal s p (terms_from (terms_at b xs))) (Literal r q (terms_from (terms_at b ys)))
swapping b known js s r p q xs ys e d = rw (d, listed (terms_at b xs), listed (terms_at b ys)) (by_sign s r e)
  where
    by_sign : (t u : Bool) → not (beq t u) ≡ false → are_exchanged known (terms_at b xs) (terms_at b ys) js ≡ (beq t u && true && are_exchanged known (terms_at b xs) (terms_at b ys) js)
    by_sign true true h = refl
    by_sign true false h = cc
    by_sign false true h = cc
    by_sign false false h = refl
