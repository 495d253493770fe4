-- The terms of a list stand in it once each.
use Rattle.std.proofs.Common.{◌≡◌, List, [], ◌∷◌, ◌++◌, Bool, true, false, ◌||◌, refl, sym, ◌∙◌, ap, ⊎_elim, if◌then◌else◌}
use Rattle.std.specs.List.{list_any}
use Rattle.std.proofs.lemmas.Bool.{cases_Bool, false≢true}
use Rattle.std.proofs.lemmas.List.Folds.{list_any-append}
use Rattle.ss_logic.specs.Terms.{Term, Bound, App, Terms, no_terms, term_then}
use Rattle.ss_logic.specs.Formulas.{Formula, Literal, And, Or, Forall, Exists}
use Rattle.ss_logic.specs.Equal.{same_term, equal_terms, same_term_equal}
use Rattle.ss_logic.specs.Occurring.{with_term, with_arguments, with_terms_of, with_terms_of_all, atoms, terms}

-- no term stands among those after it
abbrev pub Once : List Term → Type 0
Once [] = Unit {0}
Once (t ∷ ts) = (list_any (same_term t) ts ≡ false) × Once ts

not_same : (t u : Term) → same_term t u ≡ false → same_term u t ≡ false
not_same t u n = ⊎_elim (λ (e : same_term u t ≡ true). absurd (false≢true (sym n ∙ same_term_equal t u (sym (equal_terms u t e))))) (λ (e : same_term u t ≡ false). e) (cases_Bool (same_term u t))

none_of_two : (a b : Bool) → (a || b) ≡ false → (a ≡ false) × (b ≡ false)
none_of_two true b h = cc
none_of_two false b h = (refl, h)

once_push : (ts : List Term) (t : Term) → Once ts → list_any (same_term t) ts ≡ false → Once (ts ++ t ∷ [])
once_push [] t h n = (refl, tt)
once_push (u ∷ ts) t h n =
    let p = none_of_two (same_term t u) (list_any (same_term t) ts) n in
    (list_any-append (same_term u) ts (t ∷ []) ∙ ap (λ v. v || (same_term u t || false)) h.0 ∙ ap (λ v. v || false) (not_same t u p.0), once_push ts t h.1 p.1)

mutual
  term_once : (found : List Term) (t : Term) → Once found → Once (with_term found t)
  term_once found (Bound k) h = h
  term_once found (App f ts) h = by (list_any (same_term (App f ts)) found) refl (λ n. arguments_once (found ++ App f ts ∷ []) ts (once_push found (App f ts) h n))
    where
      by : (v : Bool) → list_any (same_term (App f ts)) found ≡ v → (list_any (same_term (App f ts)) found ≡ false → Once (with_arguments (found ++ App f ts ∷ []) ts)) →
          Once (if v then found else with_arguments (found ++ App f ts ∷ []) ts)
      by true e more = h
      by false e more = more e

  arguments_once : (found : List Term) (ts : Terms) → Once found → Once (with_arguments found ts)
  arguments_once found no_terms h = h
  arguments_once found (term_then t ts) h = arguments_once (with_term found t) ts (term_once found t h)

terms_of_once : (found : List Term) (f : Formula) → Once found → Once (with_terms_of found f)
terms_of_once found (Literal s p ts) h = arguments_once found ts h
terms_of_once found (And fs) h = h
terms_of_once found (Or fs) h = h
terms_of_once found (Forall ss f) h = h
terms_of_once found (Exists ss f) h = h

all_once : (found : List Term) (fs : List Formula) → Once found → Once (with_terms_of_all found fs)
all_once found [] h = h
all_once found (f ∷ fs) h = all_once (with_terms_of found f) fs (terms_of_once found f h)

pub terms_once : (fs : List Formula) → Once (terms fs)
terms_once fs = all_once [] (atoms fs) tt
