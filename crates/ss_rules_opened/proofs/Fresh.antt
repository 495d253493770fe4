-- Fresh constants, one after the other.
use Rattle.std.proofs.Common.{◌≡◌, ℕ, zero, suc, ◌+◌, ◌-◌, ◌<◌, ◌≤◌, List, [], ◌∷◌, ◌++◌, length, map, take, drop, get_or, Bool, true, false, refl, sym, ◌∙◌, ap, subst, append_assoc, add-one, arith, if◌then◌else◌}
use Rattle.std.specs.List.{list_any}
use Rattle.std.proofs.Math.Seq.{drop-cons}
use Rattle.std.proofs.lemmas.List.{append-nil, map_push, map-append}
use Rattle.ss_logic.specs.declared.Sort.{Sort}
use Rattle.ss_logic.specs.Terms.{Term}
use Rattle.ss_logic.specs.Opened.{is_numbered, least_from, fresh_constant, fresh_constants}
use Rattle.ss_terms.specs.declared.forms.TermId.{TermId}
use Rattle.ss_terms.specs.Forms.{Forms, term_at, terms_at, HasTerm, HasTerms, IsGrown}
use Rattle.ss_terms.proofs.Grown.{HasTerms-grown, terms_at-grown}
use Rattle.ss_terms.proofs.Longer.{HasTerms-push}

pub count-map : (b : Forms) (ts : List TermId) → length (terms_at b ts) ≡ length ts
count-map b [] = refl
count-map b (t ∷ ts) = ap suc (count-map b ts)

-- ---- the least number

pub least_next : (n k : ℕ) (s : Sort) (ts : List Term) (r : Bool) (all : ℕ) → k < n → r ≡ list_any (is_numbered s k) ts → r ≡ true → least_from (n - k) k s ts ≡ all → least_from (n - (k + 1)) (k + 1) s ts ≡ all
least_next n k s ts r all within e holds left =
    let one : n - k ≡ suc (n - (k + 1)) = omega arith in
    sym (ap (λ v. if v then least_from (n - (k + 1)) (k + 1) s ts else k) (sym e ∙ holds))
    ∙ sym (ap (λ m. least_from m k s ts) one)
    ∙ left

pub least_here : (n k : ℕ) (s : Sort) (ts : List Term) (r : Bool) (all : ℕ) → k < n → r ≡ list_any (is_numbered s k) ts → r ≡ false → least_from (n - k) k s ts ≡ all → k ≡ all
least_here n k s ts r all within e fails left =
    let one : n - k ≡ suc (n - (k + 1)) = omega arith in
    sym (ap (λ v. if v then least_from (n - (k + 1)) (k + 1) s ts else k) (sym e ∙ fails))
    ∙ sym (ap (λ m. least_from m k s ts) one)
    ∙ left

pub least_last : (n k : ℕ) (s : Sort) (ts : List Term) (all : ℕ) → n ≤ k → least_from (n - k) k s ts ≡ all → k ≡ all
least_last n k s ts all past left = let none : n - k ≡ 0 = omega arith in sym (ap (λ m. least_from m k s ts) none) ∙ left

-- ---- one more constant

module _ (a b : Forms) (g : IsGrown a b) (ts more : List TermId) (t : TermId) (x : Term) (has : HasTerms a ts) (at : HasTerm b t × (term_at b t ≡ x)) where
  pub has_in_front : more ≡ t ∷ ts → HasTerms b more
  has_in_front e = subst (HasTerms b) (sym e) (at.0, HasTerms-grown a b g ts has)

  pub in_front : more ≡ t ∷ ts → terms_at b more ≡ x ∷ terms_at a ts
  in_front e = ap (terms_at b) e ∙ ap (λ y. y ∷ terms_at b ts) at.1 ∙ ap (λ ys. x ∷ ys) (terms_at-grown a b g ts has)

  pub has_pushed : more ≡ ts ++ t ∷ [] → HasTerms b more
  has_pushed e = subst (HasTerms b) (sym e) (HasTerms-push b ts t (HasTerms-grown a b g ts has) at.0)

  pub pushed : more ≡ ts ++ t ∷ [] → terms_at b more ≡ terms_at a ts ++ x ∷ []
  pushed e = ap (terms_at b) e ∙ map_push (term_at b) ts t ∙ ap (λ ys. ys ++ term_at b t ∷ []) (terms_at-grown a b g ts has) ∙ ap (λ y. terms_at a ts ++ y ∷ []) at.1

-- those that are made, and those for the sorts from the place i on
abbrev pub fresh_from : List Sort → ℕ → List Term → List Term → List Term
fresh_from ss i made taken = made ++ fresh_constants (drop i ss) taken

pub fresh_next : (ss : List Sort) (i : ℕ) (d : Sort) (made made_after taken taken_after all : List Term) → i < length ss → fresh_from ss i made taken ≡ all → taken_after ≡ fresh_constant (get_or ss i d) taken ∷ taken → made_after ≡ made ++ fresh_constant (get_or ss i d) taken ∷ [] →
    fresh_from ss (i + 1) made_after taken_after ≡ all
fresh_next ss i d made made_after taken taken_after all within left t m =
    ap (λ ys. ys ++ fresh_constants (drop (i + 1) ss) taken_after) m
    ∙ ap (λ ts. (made ++ fresh_constant (get_or ss i d) taken ∷ []) ++ fresh_constants (drop (i + 1) ss) ts) t
    ∙ append_assoc made (fresh_constant (get_or ss i d) taken ∷ []) (fresh_constants (drop (i + 1) ss) (fresh_constant (get_or ss i d) taken ∷ taken))
    ∙ sym (ap (λ rs. made ++ fresh_constants rs taken) (drop-cons ss i d within ∙ ap (λ n. get_or ss i d ∷ drop n ss) (sym (add-one i))))
    ∙ left

none_left : (ss : List Sort) (i : ℕ) → length ss ≤ i → drop i ss ≡ []
none_left [] zero l = refl
none_left [] (suc i) l = refl
none_left (s ∷ ss) zero l = absurd (omega arith)
none_left (s ∷ ss) (suc i) l = none_left ss i (omega arith)

pub fresh_done : (ss : List Sort) (i : ℕ) (made taken all : List Term) → length ss ≤ i → fresh_from ss i made taken ≡ all → made ≡ all
fresh_done ss i made taken all past left = sym (append-nil made) ∙ sym (ap (λ rs. made ++ fresh_constants rs taken) (none_left ss i past)) ∙ left

-- ---- two lists

has-append : (b : Forms) (ts us : List TermId) → HasTerms b ts → HasTerms b us → HasTerms b (ts ++ us)
has-append b [] us h k = k
has-append b (t ∷ ts) us h k = (h.0, has-append b ts us h.1 k)

pub has_joined : (b : Forms) (all ts us : List TermId) → all ≡ ts ++ us → HasTerms b ts → HasTerms b us → HasTerms b all
has_joined b all ts us e h k = subst (HasTerms b) (sym e) (has-append b ts us h k)

pub are_joined : (b : Forms) (all ts us : List TermId) → all ≡ ts ++ us → terms_at b all ≡ terms_at b ts ++ terms_at b us
are_joined b all ts us e = ap (terms_at b) e ∙ map-append (term_at b) ts us
