-- Literals of classes, and places of terms, of those from a place on.
use Rattle.std.proofs.Common.{◌≡◌, ℕ, suc, ◌==◌, ◌+◌, ◌<◌, ◌≤◌, List, [], ◌∷◌, length, drop, get_or, Bool, true, false, cond, Option, Some, None, refl, sym, ◌∙◌, ap, zero-add, arith, if◌then◌else◌}
use Rattle.std.specs.Prelude.{nat_eq, unwrap_or}
use Rattle.std.proofs.lemmas.Bool.{eqb-true, eqb-false, eq-eqb, ne_eqb}
use Rattle.std.proofs.lemmas.List.{drop_more, drop_all}
use Rattle.indexmap.specs.IndexMap.{get}
use Rattle.ss_logic.specs.Terms.{Symbol, Number, Fixed, Null, ClassName, Constant, Add, Subtract, Multiply, Quotient, Remainder, Field, Element, Length, TypeOf, Level, Owner, Pair, Next, Set, Put, Unpack, Pack, Capture, Join, New, NewArray, MakeReady, Term, App, Terms, term_then, terms_from}
use Rattle.ss_logic.specs.Equal.{same_term}
use Rattle.ss_logic_countermodels.specs.Refuting.{place_among}
use Rattle.ss_terms.specs.declared.forms.TermId.{TermId}
use Rattle.ss_terms.specs.Forms.{Forms, term_at, terms_at, HasTerm}
use Rattle.ss_terms.specs.Apart.{AreApart}
use Rattle.ss_report_values.specs.declared.literals.Value.{Value}
use Rattle.ss_report_values.specs.declared.index.Places.{Places}
use Rattle.ss_report_values.specs.Index.{ArePlaces}
use Rattle.ss_report_values.specs.Literals.{value_of, value_or, value_where, value_in}

applied : (f : Symbol) (t : Term) (ts : Terms) → None ≡ value_of (App f (term_then t ts))
applied (Number n) t ts = refl
applied (Fixed v) t ts = refl
applied Null t ts = refl
applied (ClassName c) t ts = refl
applied (Constant s k) t ts = refl
applied Add t ts = refl
applied Subtract t ts = refl
applied Multiply t ts = refl
applied Quotient t ts = refl
applied Remainder t ts = refl
applied (Field k) t ts = refl
applied (Element s) t ts = refl
applied Length t ts = refl
applied TypeOf t ts = refl
applied Level t ts = refl
applied Owner t ts = refl
applied Pair t ts = refl
applied Next t ts = refl
applied (Set k) t ts = refl
applied Put t ts = refl
applied (Unpack c) t ts = refl
applied (Pack c) t ts = refl
applied (Capture c) t ts = refl
applied Join t ts = refl
applied (New c) t ts = refl
applied (NewArray c) t ts = refl
applied MakeReady t ts = refl

pub no_value : (b : Forms) (f : Symbol) (ts : List TermId) → 1 ≤ length ts → None ≡ value_of (App f (terms_from (terms_at b ts)))
no_value b f [] h = absurd (omega arith)
no_value b f (t ∷ ts) h = applied f (term_at b t) (terms_from (terms_at b ts))

-- ---- the first literal of a class

module _ (b : Forms) (n : ℕ) where
  abbrev From : ℕ → List TermId → List ℕ → Option Value
  From i ts ns = value_in (terms_at b (drop i ts)) (drop i ns) n

  opened : (ts : List TermId) (ns : List ℕ) (i : ℕ) (d : TermId) → i < length ts → i < length ns →
      From i ts ns ≡ value_or (value_where (get_or ns i 0 == n) (term_at b (get_or ts i d))) (From (i + 1) ts ns)
  opened ts ns i d h k = ap (λ xs. value_in (terms_at b xs) (drop i ns) n) (drop_more ts i d h) ∙ ap (λ ks. value_in (term_at b (get_or ts i d) ∷ terms_at b (drop (i + 1) ts)) ks n) (drop_more ns i 0 k)

  -- a literal at the place counts for its class, and else the next one does
  pub value_put : (ts : List TermId) (ns : List ℕ) (i : ℕ) (d : TermId) (v : Value) (o : Option Value) → i < length ts → i < length ns → Some v ≡ value_of (term_at b (get_or ts i d)) → o ≡ cond (get_or ns i 0 == n) (Some v) (From (i + 1) ts ns) → o ≡ From i ts ns
  value_put ts ns i d v o h k is e = e ∙ by (get_or ns i 0 == n) ∙ sym (opened ts ns i d h k)
    where
      by : (x : Bool) → cond x (Some v) (From (i + 1) ts ns) ≡ value_or (value_where x (term_at b (get_or ts i d))) (From (i + 1) ts ns)
      by true = ap (λ w. value_or w (From (i + 1) ts ns)) is
      by false = refl

  pub none_put : (ts : List TermId) (ns : List ℕ) (i : ℕ) (d : TermId) → i < length ts → i < length ns → None ≡ value_of (term_at b (get_or ts i d)) → From (i + 1) ts ns ≡ From i ts ns
  none_put ts ns i d h k is = by (get_or ns i 0 == n) ∙ sym (opened ts ns i d h k)
    where
      by : (x : Bool) → From (i + 1) ts ns ≡ value_or (value_where x (term_at b (get_or ts i d))) (From (i + 1) ts ns)
      by true = ap (λ w. value_or w (From (i + 1) ts ns)) is
      by false = refl

  no_class : (ts : List Term) → None ≡ value_in ts [] n
  no_class [] = refl
  no_class (t ∷ ts) = refl

  -- from the end on there is none
  pub none_at_end : (ts : List TermId) (ns : List ℕ) (i : ℕ) → length ts ≤ i → None ≡ From i ts ns
  none_at_end ts ns i h = sym (ap (λ xs. value_in (terms_at b xs) (drop i ns) n) (drop_all i ts h))

  pub none_past : (ts : List TermId) (ns : List ℕ) (i : ℕ) → length ns ≤ i → None ≡ From i ts ns
  none_past ts ns i h = no_class (terms_at b (drop i ts)) ∙ sym (ap (λ ks. value_in (terms_at b (drop i ts)) ks n) (drop_all i ns h))

-- ---- places

swapped : (m n : ℕ) → (m == n) ≡ (n == m)
swapped m n = by (m == n) refl
  where
    by : (v : Bool) → (m == n) ≡ v → (m == n) ≡ (n == m)
    by true e = e ∙ sym (eq-eqb n m (sym (eqb-true m n e)))
    by false e = e ∙ sym (ne_eqb n m (λ k. eqb-false m n e (sym k)))

module _ (b : Forms) (x : Term) where
  abbrev Place : List TermId → ℕ
  Place ts = place_among (same_term x) (terms_at b ts)

  place_opened : (ts : List TermId) (i : ℕ) (d : TermId) → i < length ts → Place (drop i ts) ≡ (if same_term x (term_at b (get_or ts i d)) then 0 else suc (Place (drop (i + 1) ts)))
  place_opened ts i d h = ap Place (drop_more ts i d h)

  -- the term at the place stands there, and else it stands after it
  place_here : (ts : List TermId) (i : ℕ) (d : TermId) (v : Bool) (old new : Option ℕ) → i < length ts → v ≡ same_term x (term_at b (get_or ts i d)) → new ≡ cond v (Some i) old → unwrap_or old (length ts) ≡ (i + 1) + Place (drop (i + 1) ts) → unwrap_or new (length ts) ≡ i + Place (drop i ts)
  place_here ts i d true old new h is e known =
      let p : Place (drop i ts) ≡ 0 = place_opened ts i d h ∙ ap (λ s. if s then 0 else suc (Place (drop (i + 1) ts))) (sym is) in
      let q : i ≡ i + Place (drop i ts) = omega arith in
      ap (λ (o : Option ℕ). unwrap_or o (length ts)) e ∙ q
  place_here ts i d false old new h is e known =
      let p : Place (drop i ts) ≡ suc (Place (drop (i + 1) ts)) = place_opened ts i d h ∙ ap (λ s. if s then 0 else suc (Place (drop (i + 1) ts))) (sym is) in
      let q : (i + 1) + Place (drop (i + 1) ts) ≡ i + Place (drop i ts) = omega arith in
      ap (λ (o : Option ℕ). unwrap_or o (length ts)) e ∙ known ∙ q

  pub place_past : (ts : List TermId) (i : ℕ) → length ts ≤ i → Place (drop i ts) ≡ 0
  place_past ts i h = ap Place (drop_all i ts h)

pub place_put : (b : Forms) → AreApart b → (ts : List TermId) (i : ℕ) (d t : TermId) (old new : Option ℕ) → i < length ts → HasTerm b (get_or ts i d) → HasTerm b t → new ≡ cond ((get_or ts i d).0 == t.0) (Some i) old →
    unwrap_or old (length ts) ≡ (i + 1) + place_among (same_term (term_at b t)) (terms_at b (drop (i + 1) ts)) → unwrap_or new (length ts) ≡ i + place_among (same_term (term_at b t)) (terms_at b (drop i ts))
place_put b apart ts i d t old new h there has e known = place_here b (term_at b t) ts i d ((get_or ts i d).0 == t.0) old new h (swapped (get_or ts i d).0 t.0 ∙ apart.terms t (get_or ts i d) has there) e known

-- no place is known at the end
pub no_places : (b : Forms) (ts : List TermId) (t : TermId) (o : Option ℕ) → o ≡ None → unwrap_or o (length ts) ≡ length ts + place_among (same_term (term_at b t)) (terms_at b (drop (length ts) ts))
no_places b ts t o e =
    let p : place_among (same_term (term_at b t)) (terms_at b (drop (length ts) ts)) ≡ 0 = place_past b (term_at b t) ts (length ts) (omega arith) in
    let q : length ts ≡ length ts + place_among (same_term (term_at b t)) (terms_at b (drop (length ts) ts)) = omega arith in
    ap (λ (m : Option ℕ). unwrap_or m (length ts)) e ∙ q

-- what is looked up is the place
pub looked_up : (b : Forms) (ts : List TermId) (p : Places) (t : TermId) (o : Option ℕ) (at : ℕ) → ArePlaces b ts 0 p → HasTerm b t → get nat_eq p.places t.0 ≡ o → at ≡ unwrap_or o (length ts) → at ≡ place_among (same_term (term_at b t)) (terms_at b ts)
looked_up b ts p t o at h l e is = is ∙ ap (λ (m : Option ℕ). unwrap_or m (length ts)) (sym e) ∙ h t l ∙ zero-add (place_among (same_term (term_at b t)) (terms_at b ts))
