-- Names that nothing binds.
use Rattle.std.proofs.Common.{◌≡◌, ℕ, ◌+◌, ◌<◌, ◌≤◌, List, [], ◌∷◌, ◌++◌, length, Result, Ok, Err, Some, None, true, refl, sym, ◌∙◌, ap, subst, ⊎_elim, arith}
use Rattle.std.specs.Prelude.{slice_get, OnOk}
use Rattle.std.proofs.lemmas.Bool.{false≢true, cases_lt}
use Rattle.ss_logic.specs.Terms.{Term, Bound, App}
use Rattle.ss_terms.specs.declared.forms.TermId.{TermId}
use Rattle.ss_terms.specs.Forms.{Forms, TermShape, term_at}
use Rattle.ss_terms.specs.Bank.{number}
use Rattle.ss_equality_rules.specs.declared.Merge.{Merge}
use Rattle.ss_equality_rules.specs.Equal.{IsEqual, back, through}
use Rattle.ss_equality_rules.proofs.Lists.{pushed}
use Rattle.ss_search_reached.specs.Known.{is_name, AreOneName, AreOfNames}

pub ok_then : {A E P Q : Type 0} (r : Result A E) → (P → Q) → OnOk r P → OnOk r Q
ok_then (Ok x) f h = f h
ok_then (Err z) f h = tt

pub ok_any : {A E P : Type 0} (r : Result A E) → P → OnOk r P
ok_any (Ok x) h = h
ok_any (Err z) h = tt

pub below_next : (P : TermId → Type 0) (n : ℕ) → ((t : TermId) → t.0 < n → P t) → P (number n) → (t : TermId) → t.0 < n + 1 → P t
below_next P n before here t h = ⊎_elim
    (λ l. before t l)
    (λ l. let same : n ≡ t.0 = omega (arith, h, l) in subst P (ap number same) here)
    (cases_lt t.0 n)

pub one_name : (b : Forms) (ts : List TermShape) (ms : List Merge) (first : TermId) (count : ℕ) → ((t : TermId) → t.0 < count → is_name (term_at b t) ≡ true → IsEqual ts ms first.0 t.0) → length b.terms ≤ count → AreOneName b ts ms
one_name b ts ms first count h l s t hs ht ns nt = through (back (h s (omega (arith, hs, l)) ns)) (h t (omega (arith, ht, l)) nt)

pub is_bound : (t : Term) → is_name t ≡ true → (k : ℕ) × (t ≡ Bound k)
is_bound (Bound k) e = (k, refl)
is_bound (App f ts) e = absurd (false≢true e)

-- ---- merges of names

pub none_of_names : (b : Forms) (ms : List Merge) → ms ≡ [] → AreOfNames b ms
none_of_names b ms e k m at =
    let no : None ≡ Some m = ap (λ (ns : List Merge). slice_get ns k) (sym e) ∙ at in
    cc

pub more_of_names : (b : Forms) (old new : List Merge) (s t : TermId) (because : ℕ) → is_name (term_at b s) ≡ true → is_name (term_at b t) ≡ true → new ≡ old ++ record { left = s; right = t; because = because } ∷ [] → AreOfNames b old → AreOfNames b new
more_of_names b old new s t because left right e h k m at = ⊎_elim
    (λ before. h k m before)
    (λ last. subst (λ (n : Merge). (is_name (term_at b n.left) ≡ true) × (is_name (term_at b n.right) ≡ true)) last.1 (left, right))
    (pushed old (record { left = s; right = t; because = because }) m k (ap (λ (ms : List Merge). slice_get ms k) (sym e) ∙ at))
