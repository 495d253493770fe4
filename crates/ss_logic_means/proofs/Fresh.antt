-- Fresh constants are new for the formulas whose terms are in use.
use Rattle.std.proofs.Common.{◌≡◌, ℕ, zero, suc, ◌+◌, ◌<◌, ◌≤◌, List, [], ◌∷◌, length, Bool, true, false, not, ◌&&◌, eqb, refl, sym, ◌∙◌, ap, subst, ⊎_elim, arith}
use Rattle.std.specs.Prelude.{nat_lt, if◌then◌else◌}
use Rattle.std.specs.List.{Contains, list_any, list_all}
use Rattle.std.proofs.lemmas.Bool.{false≢true, and_parts, and_from, or_cases, or_parts, cases_eq, cases_lt, eqb-true, eq-eqb, ne_eqb, ltb-true, lt-ltb, le-ltb, false_from_ne_true, not_from_false}
use Rattle.ss_logic.specs.declared.Sort.{Sort}
use Rattle.ss_logic.specs.declared.Sort.TheVariants as sort
use Rattle.ss_logic.specs.Terms.{Constant, Term, App, no_terms, same_sort}
use Rattle.ss_logic.specs.Formulas.{Formula, is_bound_sort, are_bound_sorts, term_avoids, avoids}
use Rattle.ss_logic.proofs.Truth.{same_sort_refl}
use Rattle.ss_logic_means.specs.Steps.{are_constants, are_new}
use Rattle.ss_logic.specs.Opened.{is_numbered, least_from, fresh_constant, fresh_constants}
use Rattle.ss_logic.proofs.Lists.{contains_head, contains_cons, any_from}

-- ---- the least number is that of none of the terms: they have no more numbers than there are terms

abbrev one : Bool → ℕ
one true = 1
one false = 0

abbrev is_lower : Sort → ℕ → Term → Bool
is_lower s k (App (Constant r j) ts) = same_sort r s && nat_lt j k
is_lower s k t = false

-- how many are constants of the sort with a number below this
abbrev lower_count : Sort → ℕ → List Term → ℕ
lower_count s k [] = 0
lower_count s k (t ∷ ts) = one (is_lower s k t) + lower_count s k ts

one_at_most : (b : Bool) → one b ≤ 1
one_at_most true = omega arith
one_at_most false = omega arith

lower_few : (s : Sort) (k : ℕ) (ts : List Term) → lower_count s k ts ≤ length ts
lower_few s k [] = omega arith
lower_few s k (t ∷ ts) = let h = lower_few s k ts in let o = one_at_most (is_lower s k t) in omega (arith, h, o)

rises : (b : Bool) (j k : ℕ) → one (b && nat_lt j k) ≤ one (b && nat_lt j (suc k))
rises false j k = omega arith
rises true j k = by (nat_lt j k) refl
  where
    by : (c : Bool) → nat_lt j k ≡ c → one c ≤ one (nat_lt j (suc k))
    by true e =
        let l = ltb-true j k e in
        let m : nat_lt j (suc k) ≡ true = lt-ltb j (suc k) (omega (arith, l)) in
        rw m (omega arith)
    by false e = omega arith

rises_at : (b : Bool) (j k : ℕ) → (b && eqb j k) ≡ true → one (b && nat_lt j k) + 1 ≤ one (b && nat_lt j (suc k))
rises_at false j k h = absurd (false≢true h)
rises_at true j k h =
    let e = eqb-true j k h in
    let below : nat_lt j k ≡ false = le-ltb j k (omega (arith, e)) in
    let here : nat_lt j (suc k) ≡ true = lt-ltb j (suc k) (omega (arith, e)) in
    rw (below, here) (omega arith)

one_rises : (s : Sort) (k : ℕ) (t : Term) → one (is_lower s k t) ≤ one (is_lower s (suc k) t)
one_rises s k (App (Constant r j) ts) = rises (same_sort r s) j k
one_rises s k t = omega arith

one_rises_at : (s : Sort) (k : ℕ) (t : Term) → is_numbered s k t ≡ true → one (is_lower s k t) + 1 ≤ one (is_lower s (suc k) t)
one_rises_at s k (App (Constant r j) ts) h = rises_at (same_sort r s) j k h
one_rises_at s k t h = absurd (false≢true h)

count_rises : (s : Sort) (k : ℕ) (ts : List Term) → lower_count s k ts ≤ lower_count s (suc k) ts
count_rises s k [] = omega arith
count_rises s k (t ∷ ts) = let a = one_rises s k t in let b = count_rises s k ts in omega (arith, a, b)

count_rises_at : (s : Sort) (k : ℕ) (ts : List Term) → list_any (is_numbered s k) ts ≡ true → lower_count s k ts + 1 ≤ lower_count s (suc k) ts
count_rises_at s k [] h = absurd (false≢true h)
count_rises_at s k (t ∷ ts) h = ⊎_elim
    (λ (e : is_numbered s k t ≡ true). let a = one_rises_at s k t e in let b = count_rises s k ts in omega (arith, a, b))
    (λ (e : list_any (is_numbered s k) ts ≡ true). let a = one_rises s k t in let b = count_rises_at s k ts e in omega (arith, a, b))
    (or_cases (is_numbered s k t) (list_any (is_numbered s k) ts) h)

-- each number below this is that of one of the terms
abbrev Taken : Sort → ℕ → List Term → Type 0
Taken s k ts = (j : ℕ) → j < k → list_any (is_numbered s j) ts ≡ true

taken_count : (s : Sort) (k : ℕ) (ts : List Term) → Taken s k ts → k ≤ lower_count s k ts
taken_count s zero ts h = omega arith
taken_count s (suc k) ts h =
    let r = taken_count s k ts (λ j l. h j (omega (arith, l))) in
    let o = count_rises_at s k ts (h k (omega arith)) in
    omega (arith, r, o)

taken_next : (s : Sort) (k m : ℕ) (ts : List Term) → Taken s k ts → list_any (is_numbered s k) ts ≡ true → m ≤ k + 1 → Taken s m ts
taken_next s k m ts h t l j i = ⊎_elim
    (λ (b : j < k). h j b)
    (λ (g : k ≤ j). let e : k ≡ j = omega (arith, g, i, l) in subst (λ x. list_any (is_numbered s x) ts ≡ true) e t)
    (cases_lt j k)

least_is_new : (n k : ℕ) (s : Sort) (ts : List Term) → Taken s k ts → n + k ≡ length ts → list_any (is_numbered s (least_from n k s ts)) ts ≡ false
least_is_new zero k s ts h e = false_from_ne_true (list_any (is_numbered s k) ts) (λ t.
    let full = taken_count s (suc k) ts (taken_next s k (suc k) ts h t (omega arith)) in
    let few = lower_few s (suc k) ts in
    omega (arith, full, few, e))
least_is_new (suc n) k s ts h e = by (λ t. least_is_new n (k + 1) s ts (taken_next s k (k + 1) ts h t (omega arith)) (omega (arith, e))) (list_any (is_numbered s k) ts) refl
  where
    by : (list_any (is_numbered s k) ts ≡ true → list_any (is_numbered s (least_from n (k + 1) s ts)) ts ≡ false) →
        (b : Bool) → list_any (is_numbered s k) ts ≡ b → list_any (is_numbered s (if b then least_from n (k + 1) s ts else k)) ts ≡ false
    by later true t = later t
    by later false t = t

pub fresh_is_new : (s : Sort) (ts : List Term) → list_any (is_numbered s (least_from (length ts) 0 s ts)) ts ≡ false
fresh_is_new s ts = least_is_new (length ts) 0 s ts (λ j l. absurd (omega (arith, l))) (omega arith)

-- ---- new constants

abbrev pub AllAvoid : List Term → List Formula → Type 0
AllAvoid used fs = (s : Sort) (k : ℕ) → list_any (is_numbered s k) used ≡ false → list_all (avoids s k) fs ≡ true

eqb_sym : (j k : ℕ) → eqb j k ≡ eqb k j
eqb_sym j k = ⊎_elim (λ e. eq-eqb j k e ∙ sym (eq-eqb k j (sym e))) (λ n. ne_eqb j k n ∙ sym (ne_eqb k j (λ e. n (sym e)))) (cases_eq j k)

pub same_sort_sym : (s r : Sort) → same_sort s r ≡ same_sort r s
same_sort_sym sort.Store sort.Store = refl
same_sort_sym sort.Whole sort.Whole = refl
same_sort_sym sort.Truth sort.Truth = refl
same_sort_sym sort.Rest sort.Rest = refl
same_sort_sym s r = refl

none_at : (p : Term → Bool) (ts : List Term) (t : Term) → list_any p ts ≡ false → Contains ts t → p t ≡ false
none_at p ts t h c = false_from_ne_true (p t) (λ e. false≢true (sym h ∙ any_from p ts t c e))

-- a constant that isn't the other one
other : (s : Sort) (k : ℕ) (r : Sort) (j : ℕ) → is_numbered r j (App (Constant s k) no_terms) ≡ false → term_avoids s k (App (Constant r j) no_terms) ≡ true
other s k r j h = and_from (not (same_sort s r && eqb j k)) true (not_from_false (same_sort s r && eqb j k) (ap (λ b. same_sort s r && b) (eqb_sym j k) ∙ h)) refl

later : (s : Sort) (k : ℕ) (ss : List Sort) (used : List Term) → Contains used (App (Constant s k) no_terms) → list_all (term_avoids s k) (fresh_constants ss used) ≡ true
later s k [] used h = refl
later s k (r ∷ ss) used h =
    let t = fresh_constant r used in
    let j = least_from (length used) 0 r used in
    and_from (term_avoids s k t) (list_all (term_avoids s k) (fresh_constants ss (t ∷ used)))
    (other s k r j (none_at (is_numbered r j) used (App (Constant s k) no_terms) (fresh_is_new r used) h))
    (later s k ss (t ∷ used) (contains_cons t used (App (Constant s k) no_terms) h))

more_used : (t : Term) (used : List Term) (fs : List Formula) → AllAvoid used fs → AllAvoid (t ∷ used) fs
more_used t used fs h s k e = h s k (or_parts (is_numbered s k t) (list_any (is_numbered s k) used) e).1

pub fresh_are_new : (ss : List Sort) (used : List Term) (fs : List Formula) → AllAvoid used fs → are_new fs (fresh_constants ss used) ≡ true
fresh_are_new [] used fs h = refl
fresh_are_new (s ∷ ss) used fs h =
    let t = fresh_constant s used in
    let k = least_from (length used) 0 s used in
    and_from (list_all (avoids s k) fs && list_all (term_avoids s k) (fresh_constants ss (t ∷ used))) (are_new fs (fresh_constants ss (t ∷ used)))
    (and_from (list_all (avoids s k) fs) (list_all (term_avoids s k) (fresh_constants ss (t ∷ used))) (h s k (fresh_is_new s used)) (later s k ss (t ∷ used) (contains_head t used)))
    (fresh_are_new ss (t ∷ used) fs (more_used t used fs h))

pub fresh_are_constants : (ss : List Sort) (used : List Term) → are_bound_sorts ss ≡ true → are_constants ss (fresh_constants ss used) ≡ true
fresh_are_constants [] used h = refl
fresh_are_constants (s ∷ ss) used h =
    let t = fresh_constant s used in
    let p = and_parts (is_bound_sort s) (are_bound_sorts ss) h in
    and_from (same_sort s s && is_bound_sort s) (are_constants ss (fresh_constants ss (t ∷ used))) (and_from (same_sort s s) (is_bound_sort s) (same_sort_refl s) p.0) (fresh_are_constants ss (t ∷ used) p.1)

-- a constant that isn't among them occurs in none of them
pub fresh_avoid : (s : Sort) (k : ℕ) (ss : List Sort) (used : List Term) → list_any (is_numbered s k) (fresh_constants ss used) ≡ false → list_all (term_avoids s k) (fresh_constants ss used) ≡ true
fresh_avoid s k [] used h = refl
fresh_avoid s k (r ∷ ss) used h =
    let t = fresh_constant r used in
    let j = least_from (length used) 0 r used in
    let p = or_parts (is_numbered s k t) (list_any (is_numbered s k) (fresh_constants ss (t ∷ used))) h in
    and_from (term_avoids s k t) (list_all (term_avoids s k) (fresh_constants ss (t ∷ used)))
    (and_from (not (same_sort s r && eqb j k)) true (not_from_false (same_sort s r && eqb j k) (ap (λ b. b && eqb j k) (same_sort_sym s r) ∙ p.0)) refl)
    (fresh_avoid s k ss (t ∷ used) p.1)
