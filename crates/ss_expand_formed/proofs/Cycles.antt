-- The classes above each class end, where no class is the first of a cycle.
use Rattle.std.proofs.Common.{◌≡◌, ◌≢◌, ℕ, zero, suc, ◌+◌, ◌-◌, ◌<◌, ◌≤◌, List, length, true, false, Option, Some, None, refl, sym, ◌∙◌, ap, subst, arith, inl, inr, ◌⊎◌, ⊎_elim}
use Rattle.std.specs.Prelude.{◌==◌, slice_get, unwrap_or, option_and_then, if◌then◌else◌}
use Rattle.std.specs.List.{position_or_len}
use Rattle.std.specs.Str.{bytes_eq}
use Rattle.std.proofs.lemmas.Bool.{cases_eq, cases_lt, eq-eqb, ne_eqb, le-ltb, lt-ltb, false≢true}
use Rattle.std.proofs.lemmas.Option.{same_Some}
use Rattle.ss_ast.specs.Expressions.{NameTree}
use Rattle.ss_ast.specs.Programs.{ClassTree}
use Rattle.ss_tables.specs.Classes.{class_named, above_written, above_in, above, steps_above}
use Rattle.ss_resolver_names_rules.specs.Programs.{comes_back, is_first_of_cycle}

-- ---- of more numbers than there are below n two are the same

record Twice (f : ℕ → ℕ) (n : ℕ) : Type 0 where
  first : ℕ
  second : ℕ
  apart : first < second
  within : second ≤ n
  same : f first ≡ f second

-- one of the numbers up to m is v, or none is
look_for : (f : ℕ → ℕ) (v m : ℕ) → ((i : ℕ) × (i < m) × (f i ≡ v)) ⊎ ((i : ℕ) → i < m → f i ≢ v)
look_for f v zero = inr (λ i l. absurd (omega arith))
look_for f v (suc m) =
    ⊎_elim
    (λ here. inl (m, omega arith, here))
    (λ other. ⊎_elim
    (λ w. let l = w.1 in inl (w.0, omega arith, w.2))
    (λ none. inr (λ i l. ⊎_elim (λ last. λ e. other (subst (λ k. f k ≡ v) last e)) (λ less. none i less) (last_or_less i m l)))
    (look_for f v m))
    (cases_eq (f m) v)
  where
    last_or_less : (i m : ℕ) → i < suc m → (i ≡ m) ⊎ (i < m)
    last_or_less i m l = ⊎_elim (λ less. inr less) (λ past. inl (omega arith)) (cases_lt i m)

-- with the value n put in place of
moved : (ℕ → ℕ) → ℕ → ℕ → ℕ
moved f n i = if f i == n then f (suc n) else f i

moved_small : (f : ℕ → ℕ) (n i : ℕ) → f i < suc n → f (suc n) < suc n → f i ≢ f (suc n) → moved f n i < n
unfolding moved
moved_small f n i l last other =
    ⊎_elim
    (λ here. let differs : f (suc n) ≢ n = λ e. other (here ∙ sym e) in rw (eq-eqb (f i) n here) (omega arith))
    (λ past. rw (ne_eqb (f i) n past) (omega arith))
    (cases_eq (f i) n)

moved_same : (f : ℕ → ℕ) (n i j : ℕ) → f i ≢ f (suc n) → f j ≢ f (suc n) → moved f n i ≡ moved f n j → f i ≡ f j
unfolding moved
moved_same f n i j one other e =
    ⊎_elim
    (λ hi. ⊎_elim
    (λ hj. hi ∙ sym hj)
    (λ pj. absurd (other (sym (rw (eq-eqb (f i) n hi, ne_eqb (f j) n pj) at e))))
    (cases_eq (f j) n))
    (λ pi. ⊎_elim
    (λ hj. absurd (one (rw (ne_eqb (f i) n pi, eq-eqb (f j) n hj) at e)))
    (λ pj. rw (ne_eqb (f i) n pi, ne_eqb (f j) n pj) at e)
    (cases_eq (f j) n))
    (cases_eq (f i) n)

twice_among : (n : ℕ) (f : ℕ → ℕ) → ((i : ℕ) → i ≤ n → f i < n) → Twice f n
twice_among zero f small = let l = small 0 (omega arith) in absurd (omega arith)
twice_among (suc n) f small =
    ⊎_elim
    (λ w. let l = w.1 in record { first = w.0; second = suc n; apart = l; within = omega arith; same = w.2 })
    (λ none.
    let r = twice_among n (moved f n) (λ i l. moved_small f n i (small i (omega arith)) (small (suc n) (omega arith)) (none i (omega arith))) in
    let a = r.apart in
    let b = r.within in
    record { first = r.first; second = r.second; apart = a; within = omega arith; same = moved_same f n r.first r.second (none r.first (omega arith)) (none r.second (omega arith)) r.same })
    (look_for f (f (suc n)) (suc n))

-- ---- the least of some numbers

record Least (f : ℕ → ℕ) (i d : ℕ) : Type 0 where
  place : ℕ
  low : i ≤ place
  high : place < i + suc d
  least : (j : ℕ) → i ≤ j → j < i + suc d → f place ≤ f j

least_of : (f : ℕ → ℕ) (i d : ℕ) → Least f i d
least_of f i zero = record { place = i; low = omega arith; high = omega arith; least = λ j l m. let e : i ≡ j = omega arith in subst (λ k. f i ≤ f k) e (omega arith) }
least_of f i (suc d) =
    let r = least_of f i d in
    let a = r.low in
    let b = r.high in
    ⊎_elim
    (λ less. record { place = i + suc d; low = omega arith; high = omega arith; least = λ j l m. ⊎_elim (λ before. let q = r.least j l before in omega arith) (λ past. let e : i + suc d ≡ j = omega arith in subst (λ k. f (i + suc d) ≤ f k) e (omega arith)) (cases_lt j (i + suc d)) })
    (λ more. record { place = r.place; low = a; high = omega arith; least = λ j l m. ⊎_elim (λ before. r.least j l before) (λ past. let e : i + suc d ≡ j = omega arith in subst (λ k. f r.place ≤ f k) e more) (cases_lt j (i + suc d)) })
    (cases_lt (f (i + suc d)) (f r.place))

-- ---- walks

pub named_within : (cs : List ClassTree) (n : List ℕ) (i : ℕ) → class_named cs n ≡ Some i → i < length cs
named_within cs n i e =
    let test = λ (c : ClassTree). bytes_eq n c.name.text in
    let at = position_or_len test cs in
    ⊎_elim
    (λ less. let it : Some at ≡ Some i = rw (lt-ltb at (length cs) less) at e in let same = same_Some at i it in omega arith)
    (λ past. absurd (let bad : None ≡ Some i = rw (le-ltb at (length cs) past) at e in let z : ⊥ = cc in z))
    (cases_lt at (length cs))

pub above_within : (cs : List ClassTree) (j i : ℕ) → above cs j ≡ Some i → i < length cs
above_within cs j i h = of_class (slice_get cs j) h
  where
    of_name : (o : Option NameTree) → above_written cs o ≡ Some i → i < length cs
    of_name None e = absurd (let z : ⊥ = cc in z)
    of_name (Some n) e = named_within cs n.text i e

    of_class : (o : Option ClassTree) → above_in cs o ≡ Some i → i < length cs
    of_class None e = absurd (let z : ⊥ = cc in z)
    of_class (Some c) e = of_name c.above e

pub above_from : (cs : List ClassTree) (j i : ℕ) → above cs j ≡ Some i → (c : ClassTree) × (slice_get cs j ≡ Some c)
above_from cs j i h = of_class (slice_get cs j) refl h
  where
    of_class : (o : Option ClassTree) → slice_get cs j ≡ o → above_in cs o ≡ Some i → (c : ClassTree) × (slice_get cs j ≡ Some c)
    of_class None e h = absurd (let z : ⊥ = cc in z)
    of_class (Some c) e h = (c, e)

pub steps_more : (cs : List ClassTree) (n : ℕ) (o : Option ℕ) → steps_above cs (suc n) o ≡ option_and_then (above cs) (steps_above cs n o)
steps_more cs zero None = refl
steps_more cs zero (Some k) = refl
steps_more cs (suc n) None = refl
steps_more cs (suc n) (Some k) = steps_more cs n (above cs k)

step_before : (cs : List ClassTree) (o : Option ℕ) (x : ℕ) → option_and_then (above cs) o ≡ Some x → (y : ℕ) × (o ≡ Some y) × (above cs y ≡ Some x)
step_before cs None x h = absurd (let z : ⊥ = cc in z)
step_before cs (Some y) x h = (y, refl, h)

-- where a walk of so many steps comes somewhere, so does each shorter one
earlier : (cs : List ClassTree) (o : Option ℕ) (i d x : ℕ) → steps_above cs (i + d) o ≡ Some x → (y : ℕ) × (steps_above cs i o ≡ Some y)
earlier cs o i zero x h = let e : i + 0 ≡ i = omega arith in (x, rw e at h)
earlier cs o i (suc d) x h =
    let e : i + suc d ≡ suc (i + d) = omega arith in
    let r = step_before cs (steps_above cs (i + d) o) x (sym (steps_more cs (i + d) o) ∙ (rw e at h)) in
    earlier cs o i d r.0 r.1

-- the class that the walk from k has come to
reached : List ClassTree → ℕ → ℕ → ℕ
reached cs k i = unwrap_or (steps_above cs i (Some k)) 0

module _ (cs : List ClassTree) (k x : ℕ) (within : k < length cs) (far : steps_above cs (length cs) (Some k) ≡ Some x) where
  reaches : (i : ℕ) → i ≤ length cs → steps_above cs i (Some k) ≡ Some (reached cs k i)
  unfolding reached
  reaches i l =
      let e : length cs ≡ i + (length cs - i) = omega arith in
      let r = earlier cs (Some k) i (length cs - i) x (subst (λ n. steps_above cs n (Some k) ≡ Some x) e far) in
      rw r.1 refl

  stepped : (i : ℕ) → i < length cs → above cs (reached cs k i) ≡ Some (reached cs k (i + 1))
  stepped i l =
      let here = reaches i (omega arith) in
      let next = reaches (i + 1) (omega arith) in
      let e : i + 1 ≡ suc i = omega arith in
      sym (ap (option_and_then (above cs)) here) ∙ sym (steps_more cs i (Some k)) ∙ ap (λ n. steps_above cs n (Some k)) (sym e) ∙ next

  small : (i : ℕ) → i ≤ length cs → reached cs k i < length cs
  unfolding reached
  small zero l = within
  small (suc i) l =
      let e : i + 1 ≡ suc i = omega arith in
      subst (λ n. reached cs k n < length cs) e (above_within cs (reached cs k i) (reached cs k (i + 1)) (stepped i (omega arith)))

  -- over classes from m on the walk from i goes on to i + r
  walks : (m r fuel i : ℕ) → i + r ≤ length cs → ((j : ℕ) → i ≤ j → j < i + r → m ≤ reached cs k j) → comes_back cs m fuel (Some (reached cs k (i + r))) ≡ true → comes_back cs m (r + fuel) (Some (reached cs k i)) ≡ true
  walks m zero fuel i inside later h =
      let e : i + 0 ≡ i = omega arith in
      let f : 0 + fuel ≡ fuel = omega arith in
      rw f (subst (λ n. comes_back cs m fuel (Some (reached cs k n)) ≡ true) e h)
  walks m (suc r) fuel i inside later h =
      let e : i + suc r ≡ i + 1 + r = omega arith in
      let f : suc r + fuel ≡ suc (r + fuel) = omega arith in
      let up = stepped i (omega arith) in
      let rest = walks m r fuel (i + 1) (omega arith) (λ j a b. later j (omega arith) (omega arith)) (subst (λ n. comes_back cs m fuel (Some (reached cs k n)) ≡ true) e h) in
      let here = later i (omega arith) (omega arith) in
      rw f
      (⊎_elim
      (λ same. rw (eq-eqb (reached cs k i) m same) refl)
      (λ other. rw (ne_eqb (reached cs k i) m other, le-ltb (reached cs k i) m here, up) rest)
      (cases_eq (reached cs k i) m))

  -- so there is the first class of a cycle
  cycle : (j y : ℕ) × (above cs j ≡ Some y) × (is_first_of_cycle cs j ≡ true)
  cycle =
      let t = twice_among (length cs) (reached cs k) small in
      let a = t.first in
      let b = t.second in
      let apart = t.apart in
      let inside = t.within in
      let least = least_of (reached cs k) a (b - a - 1) in
      let m = least.place in
      let low = least.low in
      let high = least.high in
      let c = reached cs k m in
      let up = stepped m (omega arith) in
      let end : comes_back cs c (suc (length cs - (b - a))) (Some (reached cs k (a + (m - a)))) ≡ true = (let e : a + (m - a) ≡ m = omega arith in rw (e, eq-eqb (reached cs k m) (reached cs k m) refl) refl) in
      let second = walks c (m - a) (suc (length cs - (b - a))) a (omega arith) (λ j l h. least.least j l (omega arith)) end in
      let middle : comes_back cs c (m - a + suc (length cs - (b - a))) (Some (reached cs k (m + 1 + (b - (m + 1))))) ≡ true =
      (let e : m + 1 + (b - (m + 1)) ≡ b = omega arith in subst (λ n. comes_back cs c (m - a + suc (length cs - (b - a))) (Some n) ≡ true) (t.same ∙ ap (reached cs k) (sym e)) second) in
      let first = walks c (b - (m + 1)) (m - a + suc (length cs - (b - a))) (m + 1) (omega arith) (λ j l h. least.least j (omega arith) (omega arith)) middle in
      let fuel : b - (m + 1) + (m - a + suc (length cs - (b - a))) ≡ length cs = omega arith in
      (c, reached cs k (m + 1), up, ap (λ o. comes_back cs c (length cs) o) up ∙ subst (λ n. comes_back cs c n (Some (reached cs k (m + 1))) ≡ true) fuel first)

-- where no class is the first of a cycle each walk ends within as many steps as there are classes
pub walks_end : (cs : List ClassTree) → ((j y : ℕ) → above cs j ≡ Some y → is_first_of_cycle cs j ≡ false) → (k : ℕ) → k < length cs → steps_above cs (length cs) (Some k) ≡ None
walks_end cs none k within = look (steps_above cs (length cs) (Some k)) refl
  where
    look : (o : Option ℕ) → steps_above cs (length cs) (Some k) ≡ o → steps_above cs (length cs) (Some k) ≡ None
    look None e = e
    look (Some x) e = let w = cycle cs k x within e in absurd (false≢true (sym (none w.0 w.1 w.2) ∙ w.3))
