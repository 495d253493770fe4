-- Entries that are linked.
use Rattle.std.proofs.Common.{◌≡◌, ℕ, zero, suc, ◌-◌, ◌<◌, ◌≤◌, List, [], ◌∷◌, ◌++◌, length, take, drop, get_or, Bool, true, false, Option, Some, None, refl, sym, ◌∙◌, ap, subst, arith, ⊎_elim}
use Rattle.std.specs.Prelude.{◌==◌, if◌then◌else◌, nat_lt, slice_get, slice_set, is_some, option_map}
use Rattle.std.specs.Option.{option_or}
use Rattle.std.proofs.lemmas.Bool.{cases_eq, eq-eqb, ne_eqb, eqb-true, ltb-true, ltb-false}
use Rattle.std.proofs.lemmas.List.{length-append, take_all, get_or_append_left, get_or-set_same, get_or-set_other}
use Rattle.std.proofs.lemmas.Option.{slice_get_within, get_or_from_slice_get}
use Rattle.ss_journal.specs.Places.{place_of, is_of, newest, AreLinked}

-- ---- one more

get_before : (xs : List ℕ) (y k : ℕ) → k < length xs → slice_get (xs ++ y ∷ []) k ≡ slice_get xs k
get_before [] y k l = absurd (omega arith)
get_before (x ∷ xs) y zero l = refl
get_before (x ∷ xs) y (suc k) l = get_before xs y k (omega arith)

get_last : (xs : List ℕ) (y : ℕ) → slice_get (xs ++ y ∷ []) (length xs) ≡ Some y
get_last [] y = refl
get_last (x ∷ xs) y = get_last xs y

or_last : (xs : List ℕ) (y : ℕ) → get_or (xs ++ y ∷ []) (length xs) 0 ≡ y
or_last [] y = refl
or_last (x ∷ xs) y = or_last xs y

one_more : (xs : List ℕ) (y : ℕ) → length (xs ++ y ∷ []) ≡ suc (length xs)
one_more [] y = refl
one_more (x ∷ xs) y = ap suc (one_more xs y)

pub all_but_last : {X : Type 0} (xs : List X) (y : X) → take (length (xs ++ y ∷ []) - 1) (xs ++ y ∷ []) ≡ xs
all_but_last [] y = refl
all_but_last (x ∷ xs) y =
    let l = length-append xs (y ∷ []) in
    let n : length (x ∷ (xs ++ y ∷ [])) - 1 ≡ suc (length (xs ++ y ∷ []) - 1) = omega (arith, l) in
    ap (λ i. take i (x ∷ (xs ++ y ∷ []))) n ∙ ap (λ r. x ∷ r) (all_but_last xs y)

-- ---- the newest

newest_before : (xs : List ℕ) (y q k : ℕ) → k ≤ length xs → newest (xs ++ y ∷ []) q k ≡ newest xs q k
newest_before xs y q zero l = refl
newest_before xs y q (suc k) l = rw (get_before xs y k (omega (arith, l)), newest_before xs y q k (omega (arith, l))) refl

newest_pushed : (xs : List ℕ) (y q : ℕ) → newest (xs ++ y ∷ []) q (length (xs ++ y ∷ [])) ≡ (if q == y then suc (length xs) else newest xs q (length xs))
newest_pushed xs y q =
    ap (newest (xs ++ y ∷ []) q) (one_more xs y)
    ∙ ap (λ r. if is_of r q then suc (length xs) else newest (xs ++ y ∷ []) q (length xs)) (get_last xs y)
    ∙ ap (λ n. if q == y then suc (length xs) else n) (newest_before xs y q (length xs) (omega arith))

pub newest_within : (xs : List ℕ) (q k : ℕ) → newest xs q k ≤ k
newest_within xs q zero = omega arith
newest_within xs q (suc k) = by_is (is_of (slice_get xs k) q) (newest_within xs q k)
  where
    by_is : (b : Bool) → newest xs q k ≤ k → (if b then suc k else newest xs q k) ≤ suc k
    by_is true l = omega arith
    by_is false l = omega (arith, l)

is_of_some : (r : Option ℕ) (q : ℕ) → is_of r q ≡ true → r ≡ Some q
is_of_some None q e = cc
is_of_some (Some x) q e = ap Some (sym (eqb-true q x e))

pub newest_is : (xs : List ℕ) (q k i : ℕ) → newest xs q k ≡ suc i → slice_get xs i ≡ Some q
newest_is xs q zero i e = cc
newest_is xs q (suc k) i e = by_is (is_of (slice_get xs k) q) (newest_is xs q k i) refl e
  where
    by_is : (b : Bool) → (newest xs q k ≡ suc i → slice_get xs i ≡ Some q) → is_of (slice_get xs k) q ≡ b → (if b then suc k else newest xs q k) ≡ suc i → slice_get xs i ≡ Some q
    by_is true below is e = let same : k ≡ i = omega (arith, e) in ap (slice_get xs) (sym same) ∙ is_of_some (slice_get xs k) q is
    by_is false below is e = below e

-- ---- the first of them

more_step : (b c : Bool) (r : Option ℕ) (n : ℕ) → (if b then Some 0 else option_map suc (option_or r (if c then Some n else None))) ≡ option_or (if b then Some 0 else option_map suc r) (if c then Some (suc n) else None)
more_step true c r n = refl
more_step false true None n = refl
more_step false true (Some x) n = refl
more_step false false None n = refl
more_step false false (Some x) n = refl

place_more : (xs : List ℕ) (y q : ℕ) → place_of (xs ++ y ∷ []) q ≡ option_or (place_of xs q) (if q == y then Some (length xs) else None)
place_more [] y q = refl
place_more (x ∷ xs) y q = ap (λ r. if q == x then Some 0 else option_map suc r) (place_more xs y q) ∙ more_step (q == x) (q == y) (place_of xs q) (length xs)

or_none : (r : Option ℕ) → option_or r None ≡ r
or_none None = refl
or_none (Some x) = refl

drop_none : (n : ℕ) → drop {A = ℕ} n [] ≡ []
drop_none zero = refl
drop_none (suc n) = refl

place_other : (from : ℕ) (xs : List ℕ) (y q : ℕ) → (q == y) ≡ false → place_of (drop from (xs ++ y ∷ [])) q ≡ place_of (drop from xs) q
place_other zero xs y q n = place_more xs y q ∙ ap (λ b. option_or (place_of xs q) (if b then Some (length xs) else None)) n ∙ or_none (place_of xs q)
place_other (suc from) [] y q n = ap (λ ys. place_of ys q) (drop_none from)
place_other (suc from) (x ∷ xs) y q n = place_other from xs y q n

place_same : (from : ℕ) (xs : List ℕ) (q : ℕ) → from ≤ length xs → place_of (drop from (xs ++ q ∷ [])) q ≡ option_or (place_of (drop from xs) q) (Some (length xs - from))
place_same zero xs q l = place_more xs q q ∙ ap (λ b. option_or (place_of xs q) (if b then Some (length xs) else None)) (eq-eqb q q refl) ∙ ap (λ m. option_or (place_of xs q) (Some m)) (let n : length xs ≡ length xs - 0 = omega arith in n)
place_same (suc from) [] q l = absurd (omega arith)
place_same (suc from) (x ∷ xs) q l = place_same from xs q (omega (arith, l)) ∙ ap (λ m. option_or (place_of (drop from xs) q) (Some m)) (let n : length xs - from ≡ length (x ∷ xs) - suc from = omega arith in n)

take_some : (xs : List ℕ) (k q : ℕ) → slice_get xs k ≡ Some q → take (suc k) xs ≡ take k xs ++ q ∷ []
take_some [] k q e = cc
take_some (x ∷ xs) zero q e = let same : x ≡ q = cc in ap (λ y. y ∷ []) same
take_some (x ∷ xs) (suc k) q e = ap (λ r. x ∷ r) (take_some xs k q e)

take_none : (xs : List ℕ) (k : ℕ) → slice_get xs k ≡ None → take (suc k) xs ≡ take k xs
take_none [] zero e = refl
take_none [] (suc k) e = refl
take_none (x ∷ xs) zero e = cc
take_none (x ∷ xs) (suc k) e = ap (λ r. x ∷ r) (take_none xs k e)

taken : (xs : List ℕ) (k : ℕ) → k ≤ length xs → length (take k xs) ≡ k
taken xs zero l = refl
taken [] (suc k) l = absurd (omega arith)
taken (x ∷ xs) (suc k) l = ap suc (taken xs k (omega (arith, l)))

-- between two entries of one object there is none
pub skipped : (xs : List ℕ) (from q k : ℕ) → place_of (drop from (take (newest xs q k) xs)) q ≡ place_of (drop from (take k xs)) q
skipped xs from q zero = refl
skipped xs from q (suc k) = by_entry (slice_get xs k) (skipped xs from q k) refl
  where
    by_is : (x : ℕ) (b : Bool) → place_of (drop from (take (newest xs q k) xs)) q ≡ place_of (drop from (take k xs)) q → (q == x) ≡ b → slice_get xs k ≡ Some x → place_of (drop from (take (if b then suc k else newest xs q k) xs)) q ≡ place_of (drop from (take (suc k) xs)) q
    by_is x true below is e = refl
    by_is x false below is e = below ∙ sym (place_other from (take k xs) x q is) ∙ ap (λ ys. place_of (drop from ys) q) (sym (take_some xs k x e))

    by_entry : (r : Option ℕ) → place_of (drop from (take (newest xs q k) xs)) q ≡ place_of (drop from (take k xs)) q → slice_get xs k ≡ r → place_of (drop from (take (newest xs q (suc k)) xs)) q ≡ place_of (drop from (take (suc k) xs)) q
    by_entry None below e = ap (λ r. place_of (drop from (take (if is_of r q then suc k else newest xs q k) xs)) q) e ∙ below ∙ ap (λ ys. place_of (drop from ys) q) (sym (take_none xs k e))
    by_entry (Some x) below e = ap (λ r. place_of (drop from (take (if is_of r q then suc k else newest xs q k) xs)) q) e ∙ by_is x (q == x) below refl e

or_or : (r s : Option ℕ) (n : ℕ) → option_or (option_or r (Some n)) s ≡ option_or r (Some n)
or_or None s n = refl
or_or (Some x) s n = refl

-- one entry more is passed
pub passed : (xs : List ℕ) (from q i : ℕ) (found : Option ℕ) → from ≤ i → slice_get xs i ≡ Some q → option_or (place_of (drop from (take (newest xs q i) xs)) q) (Some (i - from)) ≡ option_or (place_of (drop from (take (suc i) xs)) q) found
passed xs from q i found l e =
    let within = slice_get_within xs i q e in
    let n : length (take i xs) ≡ i = taken xs i (omega (arith, within)) in
    let same : place_of (drop from (take (suc i) xs)) q ≡ option_or (place_of (drop from (take i xs)) q) (Some (i - from)) =
    ap (λ ys. place_of (drop from ys) q) (take_some xs i q e)
    ∙ place_same from (take i xs) q (omega (arith, n, l))
    ∙ ap (λ m. option_or (place_of (drop from (take i xs)) q) (Some (m - from))) n in
    ap (λ r. option_or r (Some (i - from))) (skipped xs from q i)
    ∙ sym (ap (λ r. option_or r found) same ∙ or_or (place_of (drop from (take i xs)) q) found (i - from))

pub all_passed : (xs : List ℕ) (from q p : ℕ) (found : Option ℕ) → p ≤ from → option_or (place_of (drop from (take p xs)) q) found ≡ found
all_passed xs from q p found l = ap (λ ys. option_or (place_of ys q) found) (none from p xs l)
  where
    none : (n k : ℕ) (ys : List ℕ) → k ≤ n → drop n (take k ys) ≡ []
    none n zero ys l = drop_none n
    none zero (suc k) ys l = absurd (omega (arith, l))
    none (suc n) (suc k) [] l = refl
    none (suc n) (suc k) (y ∷ ys) l = none n k ys (omega (arith, l))

pub from_last : (xs : List ℕ) (from q p : ℕ) → p ≡ newest xs q (length xs) → option_or (place_of (drop from (take p xs)) q) None ≡ place_of (drop from xs) q
from_last xs from q p is =
    or_none (place_of (drop from (take p xs)) q)
    ∙ ap (λ n. place_of (drop from (take n xs)) q) is
    ∙ skipped xs from q (length xs)
    ∙ ap (λ ys. place_of (drop from ys) q) (take_all (length xs) xs (omega arith))

some_or : (r : Option ℕ) (n : ℕ) → is_some (option_or r (Some n)) ≡ true
some_or None n = refl
some_or (Some x) n = refl

-- whether there is one, by the newest
pub has_one : (xs : List ℕ) (from q k : ℕ) → nat_lt from (newest xs q k) ≡ is_some (place_of (drop from (take k xs)) q)
has_one xs from q k = by_place (newest xs q k) (nat_lt from (newest xs q k)) refl (newest_is xs q k) ∙ ap is_some (skipped xs from q k)
  where
    by_place : (p : ℕ) (b : Bool) → nat_lt from p ≡ b → ((i : ℕ) → p ≡ suc i → slice_get xs i ≡ Some q) → b ≡ is_some (place_of (drop from (take p xs)) q)
    by_place zero true is at = let l = ltb-true from 0 is in absurd (omega (arith, l))
    by_place (suc i) true is at =
        let l = ltb-true from (suc i) is in
        sym (ap is_some (sym (or_none (place_of (drop from (take (suc i) xs)) q)) ∙ sym (passed xs from q i None (omega (arith, l)) (at i refl))) ∙ some_or (place_of (drop from (take (newest xs q i) xs)) q) (i - from))
    by_place p false is at =
        let n = ltb-false from p is in let l : p ≤ from = omega (arith, n) in
        sym (ap is_some (sym (or_none (place_of (drop from (take p xs)) q)) ∙ all_passed xs from q p None l))

-- ---- the links

pub linked_more : (xs es ls ks : List ℕ) (q : ℕ) → AreLinked xs es ls → ((p : ℕ) → get_or ks p 0 ≡ get_or ls p 0) → q < length ks → AreLinked (xs ++ q ∷ []) (es ++ newest xs q (length xs) ∷ []) (slice_set ks q (length (xs ++ q ∷ [])))
linked_more xs es ls ks q are same room = record {
  lengths = one_more es (newest xs q (length xs)) ∙ ap suc are.lengths ∙ sym (one_more xs q);
  earlier = λ i p e.
      ⊎_elim
      (λ is.
      let at : Some q ≡ Some p = sym (get_last xs q) ∙ ap (slice_get (xs ++ q ∷ [])) (sym is) ∙ e in
      let here : q ≡ p = cc in
      ap (λ n. get_or (es ++ newest xs q (length xs) ∷ []) n 0) (is ∙ sym are.lengths)
      ∙ or_last es (newest xs q (length xs))
      ∙ ap (λ r. newest xs r (length xs)) here
      ∙ sym (newest_before xs q p (length xs) (omega arith))
      ∙ ap (newest (xs ++ q ∷ []) p) (sym is))
      (λ other.
      let l = slice_get_within (xs ++ q ∷ []) i p e in
      let n = one_more xs q in
      let before : i < length xs = omega (arith, l, n, other) in
      let m = are.lengths in
      get_or_append_left es (newest xs q (length xs) ∷ []) 0 i (omega (arith, before, m))
      ∙ are.earlier i p (sym (get_before xs q i before) ∙ e)
      ∙ sym (newest_before xs q p i (omega (arith, before))))
      (cases_eq i (length xs));
  last = λ p.
      ⊎_elim
      (λ is.
      ap (λ r. get_or (slice_set ks q (length (xs ++ q ∷ []))) r 0) is
      ∙ get_or-set_same ks q (length (xs ++ q ∷ [])) 0 room
      ∙ one_more xs q
      ∙ sym (ap (λ b. if b then suc (length xs) else newest xs p (length xs)) (eq-eqb p q is))
      ∙ sym (newest_pushed xs q p))
      (λ other.
      get_or-set_other ks q p (length (xs ++ q ∷ [])) 0 other
      ∙ same p ∙ are.last p
      ∙ sym (ap (λ b. if b then suc (length xs) else newest xs p (length xs)) (ne_eqb p q other))
      ∙ sym (newest_pushed xs q p))
      (cases_eq p q);
}

pub linked_there : (xs es ls : List ℕ) (q : ℕ) → AreLinked (xs ++ q ∷ []) es ls → q < length ls
linked_there xs es ls q are =
    within ls q (are.last q ∙ newest_pushed xs q q ∙ ap (λ b. if b then suc (length xs) else newest xs q (length xs)) (eq-eqb q q refl))
  where
    within : (ys : List ℕ) (p : ℕ) → get_or ys p 0 ≡ suc (length xs) → p < length ys
    within [] zero e = cc
    within [] (suc p) e = cc
    within (y ∷ ys) zero e = omega arith
    within (y ∷ ys) (suc p) e = let l = within ys p e in omega (arith, l)

pub linked_less : (xs es ls : List ℕ) (q e : ℕ) → AreLinked (xs ++ q ∷ []) (es ++ e ∷ []) ls → AreLinked xs es (slice_set ls q e)
linked_less xs es ls q e are =
    let n = one_more xs q in
    let m = one_more es e in
    let k = are.lengths in
    let lengths : length es ≡ length xs = omega (arith, n, m, k) in
    record {
      lengths = lengths;
      earlier = λ i p at.
          let l = slice_get_within xs i p at in
          sym (get_or_append_left es (e ∷ []) 0 i (omega (arith, l, lengths)))
          ∙ are.earlier i p (get_before xs q i l ∙ at)
          ∙ newest_before xs q p i (omega (arith, l));
      last = λ p.
          ⊎_elim
          (λ is.
          ap (λ r. get_or (slice_set ls q e) r 0) is
          ∙ get_or-set_same ls q e 0 (linked_there xs (es ++ e ∷ []) ls q are)
          ∙ sym (or_last es e)
          ∙ ap (λ i. get_or (es ++ e ∷ []) i 0) lengths
          ∙ are.earlier (length xs) q (get_last xs q)
          ∙ newest_before xs q q (length xs) (omega arith)
          ∙ ap (λ r. newest xs r (length xs)) (sym is))
          (λ other.
          get_or-set_other ls q p e 0 other
          ∙ are.last p ∙ newest_pushed xs q p
          ∙ ap (λ b. if b then suc (length xs) else newest xs p (length xs)) (ne_eqb p q other))
          (cases_eq p q);
    }

-- ---- as the code has them

or_default : (xs : List ℕ) (i d e : ℕ) → i < length xs → get_or xs i d ≡ get_or xs i e
or_default [] i d e l = absurd (omega arith)
or_default (x ∷ xs) zero d e l = refl
or_default (x ∷ xs) (suc i) d e l = or_default xs i d e (omega (arith, l))

pub first_init : (xs : List ℕ) (from q p : ℕ) → p ≡ newest xs q (length xs) → (p ≤ length xs) × ((i : ℕ) → p ≡ suc i → slice_get xs i ≡ Some q) × (option_or (place_of (drop from (take p xs)) q) None ≡ place_of (drop from xs) q)
first_init xs from q p is =
    let l = newest_within xs q (length xs) in
    (omega (arith, is, l), (λ i e. newest_is xs q (length xs) i (sym is ∙ e)), from_last xs from q p is)

before_is : (xs es ls : List ℕ) (q i n : ℕ) → AreLinked xs es ls → slice_get xs i ≡ Some q → n ≡ get_or es i n → n ≡ newest xs q i
before_is xs es ls q i n are at is =
    let l = slice_get_within xs i q at in
    let m = are.lengths in
    is ∙ or_default es i n 0 (omega (arith, l, m)) ∙ are.earlier i q at

next_step : (xs es ls : List ℕ) (from q p i n : ℕ) (found r : Option ℕ) → AreLinked xs es ls → p ≡ suc i → from ≤ i → slice_get xs i ≡ Some q → n ≡ get_or es i n → option_or (place_of (drop from (take p xs)) q) found ≡ r → (n < p) × ((n ≤ length xs) × ((j : ℕ) → n ≡ suc j → slice_get xs j ≡ Some q) × (option_or (place_of (drop from (take n xs)) q) (Some (i - from)) ≡ r))
next_step xs es ls from q p i n found r are last l at is so_far =
    let e : n ≡ newest xs q i = before_is xs es ls q i n are at is in
    let w = newest_within xs q i in
    let k = slice_get_within xs i q at in (
      omega (arith, e, w, last),
      (
        omega (arith, e, w, k),
        (λ j f. newest_is xs q i j (sym e ∙ f)),
        ap (λ m. option_or (place_of (drop from (take m xs)) q) (Some (i - from))) e
            ∙ passed xs from q i found l at
            ∙ ap (λ m. option_or (place_of (drop from (take m xs)) q) found) (sym last)
            ∙ so_far,
      ),
    )

pub first_next : (xs es ls now : List ℕ) (from q p n : ℕ) (found r : Option ℕ) → AreLinked xs es ls → xs ≡ now → ((i : ℕ) → p ≡ suc i → slice_get now i ≡ Some q) → from < p → n ≡ get_or es (p - 1) n → option_or (place_of (drop from (take p now)) q) found ≡ r → (n < p) × ((n ≤ length now) × ((j : ℕ) → n ≡ suc j → slice_get now j ≡ Some q) × (option_or (place_of (drop from (take n now)) q) (Some (p - 1 - from)) ≡ r))
first_next xs es ls now from q p n found r are same at l is so_far =
    let last : p ≡ suc (p - 1) = omega (arith, l) in
    next_step now es ls from q p (p - 1) n found r (subst (λ zs. AreLinked zs es ls) same are) last (omega (arith, l)) (at (p - 1) last) is so_far

pub has_is : (xs : List ℕ) (from q p : ℕ) → p ≡ newest xs q (length xs) → nat_lt from p ≡ is_some (place_of (drop from xs) q)
has_is xs from q p is = ap (nat_lt from) is ∙ has_one xs from q (length xs) ∙ ap (λ ys. is_some (place_of (drop from ys) q)) (take_all (length xs) xs (omega arith))

pub repeats_is : (xs es ls ds now before : List ℕ) (from q p : ℕ) → AreLinked xs es ls → xs ≡ now → now ≡ before ++ q ∷ [] → ds ≡ es → Some p ≡ slice_get ds (length ds - 1) → nat_lt from p ≡ is_some (place_of (drop from before) q)
repeats_is xs es ls ds now before from q p are same last is item =
    let linked : AreLinked (before ++ q ∷ []) es ls = subst (λ zs. AreLinked zs es ls) (same ∙ last) are in
    let n = one_more before q in
    let m = linked.lengths in
    let k : length es - 1 ≡ length before = omega (arith, n, m) in
    let at : slice_get es (length before) ≡ Some p = ap (slice_get es) (sym k) ∙ ap (λ zs. slice_get zs (length zs - 1)) (sym is) ∙ sym item in
    has_is before from q p
    (sym (get_or_from_slice_get es (length before) p 0 at)
    ∙ linked.earlier (length before) q (get_last before q)
    ∙ newest_before before q q (length before) (omega arith))

pub popped_there : (xs es ls ys : List ℕ) (q : ℕ) → AreLinked xs es ls → xs ≡ ys ++ q ∷ [] → q < length ls
popped_there xs es ls ys q are is = linked_there ys es ls q (subst (λ zs. AreLinked zs es ls) is are)

pub popped_linked : (xs es ls ys fs : List ℕ) (q e : ℕ) → AreLinked xs es ls → xs ≡ ys ++ q ∷ [] → es ≡ fs ++ e ∷ [] → AreLinked ys fs (slice_set ls q e)
popped_linked xs es ls ys fs q e are is too = linked_less ys fs ls q e (subst (λ gs. AreLinked (ys ++ q ∷ []) gs ls) too (subst (λ zs. AreLinked zs es ls) is are))

pub pushed_linked : (xs es ls ks ys fs now : List ℕ) (q e n : ℕ) → AreLinked xs es ls → xs ≡ now → ((p : ℕ) → get_or ks p 0 ≡ get_or ls p 0) → q < length ks → e ≡ newest now q (length now) → ys ≡ xs ++ q ∷ [] → fs ≡ es ++ e ∷ [] → n ≡ length ys → AreLinked ys fs (slice_set ks q n)
pushed_linked xs es ls ks ys fs now q e n are view same room before is too long =
    let b : e ≡ newest xs q (length xs) = before ∙ ap (λ zs. newest zs q (length zs)) (sym view) in
    let f : es ++ newest xs q (length xs) ∷ [] ≡ fs = ap (λ m. es ++ m ∷ []) (sym b) ∙ sym too in
    let l : length (xs ++ q ∷ []) ≡ n = ap length (sym is) ∙ sym long in
    subst (λ m. AreLinked ys fs (slice_set ks q m)) l
    (subst (λ zs. AreLinked zs fs (slice_set ks q (length (xs ++ q ∷ [])))) (sym is)
    (subst (λ gs. AreLinked (xs ++ q ∷ []) gs (slice_set ks q (length (xs ++ q ∷ [])))) f (linked_more xs es ls ks q are same room)))
