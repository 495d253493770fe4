-- Nothing is known of the locals of a set, one after the other.
use Rattle.std.proofs.Common.{◌≡◌, ◌≢◌, ℕ, ◌+◌, ◌<◌, ◌≤◌, Bool, true, false, List, length, Option, Some, None, refl, sym, ap, ◌∙◌, ⊎_elim, arith}
use Rattle.std.specs.Prelude.{◌==◌, ◌&&◌, ◌||◌, not, nat_lt, if◌then◌else◌, option_map}
use Rattle.std.proofs.lemmas.Bool.{cases_eq, cases_lt, eq-eqb, ne_eqb, lt-ltb, le-ltb}
use Rattle.ss_bit_set.specs.Marked.{listed}
use Rattle.ss_bit_set.proofs.Lists.{listed_past}
use Rattle.ss_core.specs.Tree.{StmtTree}
use Rattle.ss_store_rules.specs.Locals.{assigns}
use Rattle.ss_store_rules.specs.NonNull.{Facts, no_facts, both, Known, with_local, says_nothing, known_head}
use Rattle.ss_vcgen_known.specs.Steps.{forgotten}
use Rattle.ss_vcgen_known.proofs.Listing.{same}

-- the locals of the set below n
unfoldable pub set_below : ℕ → Facts → Facts
set_below n s x = nat_lt x n && s x

and_false : (b : Bool) → (b && false) ≡ false
and_false true = refl
and_false false = refl

or_true : (b : Bool) → (b || true) ≡ true
or_true true = refl
or_true false = refl

or_false : (b : Bool) → (b || false) ≡ b
or_false true = refl
or_false false = refl

pub below_none : (s : Facts) → set_below 0 s ≡ no_facts
unfolding set_below
below_none s = same (λ x. rw (le-ltb x 0 (omega arith)) refl)

strict : (n x : ℕ) → n ≤ x → n ≢ x → n + 1 ≤ x
strict n x l ne = omega arith

pub below_in : (n : ℕ) (s : Facts) → s n ≡ true → set_below (n + 1) s ≡ both (set_below n s) (λ x. n == x)
unfolding set_below
below_in n s h =
    same
    (λ x. ⊎_elim
    (λ (e : n ≡ x). rw (eq-eqb n x e, lt-ltb x (n + 1) (omega arith)) (ap s (sym e) ∙ h ∙ sym (or_true (nat_lt x n && s x))))
    (λ (ne : n ≢ x). rw (ne_eqb n x ne)
    (⊎_elim
    (λ (l : x < n). rw (lt-ltb x n l, lt-ltb x (n + 1) (omega arith)) (sym (or_false (s x))))
    (λ (l : n ≤ x). rw (le-ltb x n l, le-ltb x (n + 1) (strict n x l ne)) refl)
    (cases_lt x n)))
    (cases_eq n x))

pub below_out : (n : ℕ) (s : Facts) → s n ≡ false → set_below (n + 1) s ≡ set_below n s
unfolding set_below
below_out n s h =
    same
    (λ x. ⊎_elim
    (λ (e : n ≡ x). rw (le-ltb x n (omega arith), lt-ltb x (n + 1) (omega arith)) (ap s (sym e) ∙ h))
    (λ (ne : n ≢ x). ⊎_elim
    (λ (l : x < n). rw (lt-ltb x n l, lt-ltb x (n + 1) (omega arith)) refl)
    (λ (l : n ≤ x). rw (le-ltb x n l, le-ltb x (n + 1) (strict n x l ne)) refl)
    (cases_lt x n))
    (cases_eq n x))

pub below_all : (bs : List Bool) (n : ℕ) → length bs ≤ n → set_below n (listed bs) ≡ listed bs
unfolding set_below
below_all bs n l =
    same
    (λ x. ⊎_elim
    (λ (b : x < n). rw (lt-ltb x n b) refl)
    (λ (a : n ≤ x). rw (le-ltb x n a, listed_past bs x (omega arith)) refl)
    (cases_lt x n))

-- ---- none, and one more

facts_none : (b : Bool) → (b && not false) ≡ b
facts_none true = refl
facts_none false = refl

side_none : (f : Option Facts) → option_map (λ g y. g y && not false) f ≡ f
side_none None = refl
side_none (Some f) = ap (λ g. Some g) (same (λ y. facts_none (f y)))

pub forgotten_none : (k : Known) → forgotten no_facts k ≡ k
forgotten_none k = λ i. record {
  facts = λ x. facts_none (k.facts x) i;
  sides = λ x v. side_none (k.sides x v) i;
  fields = k.fields;
}

fact_one : (b in_set f : Bool) → (if b then false else (f && not in_set)) ≡ (f && not (in_set || b))
fact_one true true f = sym (and_false f)
fact_one true false f = sym (and_false f)
fact_one false true f = refl
fact_one false false f = refl

both_not : (f a b : Bool) → ((f && not a) && not b) ≡ (f && not (a || b))
both_not false a b = refl
both_not true true b = refl
both_not true false b = refl

side_one : (n : ℕ) (s : Facts) (b in_set : Bool) (f : Option Facts) →
    (if b then Some no_facts else option_map (λ g z. g z && not (n == z)) (if in_set then Some no_facts else option_map (λ g z. g z && not (s z)) f))
    ≡ (if in_set || b then Some no_facts else option_map (λ g z. g z && not (s z || n == z)) f)
side_one n s true true f = refl
side_one n s true false f = refl
side_one n s false true f = refl
side_one n s false false None = refl
side_one n s false false (Some g) = ap (λ h. Some h) (same (λ z. both_not (g z) (s z) (n == z)))

pub forgotten_one : (n : ℕ) (s : Facts) (k : Known) → with_local n false says_nothing (forgotten s k) ≡ forgotten (both s (λ z. n == z)) k
forgotten_one n s k = λ i. record {
  facts = λ y. fact_one (n == y) (s y) (k.facts y) i;
  sides = λ y v. side_one n s (n == y) (s y) (k.sides y v) i;
  fields = k.fields;
}

-- ---- in a loop

pub forget_begin : (s : Facts) (k : Known) → k ≡ forgotten (set_below 0 s) k
forget_begin s k = sym (forgotten_none k) ∙ ap (λ f. forgotten f k) (sym (below_none s))

pub forget_next : (n : ℕ) (s : Facts) (j k l : Known) → s n ≡ true → j ≡ forgotten (set_below n s) k → l ≡ with_local n false says_nothing j → l ≡ forgotten (set_below (n + 1) s) k
forget_next n s j k l h e step = step ∙ ap (with_local n false says_nothing) e ∙ forgotten_one n (set_below n s) k ∙ ap (λ f. forgotten f k) (sym (below_in n s h))

pub forget_not : (n : ℕ) (s : Facts) (j k : Known) → s n ≡ false → j ≡ forgotten (set_below n s) k → j ≡ forgotten (set_below (n + 1) s) k
forget_not n s j k h e = e ∙ ap (λ f. forgotten f k) (sym (below_out n s h))

forget_by : (n : ℕ) (s : Facts) (j k l : Known) (b : Bool) → s n ≡ b → j ≡ forgotten (set_below n s) k → l ≡ (if b then with_local n false says_nothing j else j) → l ≡ forgotten (set_below (n + 1) s) k
forget_by n s j k l true h e step = forget_next n s j k l h e step
forget_by n s j k l false h e step = step ∙ forget_not n s j k h e

-- the local, if it is in the set
pub forget_one : (n : ℕ) (s : Facts) (j k l : Known) → j ≡ forgotten (set_below n s) k → l ≡ (if s n then with_local n false says_nothing j else j) → l ≡ forgotten (set_below (n + 1) s) k
forget_one n s j k l e step = forget_by n s j k l (s n) refl e step

pub forget_end : (bs : List Bool) (n : ℕ) (j k : Known) → length bs ≤ n → j ≡ forgotten (set_below n (listed bs)) k → j ≡ forgotten (listed bs) k
forget_end bs n j k l e = e ∙ ap (λ f. forgotten f k) (below_all bs n l)

pub forgotten_at_head : (s : StmtTree) (set : Facts) (j k : Known) → set ≡ assigns s → j ≡ forgotten set k → j ≡ known_head s k
forgotten_at_head s set j k e h = h ∙ ap (λ f. forgotten f k) e
