-- Constants with rising numbers, above all numbers of constants in formulas, are new for them.
use Rattle.std.proofs.Common.{◌≡◌, ℕ, ◌<◌, ◌≤◌, List, [], ◌∷◌, Bool, true, false, ◌&&◌, not, Option, Some, None, eqb, refl, sym, ◌∙◌, ap, arith}
use Rattle.std.specs.List.{list_all}
use Rattle.std.specs.Prelude.{nat_lt}
use Rattle.std.proofs.lemmas.Bool.{true≢false, ne_eqb, ltb-true}
use Rattle.std.proofs.Math.Nat.{le-max_left, le-max_right}
use Rattle.ss_logic.specs.declared.Sort.{Sort}
use Rattle.ss_logic.specs.Terms.{Symbol, Number, Fixed, Null, ClassName, Constant, Add, Subtract, Multiply, Quotient, Remainder, Field, Element, Length, TypeOf, Level, Owner, Pair, Next, Set, Put, Unpack, Pack, Capture, Join, New, NewArray, MakeReady, Term, Bound, App, Terms, no_terms, term_then, same_sort}
use Rattle.ss_logic.specs.Formulas.{Formula, Literal, And, Or, Forall, Exists, Formulas, no_formulas, formula_then, formulas_from, is_constant, term_avoids, terms_avoid, avoids, all_avoid}
use Rattle.ss_logic_means.specs.Steps.{are_new}
use Rattle.ss_terms.specs.Highest.{number_of_symbol, highest_of_term, highest_of_terms, highest, highest_of_all}
use Rattle.ss_terms_puts.specs.Entries.{constant_of}
use Rattle.ss_terms_puts.specs.Rising.{is_above, number_in, are_rising}

both : (a b : Bool) → (a && b) ≡ true → (a ≡ true) × (b ≡ true)
both true b h = (refl, h)
both false b h = absurd (true≢false (sym h))

join : (a b : Bool) → a ≡ true → b ≡ true → (a && b) ≡ true
join a b p q = ap (λ v. v && b) p ∙ q

-- ---- a number above all of a formula is that of none of its constants

differs : (s r : Sort) (j k : ℕ) → (j ≡ k → ⊥) → not (same_sort s r && eqb j k) ≡ true
differs s r j k n = ap (λ v. not (same_sort s r && v)) (ne_eqb j k n) ∙ none (same_sort s r)
  where
    none : (b : Bool) → not (b && false) ≡ true
    none true = refl
    none false = refl

module _ (s : Sort) (k : ℕ) where
  other_symbol : (f : Symbol) → number_of_symbol f < k → not (is_constant s k f) ≡ true
  other_symbol (Number n) l = refl
  other_symbol (Fixed b) l = refl
  other_symbol Null l = refl
  other_symbol (ClassName c) l = refl
  other_symbol (Constant r j) l = differs s r j k (λ e. omega (arith, l, e))
  other_symbol Add l = refl
  other_symbol Subtract l = refl
  other_symbol Multiply l = refl
  other_symbol Quotient l = refl
  other_symbol Remainder l = refl
  other_symbol (Field f) l = refl
  other_symbol (Element r) l = refl
  other_symbol Length l = refl
  other_symbol TypeOf l = refl
  other_symbol Level l = refl
  other_symbol Owner l = refl
  other_symbol Pair l = refl
  other_symbol Next l = refl
  other_symbol (Set f) l = refl
  other_symbol Put l = refl
  other_symbol (Unpack c) l = refl
  other_symbol (Pack c) l = refl
  other_symbol (Capture c) l = refl
  other_symbol Join l = refl
  other_symbol (New c) l = refl
  other_symbol (NewArray c) l = refl
  other_symbol MakeReady l = refl

  mutual
    above_term : (t : Term) → highest_of_term t < k → term_avoids s k t ≡ true
    above_term (Bound i) l = refl
    above_term (App f ts) l =
        let a = le-max_left (number_of_symbol f) (highest_of_terms ts) in
        let b = le-max_right (number_of_symbol f) (highest_of_terms ts) in
        join _ _ (other_symbol f (omega (arith, a, l))) (above_terms ts (omega (arith, b, l)))

    above_terms : (ts : Terms) → highest_of_terms ts < k → terms_avoid s k ts ≡ true
    above_terms no_terms l = refl
    above_terms (term_then t ts) l =
        let a = le-max_left (highest_of_term t) (highest_of_terms ts) in
        let b = le-max_right (highest_of_term t) (highest_of_terms ts) in
        join _ _ (above_term t (omega (arith, a, l))) (above_terms ts (omega (arith, b, l)))

  mutual
    above : (f : Formula) → highest f < k → avoids s k f ≡ true
    above (Literal holds p ts) l = above_terms ts l
    above (And fs) l = above_all fs l
    above (Or fs) l = above_all fs l
    above (Forall ss f) l = above f l
    above (Exists ss f) l = above f l

    above_all : (fs : Formulas) → highest_of_all fs < k → all_avoid s k fs ≡ true
    above_all no_formulas l = refl
    above_all (formula_then f fs) l =
        let a = le-max_left (highest f) (highest_of_all fs) in
        let b = le-max_right (highest f) (highest_of_all fs) in
        join _ _ (above f (omega (arith, a, l))) (above_all fs (omega (arith, b, l)))

  above_list : (fs : List Formula) → highest_of_all (formulas_from fs) < k → list_all (avoids s k) fs ≡ true
  above_list [] l = refl
  above_list (f ∷ fs) l =
      let a = le-max_left (highest f) (highest_of_all (formulas_from fs)) in
      let b = le-max_right (highest f) (highest_of_all (formulas_from fs)) in
      join _ _ (above f (omega (arith, a, l))) (above_list fs (omega (arith, b, l)))

-- ---- constants

abbrev back : Option (Sort × ℕ) → Term
back None = Bound 0
back (Some c) = App (Constant c.0 c.1) no_terms

constant_is : (t : Term) (s : Sort) (k : ℕ) → constant_of t ≡ Some (s, k) → t ≡ App (Constant s k) no_terms
constant_is (Bound i) s k h = cc
constant_is (App (Number n) ts) s k h = cc
constant_is (App (Fixed b) ts) s k h = cc
constant_is (App Null ts) s k h = cc
constant_is (App (ClassName c) ts) s k h = cc
constant_is (App (Constant r j) no_terms) s k h = ap back h
constant_is (App (Constant r j) (term_then t ts)) s k h = cc
constant_is (App Add ts) s k h = cc
constant_is (App Subtract ts) s k h = cc
constant_is (App Multiply ts) s k h = cc
constant_is (App Quotient ts) s k h = cc
constant_is (App Remainder ts) s k h = cc
constant_is (App (Field f) ts) s k h = cc
constant_is (App (Element r) ts) s k h = cc
constant_is (App Length ts) s k h = cc
constant_is (App TypeOf ts) s k h = cc
constant_is (App Level ts) s k h = cc
constant_is (App Owner ts) s k h = cc
constant_is (App Pair ts) s k h = cc
constant_is (App Next ts) s k h = cc
constant_is (App (Set f) ts) s k h = cc
constant_is (App Put ts) s k h = cc
constant_is (App (Unpack c) ts) s k h = cc
constant_is (App (Pack c) ts) s k h = cc
constant_is (App (Capture c) ts) s k h = cc
constant_is (App Join ts) s k h = cc
constant_is (App (New c) ts) s k h = cc
constant_is (App (NewArray c) ts) s k h = cc
constant_is (App MakeReady ts) s k h = cc

-- the first of rising constants, and those after it
rising_first : (n : ℕ) (t : Term) (ts : List Term) → are_rising n (t ∷ ts) ≡ true → (s : Sort) × (k : ℕ) × (t ≡ App (Constant s k) no_terms) × (n < k) × (are_rising k ts ≡ true)
rising_first n t ts h = by (constant_of t) refl h
  where
    by : (o : Option (Sort × ℕ)) → constant_of t ≡ o → (is_above n o && are_rising (number_in o) ts) ≡ true → (s : Sort) × (k : ℕ) × (t ≡ App (Constant s k) no_terms) × (n < k) × (are_rising k ts ≡ true)
    by None e h = absurd (true≢false (sym h))
    by (Some (s, k)) e h =
        let p = both (nat_lt n k) (are_rising k ts) h in
        (s, k, constant_is t s k e, ltb-true n k p.0, p.1)

later_avoid : (s : Sort) (k n : ℕ) (ts : List Term) → k ≤ n → are_rising n ts ≡ true → list_all (term_avoids s k) ts ≡ true
later_avoid s k n [] l h = refl
later_avoid s k n (t ∷ ts) l h =
    let first = rising_first n t ts h in
    let more = first.3 in
    join _ _ (ap (term_avoids s k) first.2 ∙ join _ _ (differs s first.0 first.1 k (λ q. omega (arith, q, l, more))) refl) (later_avoid s k first.1 ts (omega (arith, l, more)) first.4)

pub rising_are_new : (fs : List Formula) (n : ℕ) (ts : List Term) → highest_of_all (formulas_from fs) ≤ n → are_rising n ts ≡ true → are_new fs ts ≡ true
rising_are_new fs n [] l h = refl
rising_are_new fs n (t ∷ ts) l h =
    let first = rising_first n t ts h in
    let more = first.3 in
    ap (λ u. are_new fs (u ∷ ts)) first.2
    ∙ join _ _ (join _ _ (above_list first.0 first.1 fs (omega (arith, l, more))) (later_avoid first.0 first.1 first.1 ts (omega arith) first.4)) (rising_are_new fs first.1 ts (omega (arith, l, more)) first.4)
