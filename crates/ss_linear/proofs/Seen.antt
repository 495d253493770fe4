-- What is so at numbers of terms.
use Rattle.std.proofs.Common.{◌≡◌, inl, ℕ, zero, suc, ◌<◌, ◌≤◌, ℤ, pos, negsuc, ◌+ℤ◌, ◌*ℤ◌, List, [], ◌∷◌, ◌++◌, length, Bool, true, false, Option, Some, None, refl, sym, ◌∙◌, ap, subst, arith}
use Rattle.std.specs.Prelude.{if◌then◌else◌}
use Rattle.std.proofs.lemmas.Int.{ints}
use borrow.Author.Differences.{product_is}
use Rattle.ss_core.specs.Tree.{ClassTree}
use Rattle.ss_logic.specs.declared.Sort.TheVariants as sort
use Rattle.ss_logic.specs.Terms.{Term, same_sort, sort_of}
use Rattle.ss_logic.specs.Formulas.{Formula}
use Rattle.ss_logic.specs.Shapes.{equal}
use Rattle.ss_logic.specs.Sums.{LinearSum, SumFact, add_times, sum_times, linear, difference, sum_fact, sum_fact_of}
use Rattle.ss_linear_rules.specs.Two.{fact_at, Two}
use Rattle.ss_linear_rules.specs.Valued.{sum_at, IsMetBy, IsMetAt}
use Rattle.ss_linear_rules.proofs.Values.{add_times_value}
use Rattle.ss_logic.proofs.Summed.{some_is}
use Rattle.ss_linear.specs.Met.{Meets, MeetsSome, IsSeen, AllMet, AllSaid, AreMet}
use Rattle.ss_linear.proofs.Tests.{none_found}

-- ---- what is seen

pub seen_some : (may : Bool) (v : Term → ℤ) (o : Option SumFact) (fact : SumFact) → o ≡ Some fact → IsMetBy fact.is_equality (sum_at v fact.sum) → IsSeen may v o
seen_some true v o fact e h = subst (λ (x : Option SumFact). Meets v x) (sym e) h
seen_some false v o fact e h = subst (λ (x : Option SumFact). MeetsSome v x) (sym e) h

pub seen_none : (may : Bool) (v : Term → ℤ) (o : Option SumFact) → o ≡ None → may ≡ true → IsSeen may v o
seen_none true v o e h = subst (λ (x : Option SumFact). Meets v x) (sym e) tt
seen_none false v o e h = absurd (let no : ⊥ = cc in no)

some_meets : (v : Term → ℤ) (o : Option SumFact) → MeetsSome v o → Meets v o
some_meets v None h = tt
some_meets v (Some fact) h = h

pub seen_meets : (may : Bool) (v : Term → ℤ) (o : Option SumFact) → IsSeen may v o → Meets v o
seen_meets true v o h = h
seen_meets false v o h = some_meets v o h

pub seen_said : (may : Bool) (v : Term → ℤ) (o : Option SumFact) → may ≡ false → IsSeen may v o → MeetsSome v o
seen_said true v o e h = absurd (let no : ⊥ = cc in no)
seen_said false v o e h = h

-- ---- all facts, by their places

module _ (cs : List ClassTree) (v : Term → ℤ) where
  said_list : (es : List Formula) → ((k : ℕ) → k < length es → MeetsSome v (fact_at cs es k)) → AllSaid cs v es
  said_list [] h = tt
  said_list (e ∷ es) h = (h zero (omega arith), said_list es (λ k l. h (suc k) (omega arith)))

  known_list : (fs es : List Formula) → ((k : ℕ) → k < length (fs ++ es) → Meets v (fact_at cs (fs ++ es) k)) → AllMet cs v fs
  known_list [] es h = tt
  known_list (f ∷ fs) es h = (h zero (omega arith), known_list fs es (λ k l. h (suc k) (omega arith)))

  others_list : (fs es : List Formula) → ((k : ℕ) → k < length (fs ++ es) → length fs ≤ k → MeetsSome v (fact_at cs (fs ++ es) k)) → AllSaid cs v es
  others_list [] es h = said_list es (λ k l. h k l (omega arith))
  others_list (f ∷ fs) es h = others_list fs es (λ k l m. h (suc k) (omega arith) (omega arith))

  pub are_met : (fs es : List Formula) → ((k : ℕ) → k < length (fs ++ es) → Meets v (fact_at cs (fs ++ es) k)) → ((k : ℕ) → k < length (fs ++ es) → length fs ≤ k → MeetsSome v (fact_at cs (fs ++ es) k)) → AreMet cs fs es
  are_met fs es met said = record { numbers = v; met = known_list fs es met; said = others_list fs es said }

  pub both_met : (fs es : List Formula) → AllMet cs v fs → AllMet cs v es → AllMet cs v (fs ++ es)
  both_met [] es h k = k
  both_met (f ∷ fs) es h k = (h.0, both_met fs es h.1 k)

  met_at_each : (fs : List Formula) → AllMet cs v fs → (k : ℕ) → IsMetAt cs fs v k
  met_at_each [] h k fact e = absurd (let no : ⊥ = cc in no)
  met_at_each (f ∷ fs) h zero fact e = subst (λ (o : Option SumFact). Meets v o) e h.0
  met_at_each (f ∷ fs) h (suc k) fact e = met_at_each fs h.1 k fact e

  -- facts that are all so at some numbers are no contradiction
  pub no_two : (fs : List Formula) → AllMet cs v fs → Two cs fs → ⊥
  no_two fs h two = none_found cs fs v (λ k fact e d. met_at_each fs h k fact e) (λ i. inl (met_at_each fs h i)) two

-- ---- equalities

-- the term is a sum that comes to the number
pub record Comes (v : Term → ℤ) (z : ℤ) (t : Term) : Type 0 where
  pub sum : LinearSum
  pub is : linear t ≡ Some sum
  pub value : sum_at v sum ≡ z

-- two terms are sums that come to one number
pub record AreOne (v : Term → ℤ) (x y : Term) : Type 0 where
  pub number : ℤ
  pub left : Comes v number x
  pub right : Comes v number y

pub same_number : (v : Term → ℤ) (y z : ℤ) (t : Term) → Comes v y t → Comes v z t → y ≡ z
same_number v y z t a b = sym a.value ∙ ap (sum_at v) (some_is a.sum b.sum (sym a.is ∙ b.is)) ∙ b.value

less_one : (a b c : ℤ) → c ≡ a +ℤ (negsuc 0 *ℤ b) → c ≡ pos 0 → b ≡ a
less_one a b c e z = omega (arith, ints, product_is (negsuc 0) b)

no_less : (a b c z : ℤ) → c ≡ a +ℤ (negsuc 0 *ℤ b) → a ≡ z → b ≡ z → c ≡ pos 0
no_less a b c z e f g = omega (arith, ints, product_is (negsuc 0) b)

module _ (v : Term → ℤ) (x y : Term) where
  ends_are : (o p : Option LinearSum) → linear x ≡ o → linear y ≡ p → MeetsSome v (sum_fact true (sum_times o (negsuc 0) p)) → AreOne v x y
  ends_are None p e f h = absurd h
  ends_are (Some a) None e f h = absurd h
  ends_are (Some a) (Some b) e f h = by (add_times a (negsuc 0) b) refl h
    where
      by : (r : Option LinearSum) → add_times a (negsuc 0) b ≡ r → MeetsSome v (sum_fact true r) → AreOne v x y
      by None g k = absurd k
      by (Some c) g k = record {
        number = sum_at v a;
        left = record { sum = a; is = e; value = refl };
        right = record { sum = b; is = f; value = less_one (sum_at v a) (sum_at v b) (sum_at v c) (add_times_value v a (negsuc 0) b c g) k };
      }

  -- the sides of an equality of sums that is so come to one number
  pub sides : (cs : List ClassTree) → MeetsSome v (sum_fact_of cs (equal x y)) → AreOne v x y
  sides cs h = by (same_sort (sort_of cs [] x) sort.Whole) h
    where
      by : (b : Bool) → MeetsSome v (if b then sum_fact true (difference x y) else None) → AreOne v x y
      by true k = ends_are (linear x) (linear y) refl refl k
      by false k = absurd k

  values_meet : (z : ℤ) (a b : LinearSum) → sum_at v a ≡ z → sum_at v b ≡ z → (r : Option LinearSum) → add_times a (negsuc 0) b ≡ r → Meets v (sum_fact true r)
  values_meet z a b e f None g = tt
  values_meet z a b e f (Some c) g = no_less (sum_at v a) (sum_at v b) (sum_at v c) z (add_times_value v a (negsuc 0) b c g) e f

  -- an equality of sums that come to one number is so
  pub equal_meets : (cs : List ClassTree) (z : ℤ) → Comes v z x → Comes v z y → Meets v (sum_fact_of cs (equal x y))
  equal_meets cs z a b = by (same_sort (sort_of cs [] x) sort.Whole)
    where
      at : Meets v (sum_fact true (difference x y))
      at =
          subst (λ (o : Option LinearSum). Meets v (sum_fact true (sum_times o (negsuc 0) (linear y)))) (sym a.is)
          (subst (λ (o : Option LinearSum). Meets v (sum_fact true (sum_times (Some a.sum) (negsuc 0) o))) (sym b.is)
          (values_meet z a.sum b.sum a.value b.value (add_times a.sum (negsuc 0) b.sum) refl))

      by : (t : Bool) → Meets v (if t then sum_fact true (difference x y) else None)
      by true = at
      by false = tt
