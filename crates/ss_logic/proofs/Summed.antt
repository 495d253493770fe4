-- What sums of terms, of facts and of their weights are in a structure.
use Rattle.std.proofs.Common.{◌≡◌, ℕ, zero, suc, ℤ, pos, negsuc, ◌+ℤ◌, ◌-ℤ◌, ◌*ℤ◌, neg_ℤ, List, [], ◌∷◌, Bool, true, false, Option, Some, None, option_and_then, refl, sym, ◌∙◌, ap, subst}
use Rattle.std.specs.Prelude.{int_le, slice_get, if◌then◌else◌}
use Rattle.std.specs.Int.{int_div_euclid, int_rem_euclid, is_positive}
use Rattle.std.proofs.Math.IntN.{*ℤ_comm}
use Rattle.ss_core.specs.Tree.{ClassTree}
use Rattle.ss_logic.specs.declared.Sort.TheVariants as sort
use Rattle.ss_logic.specs.Values.{Structure, as_whole}
use Rattle.ss_logic.specs.Terms.{Number, Add, Subtract, Multiply, Term, App, no_terms, term_then, app, same_sort, sort_of}
use Rattle.ss_logic.specs.Formulas.{Equal, AtMost, Formula, Literal, True, Hold}
use Rattle.ss_logic.specs.Equal.{same_term, equal_terms}
use Rattle.ss_logic.specs.Shapes.{number, at_most, literal_of}
use Rattle.ss_logic.proofs.Options.{when_some, and_then_some, if_some}
use Rattle.ss_logic.specs.Sums.{is_within, checked, plus_times, is_zero, LinearSum, number_sum, term_sum, add_part, add_parts, add_times, sum_times, product, linear, SumFact, difference, sum_fact, sum_fact_of, is_weight, add_weighted, weighted, divided, multiple, sum_onto, sum_term, bounded, sum_of}
use Rattle.ss_logic.specs.SumsMean.{number_of, parts_value, sum_value}
use Rattle.ss_logic.proofs.NumbersInSums.{product_assoc, product_sum, times_zero, one_times, less_times, coefficient_more, sum_zero, zero_sum, first_more, rest_more, regroup, onto, zero_is, most_difference, more_difference, same_difference, zero_times, most_times, exact, floored, moved}

pub checked_is : (n r : ℤ) → checked n ≡ Some r → n ≡ r
checked_is n r h = (when_some (is_within n) n r h).1

pub plus_times_is : (a n b r : ℤ) → plus_times a n b ≡ Some r → r ≡ a +ℤ (n *ℤ b)
plus_times_is a n b r h =
    let p = and_then_some (λ c. checked (a +ℤ c)) (checked (n *ℤ b)) r h in
    sym (checked_is (a +ℤ p.0) r p.2) ∙ ap (λ x. a +ℤ x) (sym (checked_is (n *ℤ b) p.0 p.1))

not_so : (b : Bool) → (b ≡ true → ⊥) → b ≡ false
not_so true h = absurd (h refl)
not_so false h = refl

pub some_is : {A : Type 0} (x y : A) → Some x ≡ Some y → x ≡ y
some_is x y h = cc

module _ (cs : List ClassTree) (m : Structure) where
  abbrev Parts : List (Term × ℤ) → ℤ
  Parts ps = parts_value cs m ps

  abbrev Num : Term → ℤ
  Num t = number_of cs m t

  -- ---- sums of sums

  part_first : (t u : Term) (a n b c : ℤ) (ps : List (Term × ℤ)) → t ≡ u → plus_times a n b ≡ Some c → Parts ((t, c) ∷ ps) ≡ ((a *ℤ Num t) +ℤ Parts ps) +ℤ (n *ℤ (b *ℤ Num u))
  part_first t u a n b c ps e h =
      first_more (c *ℤ Num t) (a *ℤ Num t) (n *ℤ (b *ℤ Num u)) (Parts ps)
      (coefficient_more a n b c (Num t) (plus_times_is a n b c h) ∙ ap (λ x. (a *ℤ Num t) +ℤ (n *ℤ (b *ℤ Num x))) e)

  add_part_value : (n : ℤ) (q : Term × ℤ) (ps rs : List (Term × ℤ)) → add_part n q ps ≡ Some rs → Parts rs ≡ Parts ps +ℤ (n *ℤ (q.1 *ℤ Num q.0))
  add_part_value n q [] rs h =
      let p = and_then_some (λ c. Some ((q.0, c) ∷ [])) (plus_times (pos 0) n q.1) rs h in
      ap Parts (sym (some_is ((q.0, p.0) ∷ []) rs p.2))
      ∙ sum_zero (p.0 *ℤ Num q.0)
      ∙ ap (λ x. x *ℤ Num q.0) (plus_times_is (pos 0) n q.1 p.0 p.1 ∙ zero_sum (n *ℤ q.1))
      ∙ product_assoc n q.1 (Num q.0)
      ∙ sym (zero_sum (n *ℤ (q.1 *ℤ Num q.0)))
  add_part_value n q (p ∷ ps) rs h = by_test (add_part_value n q ps) (same_term p.0 q.0) refl h
    where
      by_test : ((ss : List (Term × ℤ)) → add_part n q ps ≡ Some ss → Parts ss ≡ Parts ps +ℤ (n *ℤ (q.1 *ℤ Num q.0))) → (t : Bool) → same_term p.0 q.0 ≡ t →
          (if t then option_and_then (λ c. Some ((p.0, c) ∷ ps)) (plus_times p.1 n q.1) else option_and_then (λ rest. Some (p ∷ rest)) (add_part n q ps)) ≡ Some rs →
          Parts rs ≡ Parts (p ∷ ps) +ℤ (n *ℤ (q.1 *ℤ Num q.0))
      by_test further true e k =
          let c = and_then_some (λ c. Some ((p.0, c) ∷ ps)) (plus_times p.1 n q.1) rs k in
          ap Parts (sym (some_is ((p.0, c.0) ∷ ps) rs c.2)) ∙ part_first p.0 q.0 p.1 n q.1 c.0 ps (equal_terms p.0 q.0 e) c.1
      by_test further false e k =
          let c = and_then_some (λ rest. Some (p ∷ rest)) (add_part n q ps) rs k in
          ap Parts (sym (some_is (p ∷ c.0) rs c.2)) ∙ rest_more (p.1 *ℤ Num p.0) (Parts ps) (Parts c.0) (n *ℤ (q.1 *ℤ Num q.0)) (further c.0 c.1)

  add_parts_value : (n : ℤ) (qs ps rs : List (Term × ℤ)) → add_parts n qs ps ≡ Some rs → Parts rs ≡ Parts ps +ℤ (n *ℤ Parts qs)
  add_parts_value n [] ps rs h = ap Parts (sym (some_is ps rs h)) ∙ sym (sum_zero (Parts ps)) ∙ ap (λ x. Parts ps +ℤ x) (sym (times_zero n))
  add_parts_value n (q ∷ qs) ps rs h =
      let p = and_then_some (λ more. add_parts n qs more) (add_part n q ps) rs h in
      add_parts_value n qs p.0 rs p.2
      ∙ ap (λ x. x +ℤ (n *ℤ Parts qs)) (add_part_value n q ps p.0 p.1)
      ∙ onto (Parts ps) (n *ℤ (q.1 *ℤ Num q.0)) (n *ℤ Parts qs)
      ∙ ap (λ x. Parts ps +ℤ x) (sym (product_sum n (q.1 *ℤ Num q.0) (Parts qs)))

  pub add_times_value : (a : LinearSum) (n : ℤ) (b r : LinearSum) → add_times a n b ≡ Some r → sum_value cs m r ≡ sum_value cs m a +ℤ (n *ℤ sum_value cs m b)
  add_times_value a n b r h =
      let p = and_then_some (λ ps. option_and_then (λ k. Some (record { parts = ps; constant = k })) (plus_times a.constant n b.constant)) (add_parts n b.parts a.parts) r h in
      let k = and_then_some (λ k. Some (record { parts = p.0; constant = k })) (plus_times a.constant n b.constant) r p.2 in
      let same : record { parts = p.0; constant = k.0 } ≡ r = some_is _ r k.2 in
      ap (sum_value cs m) (sym same)
      ∙ ap (λ x. x +ℤ k.0) (add_parts_value n b.parts a.parts p.0 p.1)
      ∙ ap (λ x. (Parts a.parts +ℤ (n *ℤ Parts b.parts)) +ℤ x) (plus_times_is a.constant n b.constant k.0 k.1)
      ∙ regroup (Parts a.parts) (n *ℤ Parts b.parts) a.constant (n *ℤ b.constant)
      ∙ ap (λ x. sum_value cs m a +ℤ x) (sym (product_sum n (Parts b.parts) b.constant))

  -- the sum, where there is one, is this number
  abbrev pub Is : Option LinearSum → ℤ → Type 0
  Is o x = (r : LinearSum) → o ≡ Some r → sum_value cs m r ≡ x

  is_sum : (a : LinearSum) (x : ℤ) → sum_value cs m a ≡ x → Is (Some a) x
  is_sum a x e r h = ap (sum_value cs m) (sym (some_is a r h)) ∙ e

  is_times : (a : Option LinearSum) (n : ℤ) (b : Option LinearSum) (x y : ℤ) → Is a x → Is b y → Is (sum_times a n b) (x +ℤ (n *ℤ y))
  is_times a n b x y f g r h =
      let p = and_then_some (λ x. option_and_then (λ y. add_times x n y) b) a r h in
      let q = and_then_some (λ y. add_times p.0 n y) b r p.2 in
      add_times_value p.0 n q.0 r q.2 ∙ ap (λ z. z +ℤ (n *ℤ sum_value cs m q.0)) (f p.0 p.1) ∙ ap (λ z. x +ℤ (n *ℤ z)) (g q.0 q.1)

  is_same : (o : Option LinearSum) (x y : ℤ) → x ≡ y → Is o x → Is o y
  is_same o x y e f r h = f r h ∙ e

  is_number : (n : ℤ) → Is (Some (number_sum n)) n
  is_number n = is_sum (number_sum n) n (zero_sum n)

  is_term : (t : Term) → Is (Some (term_sum t)) (Num t)
  is_term t = is_sum (term_sum t) (Num t) (sum_zero _ ∙ sum_zero (pos 1 *ℤ Num t) ∙ one_times (Num t))

  literal_is : (x : Term) (n : ℤ) → literal_of x ≡ Some n → Num x ≡ n
  literal_is (App (Number k) no_terms) n h = some_is k n h
  literal_is x n h = absurd (let no : ⊥ = cc in no)

  is_product : (x y : Term) (a b : Option LinearSum) (whole : LinearSum) → Is a (Num x) → Is b (Num y) → Is (Some whole) (Num x *ℤ Num y) →
      (o p : Option ℤ) → literal_of x ≡ o → literal_of y ≡ p → Is (product o p a b whole) (Num x *ℤ Num y)
  is_product x y a b whole f g w (Some n) p e d =
      is_same (product (Some n) p a b whole) (pos 0 +ℤ (n *ℤ Num y)) (Num x *ℤ Num y) (zero_sum (n *ℤ Num y) ∙ ap (λ z. z *ℤ Num y) (sym (literal_is x n e)))
      (is_times (Some (number_sum (pos 0))) n b (pos 0) (Num y) (is_number (pos 0)) g)
  is_product x y a b whole f g w None (Some n) e d =
      is_same (product None (Some n) a b whole) (pos 0 +ℤ (n *ℤ Num x)) (Num x *ℤ Num y)
      (zero_sum (n *ℤ Num x) ∙ ap (λ z. z *ℤ Num x) (sym (literal_is y n d)) ∙ *ℤ_comm (Num y) (Num x))
      (is_times (Some (number_sum (pos 0))) n a (pos 0) (Num x) (is_number (pos 0)) f)
  is_product x y a b whole f g w None None e d = w

  -- the sum that a term is, is its number
  pub is_linear : (t : Term) → Is (linear t) (Num t)
  is_linear (App (Number n) ts) = is_number n
  is_linear (App Add (term_then x (term_then y no_terms))) =
      is_same (sum_times (linear x) (pos 1) (linear y)) (Num x +ℤ (pos 1 *ℤ Num y)) (Num x +ℤ Num y) (ap (λ z. Num x +ℤ z) (one_times (Num y)))
      (is_times (linear x) (pos 1) (linear y) (Num x) (Num y) (is_linear x) (is_linear y))
  is_linear (App Subtract (term_then x (term_then y no_terms))) =
      is_same (sum_times (linear x) (negsuc 0) (linear y)) (Num x +ℤ (negsuc 0 *ℤ Num y)) (Num x -ℤ Num y) (less_times (Num x) (Num y))
      (is_times (linear x) (negsuc 0) (linear y) (Num x) (Num y) (is_linear x) (is_linear y))
  is_linear (App Multiply (term_then x (term_then y no_terms))) =
      is_product x y (linear x) (linear y) (term_sum (app Multiply (x ∷ y ∷ []))) (is_linear x) (is_linear y) (is_term (app Multiply (x ∷ y ∷ [])))
      (literal_of x) (literal_of y) refl refl
  is_linear t = is_term t

  -- ---- facts

  -- a sum is 0, or at most 0
  abbrev IsFact : Bool → ℤ → Type 0
  IsFact true z = z ≡ pos 0
  IsFact false z = int_le z (pos 0) ≡ true

  abbrev Meant : SumFact → Type 0
  Meant fact = IsFact fact.is_equality (sum_value cs m fact.sum)

  is_difference : (x y : Term) → Is (difference x y) (Num x -ℤ Num y)
  is_difference x y =
      is_same (difference x y) (Num x +ℤ (negsuc 0 *ℤ Num y)) (Num x -ℤ Num y) (less_times (Num x) (Num y))
      (is_times (linear x) (negsuc 0) (linear y) (Num x) (Num y) (is_linear x) (is_linear y))

  meant : (equality : Bool) (o : Option LinearSum) (z : ℤ) (fact : SumFact) → Is o z → IsFact equality z → sum_fact equality o ≡ Some fact → Meant fact
  meant equality o z fact f t h =
      let p = and_then_some (λ a. Some (record { is_equality = equality; sum = a })) o fact h in
      let same : record { is_equality = equality; sum = p.0 } ≡ fact = some_is _ fact p.2 in
      subst (λ x. Meant x) same (subst (λ x. IsFact equality x) (sym (f p.0 p.1)) t)

  pub fact_meant : (f : Formula) (fact : SumFact) → True cs m [] f → sum_fact_of cs f ≡ Some fact → Meant fact
  fact_meant (Literal true AtMost (term_then x (term_then y no_terms))) fact t h =
      meant false (difference x y) (Num x -ℤ Num y) fact (is_difference x y) (most_difference (Num x) (Num y) t) h
  fact_meant (Literal false AtMost (term_then x (term_then y no_terms))) fact t h =
      meant false (sum_times (difference y x) (pos 1) (Some (number_sum (pos 1)))) ((Num y -ℤ Num x) +ℤ pos 1) fact
      (is_times (difference y x) (pos 1) (Some (number_sum (pos 1))) (Num y -ℤ Num x) (pos 1) (is_difference y x) (is_number (pos 1)))
      (more_difference (Num x) (Num y) (not_so (int_le (Num x) (Num y)) t)) h
  fact_meant (Literal true Equal (term_then x (term_then y no_terms))) fact t h =
      let p = if_some (same_sort (sort_of cs [] x) sort.Whole) (sum_fact true (difference x y)) fact h in
      meant true (difference x y) (Num x -ℤ Num y) fact (is_difference x y) (same_difference (Num x) (Num y) (ap as_whole t)) p.1
  fact_meant f fact t h = absurd (let no : ⊥ = cc in no)

  -- ---- weighted sums

  abbrev AtMostZero : LinearSum → Type 0
  AtMostZero a = int_le (sum_value cs m a) (pos 0) ≡ true

  weighted_most : (equality : Bool) (w a z : ℤ) → is_weight equality w ≡ true → IsFact equality z → int_le a (pos 0) ≡ true → int_le (a +ℤ (w *ℤ z)) (pos 0) ≡ true
  weighted_most true w a z p f h = zero_times a w z h f
  weighted_most false w a z p f h = most_times a w z h p f

  add_weighted_most : (w : ℤ) (a b : LinearSum) (fact : SumFact) → AtMostZero a → Meant fact → add_weighted w a fact ≡ Some b → AtMostZero b
  add_weighted_most w a b fact h f e =
      let p = if_some (is_weight fact.is_equality w) (add_times a w fact.sum) b e in
      ap (λ x. int_le x (pos 0)) (add_times_value a w fact.sum b p.1) ∙ weighted_most fact.is_equality w (sum_value cs m a) (sum_value cs m fact.sum) p.0 f h

  known_true : (fs : List Formula) (i : ℕ) (f : Formula) → Hold cs m fs → slice_get fs i ≡ Some f → True cs m [] f
  known_true [] i f h e = absurd (let no : ⊥ = cc in no)
  known_true (g ∷ fs) zero f h e = subst (λ x. True cs m [] x) (some_is g f e) h.0
  known_true (g ∷ fs) (suc i) f h e = known_true fs i f h.1 e

  most_weighted : (known : List Formula) → Hold cs m known → (a : LinearSum) (ps : List (ℕ × ℤ)) (b : LinearSum) → AtMostZero a → weighted cs known a ps ≡ Some b → AtMostZero b
  most_weighted known h a [] b t e = subst (λ x. AtMostZero x) (some_is a b e) t
  most_weighted known h a (p ∷ ps) b t e =
      let q = and_then_some (λ fact. option_and_then (λ c. weighted cs known c ps) (add_weighted p.1 a fact)) (option_and_then (sum_fact_of cs) (slice_get known p.0)) b e in
      let f = and_then_some (sum_fact_of cs) (slice_get known p.0) q.0 q.1 in
      let c = and_then_some (λ c. weighted cs known c ps) (add_weighted p.1 a q.0) b q.2 in
      most_weighted known h c.0 ps b (add_weighted_most p.1 a c.0 q.0 t (fact_meant f.0 q.0 (known_true known p.0 f.0 h f.1) f.2) c.1) c.2

  -- ---- what they give

  zero_part : (c v : ℤ) → is_zero c ≡ true → c *ℤ v ≡ pos 0
  zero_part c v e = ap (λ x. x *ℤ v) (zero_is c e) ∙ *ℤ_comm (pos 0) v ∙ times_zero v

  divided_value : (d : ℤ) → is_positive d ≡ true → (ps rs : List (Term × ℤ)) → divided d ps ≡ Some rs → d *ℤ Parts rs ≡ Parts ps
  divided_value d h [] rs e = ap (λ x. d *ℤ Parts x) (sym (some_is [] rs e)) ∙ times_zero d
  divided_value d h (p ∷ ps) rs e = by_zero (divided_value d h ps) (is_zero p.1) refl e
    where
      by_division : ((ss : List (Term × ℤ)) → divided d ps ≡ Some ss → d *ℤ Parts ss ≡ Parts ps) → (t : Bool) → is_zero (int_rem_euclid p.1 d) ≡ t → (if t then option_and_then (λ rest. Some ((p.0, int_div_euclid p.1 d) ∷ rest)) (divided d ps) else None) ≡ Some rs → d *ℤ Parts rs ≡ Parts (p ∷ ps)
      by_division further true s k =
          let q = and_then_some (λ rest. Some ((p.0, int_div_euclid p.1 d) ∷ rest)) (divided d ps) rs k in
          ap (λ x. d *ℤ Parts x) (sym (some_is ((p.0, int_div_euclid p.1 d) ∷ q.0) rs q.2))
          ∙ product_sum d (int_div_euclid p.1 d *ℤ Num p.0) (Parts q.0)
          ∙ ap (λ x. x +ℤ (d *ℤ Parts q.0)) (sym (product_assoc d (int_div_euclid p.1 d) (Num p.0)) ∙ ap (λ x. x *ℤ Num p.0) (exact p.1 d h s))
          ∙ ap (λ x. (p.1 *ℤ Num p.0) +ℤ x) (further q.0 q.1)
      by_division further false s k = absurd (let no : ⊥ = cc in no)

      by_zero : ((ss : List (Term × ℤ)) → divided d ps ≡ Some ss → d *ℤ Parts ss ≡ Parts ps) → (t : Bool) → is_zero p.1 ≡ t →
          (if t then divided d ps else if is_zero (int_rem_euclid p.1 d) then option_and_then (λ rest. Some ((p.0, int_div_euclid p.1 d) ∷ rest)) (divided d ps) else None) ≡ Some rs →
          d *ℤ Parts rs ≡ Parts (p ∷ ps)
      by_zero further true s k = further rs k ∙ sym (zero_sum (Parts ps)) ∙ ap (λ x. x +ℤ Parts ps) (sym (zero_part p.1 (Num p.0) s))
      by_zero further false s k = by_division further (is_zero (int_rem_euclid p.1 d)) refl k

  sum_onto_value : (x : Term) (ps : List (Term × ℤ)) → Num (sum_onto x ps) ≡ Num x +ℤ Parts ps
  sum_onto_value x [] = sym (sum_zero (Num x))
  sum_onto_value x (p ∷ ps) = sum_onto_value (app Add (x ∷ multiple p ∷ [])) ps ∙ onto (Num x) (p.1 *ℤ Num p.0) (Parts ps)

  sum_term_value : (ps : List (Term × ℤ)) → Num (sum_term ps) ≡ Parts ps
  sum_term_value [] = refl
  sum_term_value (p ∷ ps) = sum_onto_value (multiple p) ps

  bounded_true : (d : ℤ) → is_positive d ≡ true → (a : LinearSum) (f : Formula) → AtMostZero a → bounded d a ≡ Some f → True cs m [] f
  bounded_true d h a f t e =
      let k = and_then_some (λ k. option_and_then (λ ps. Some (at_most (sum_term ps) (number (int_div_euclid k d)))) (divided d a.parts)) (checked (neg_ℤ a.constant)) f e in
      let q = and_then_some (λ ps. Some (at_most (sum_term ps) (number (int_div_euclid k.0 d)))) (divided d a.parts) f k.2 in
      let bound : int_le (d *ℤ Parts q.0) k.0 ≡ true =
      ap (λ x. int_le x k.0) (divided_value d h a.parts q.0 q.1) ∙ ap (λ x. int_le (Parts a.parts) x) (sym (checked_is (neg_ℤ a.constant) k.0 k.1)) ∙ moved (Parts a.parts) a.constant t in
      let most : int_le (Num (sum_term q.0)) (int_div_euclid k.0 d) ≡ true =
      ap (λ x. int_le x (int_div_euclid k.0 d)) (sum_term_value q.0) ∙ floored (Parts q.0) k.0 d h bound in
      subst (λ x. True cs m [] x) (some_is (at_most (sum_term q.0) (number (int_div_euclid k.0 d))) f q.2) most

  -- what a weighted sum of facts gives is true where the facts are
  pub sum_true : (known : List Formula) (d : ℤ) (ps : List (ℕ × ℤ)) (f : Formula) → Hold cs m known → sum_of cs known d ps ≡ Some f → True cs m [] f
  sum_true known d ps f h e =
      let p = if_some (is_positive d) (option_and_then (bounded d) (weighted cs known (number_sum (pos 0)) ps)) f e in
      let q = and_then_some (bounded d) (weighted cs known (number_sum (pos 0)) ps) f p.1 in
      bounded_true d p.0 q.0 f (most_weighted known h (number_sum (pos 0)) ps q.0 refl q.1) q.2
