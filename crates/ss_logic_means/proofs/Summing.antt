-- What a weighted sum of well formed facts gives is well formed: its parts are whole numbers.
use Rattle.std.proofs.Common.{◌≡◌, ℕ, zero, suc, ℤ, pos, negsuc, neg_ℤ, List, [], ◌∷◌, Bool, true, false, Option, Some, None, option_and_then, refl, sym, ◌∙◌, subst}
use Rattle.std.specs.Prelude.{slice_get, if◌then◌else◌}
use Rattle.std.specs.Int.{int_div_euclid, int_rem_euclid, is_positive}
use Rattle.std.proofs.lemmas.Bool.{and_parts}
use Rattle.ss_core.specs.Tree.{ClassTree}
use Rattle.ss_logic.specs.declared.Sort.TheVariants as sort
use Rattle.ss_logic.specs.Terms.{Symbol, Number, Add, Subtract, Multiply, Term, App, no_terms, term_then, app, takes, same_sort, same_sorts, sort_of, sorts_of, is_well_sorted, are_well_sorted}
use Rattle.ss_logic.specs.Formulas.{Equal, AtMost, Formula, Literal, takes_sorts}
use Rattle.ss_logic.specs.Equal.{same_term}
use Rattle.ss_logic.proofs.Truth.{equal_sorts}
use Rattle.ss_logic.specs.Shapes.{number, at_most, literal_of}
use Rattle.ss_logic.proofs.Options.{and_then_some, if_some}
use Rattle.ss_logic_means.specs.Sorts.{AreWellFormed}
use Rattle.ss_logic_means.proofs.Sorting.{sorted_two, formed_two}
use Rattle.ss_logic.specs.Sums.{checked, plus_times, is_zero, LinearSum, number_sum, term_sum, add_part, add_parts, add_times, sum_times, product, linear, SumFact, difference, sum_fact, sum_fact_of, is_weight, add_weighted, weighted, divided, multiple, sum_onto, sum_term, bounded, sum_of}
use Rattle.ss_logic_means.proofs.Sentences.{F, S, arguments_sorted, sorted_terms}

some_is : {A : Type 0} (x y : A) → Some x ≡ Some y → x ≡ y
some_is x y h = cc

module _ (cs : List ClassTree) where
  abbrev W : Term → Type 0
  W t = S cs sort.Whole t

  -- the terms of the parts are whole numbers
  abbrev Wholes : List (Term × ℤ) → Type 0
  Wholes [] = Unit {0}
  Wholes (p ∷ ps) = W p.0 × Wholes ps

  abbrev OfWholes : Option LinearSum → Type 0
  OfWholes o = (a : LinearSum) → o ≡ Some a → Wholes a.parts

  -- ---- sums of sums

  add_part_whole : (n : ℤ) (q : Term × ℤ) (ps rs : List (Term × ℤ)) → W q.0 → Wholes ps → add_part n q ps ≡ Some rs → Wholes rs
  add_part_whole n q [] rs k h e =
      let p = and_then_some (λ c. Some ((q.0, c) ∷ [])) (plus_times (pos 0) n q.1) rs e in
      subst (λ (xs : List (Term × ℤ)). Wholes xs) (some_is ((q.0, p.0) ∷ []) rs p.2) (k, tt)
  add_part_whole n q (p ∷ ps) rs k h e = by_test (add_part_whole n q ps) (same_term p.0 q.0) e
    where
      by_test : ((ss : List (Term × ℤ)) → W q.0 → Wholes ps → add_part n q ps ≡ Some ss → Wholes ss) → (t : Bool) →
          (if t then option_and_then (λ c. Some ((p.0, c) ∷ ps)) (plus_times p.1 n q.1) else option_and_then (λ rest. Some (p ∷ rest)) (add_part n q ps)) ≡ Some rs → Wholes rs
      by_test further true g =
          let c = and_then_some (λ c. Some ((p.0, c) ∷ ps)) (plus_times p.1 n q.1) rs g in
          subst (λ (xs : List (Term × ℤ)). Wholes xs) (some_is ((p.0, c.0) ∷ ps) rs c.2) (h.0, h.1)
      by_test further false g =
          let c = and_then_some (λ rest. Some (p ∷ rest)) (add_part n q ps) rs g in
          subst (λ (xs : List (Term × ℤ)). Wholes xs) (some_is (p ∷ c.0) rs c.2) (h.0, further c.0 k h.1 c.1)

  add_parts_whole : (n : ℤ) (qs ps rs : List (Term × ℤ)) → Wholes qs → Wholes ps → add_parts n qs ps ≡ Some rs → Wholes rs
  add_parts_whole n [] ps rs k h e = subst (λ (xs : List (Term × ℤ)). Wholes xs) (some_is ps rs e) h
  add_parts_whole n (q ∷ qs) ps rs k h e =
      let p = and_then_some (λ more. add_parts n qs more) (add_part n q ps) rs e in
      add_parts_whole n qs p.0 rs k.1 (add_part_whole n q ps p.0 k.0 h p.1) p.2

  add_times_whole : (a : LinearSum) (n : ℤ) (b r : LinearSum) → Wholes a.parts → Wholes b.parts → add_times a n b ≡ Some r → Wholes r.parts
  add_times_whole a n b r h k e =
      let p = and_then_some (λ ps. option_and_then (λ k. Some (record { parts = ps; constant = k })) (plus_times a.constant n b.constant)) (add_parts n b.parts a.parts) r e in
      let c = and_then_some (λ k. Some (record { parts = p.0; constant = k })) (plus_times a.constant n b.constant) r p.2 in
      let same : record { parts = p.0; constant = c.0 } ≡ r = some_is _ r c.2 in
      subst (λ (s : LinearSum). Wholes s.parts) same (add_parts_whole n b.parts a.parts p.0 k h p.1)

  times_whole : (a : Option LinearSum) (n : ℤ) (b : Option LinearSum) → OfWholes a → OfWholes b → OfWholes (sum_times a n b)
  times_whole a n b f g r e =
      let p = and_then_some (λ x. option_and_then (λ y. add_times x n y) b) a r e in
      let q = and_then_some (λ y. add_times p.0 n y) b r p.2 in
      add_times_whole p.0 n q.0 r (f p.0 p.1) (g q.0 q.1) q.2

  sum_whole : (a : LinearSum) → Wholes a.parts → OfWholes (Some a)
  sum_whole a h r e = subst (λ (s : LinearSum). Wholes s.parts) (some_is a r e) h

  number_whole : (n : ℤ) → OfWholes (Some (number_sum n))
  number_whole n = sum_whole (number_sum n) tt

  term_whole : (t : Term) → W t → OfWholes (Some (term_sum t))
  term_whole t h = sum_whole (term_sum t) (h, tt)

  product_whole : (o p : Option ℤ) (a b : Option LinearSum) (whole : LinearSum) → OfWholes a → OfWholes b → OfWholes (Some whole) → OfWholes (product o p a b whole)
  product_whole (Some n) p a b whole f g w = times_whole (Some (number_sum (pos 0))) n b (number_whole (pos 0)) g
  product_whole None (Some n) a b whole f g w = times_whole (Some (number_sum (pos 0))) n a (number_whole (pos 0)) f
  product_whole None None a b whole f g w = w

  two_wholes : (f : Symbol) (x y : Term) → (takes cs f (sorts_of cs [] (term_then x (term_then y no_terms))) ≡ true → same_sorts (sorts_of cs [] (term_then x (term_then y no_terms))) (sort.Whole ∷ sort.Whole ∷ []) ≡ true) →
      W (App f (term_then x (term_then y no_terms))) → W x × W y
  two_wholes f x y sorts h = let p = arguments_sorted cs (sort.Whole ∷ sort.Whole ∷ []) f (term_then x (term_then y no_terms)) sorts h.1 in (p.0, p.1.0)

  linear_whole : (t : Term) → W t → OfWholes (linear t)
  linear_whole (App (Number n) ts) h = number_whole n
  linear_whole (App Add (term_then x (term_then y no_terms))) h =
      let p = two_wholes Add x y (λ k. k) h in
      times_whole (linear x) (pos 1) (linear y) (linear_whole x p.0) (linear_whole y p.1)
  linear_whole (App Subtract (term_then x (term_then y no_terms))) h =
      let p = two_wholes Subtract x y (λ k. k) h in
      times_whole (linear x) (negsuc 0) (linear y) (linear_whole x p.0) (linear_whole y p.1)
  linear_whole (App Multiply (term_then x (term_then y no_terms))) h =
      let p = two_wholes Multiply x y (λ k. k) h in
      product_whole (literal_of x) (literal_of y) (linear x) (linear y) (term_sum (app Multiply (x ∷ y ∷ []))) (linear_whole x p.0) (linear_whole y p.1) (term_whole (app Multiply (x ∷ y ∷ [])) h)
  linear_whole t h = term_whole t h

  -- ---- facts

  difference_whole : (x y : Term) → W x → W y → OfWholes (difference x y)
  difference_whole x y h k = times_whole (linear x) (negsuc 0) (linear y) (linear_whole x h) (linear_whole y k)

  sum_fact_whole : (equality : Bool) (o : Option LinearSum) (fact : SumFact) → OfWholes o → sum_fact equality o ≡ Some fact → Wholes fact.sum.parts
  sum_fact_whole equality o fact f e =
      let p = and_then_some (λ a. Some (record { is_equality = equality; sum = a })) o fact e in
      let same : record { is_equality = equality; sum = p.0 } ≡ fact = some_is _ fact p.2 in
      subst (λ (x : SumFact). Wholes x.sum.parts) same (f p.0 p.1)

  compared_whole : (sign : Bool) (x y : Term) → F cs (Literal sign AtMost (term_then x (term_then y no_terms))) → W x × W y
  compared_whole sign x y h =
      let ts = term_then x (term_then y no_terms) in
      let p = and_parts (takes_sorts AtMost (sorts_of cs [] ts)) (are_well_sorted cs [] ts) h in
      let q = sorted_terms cs (sort.Whole ∷ sort.Whole ∷ []) ts p.0 p.1 in
      (q.0, q.1.0)

  equal_whole : (x y : Term) → F cs (Literal true Equal (term_then x (term_then y no_terms))) → same_sort (sort_of cs [] x) sort.Whole ≡ true → W x × W y
  equal_whole x y h is =
      let ts = term_then x (term_then y no_terms) in
      let p = and_parts (takes_sorts Equal (sorts_of cs [] ts)) (are_well_sorted cs [] ts) h in
      let q = and_parts (is_well_sorted cs [] x) (are_well_sorted cs [] (term_then y no_terms)) p.1 in
      let r = and_parts (is_well_sorted cs [] y) true q.1 in
      let whole = equal_sorts (sort_of cs [] x) sort.Whole is in
      ((whole, q.0), (sym (equal_sorts (sort_of cs [] x) (sort_of cs [] y) p.0) ∙ whole, r.0))

  fact_whole : (f : Formula) (fact : SumFact) → F cs f → sum_fact_of cs f ≡ Some fact → Wholes fact.sum.parts
  fact_whole (Literal true AtMost (term_then x (term_then y no_terms))) fact h e =
      let p = compared_whole true x y h in
      sum_fact_whole false (difference x y) fact (difference_whole x y p.0 p.1) e
  fact_whole (Literal false AtMost (term_then x (term_then y no_terms))) fact h e =
      let p = compared_whole false x y h in
      sum_fact_whole false (sum_times (difference y x) (pos 1) (Some (number_sum (pos 1)))) fact
      (times_whole (difference y x) (pos 1) (Some (number_sum (pos 1))) (difference_whole y x p.1 p.0) (number_whole (pos 1))) e
  fact_whole (Literal true Equal (term_then x (term_then y no_terms))) fact h e =
      let q = if_some (same_sort (sort_of cs [] x) sort.Whole) (sum_fact true (difference x y)) fact e in
      let p = equal_whole x y h q.0 in
      sum_fact_whole true (difference x y) fact (difference_whole x y p.0 p.1) q.1
  fact_whole f fact h e = absurd (let no : ⊥ = cc in no)

  -- ---- weighted sums

  add_weighted_whole : (w : ℤ) (a b : LinearSum) (fact : SumFact) → Wholes a.parts → Wholes fact.sum.parts → add_weighted w a fact ≡ Some b → Wholes b.parts
  add_weighted_whole w a b fact h k e = add_times_whole a w fact.sum b h k (if_some (is_weight fact.is_equality w) (add_times a w fact.sum) b e).1

  known_formed : (fs : List Formula) (i : ℕ) (f : Formula) → AreWellFormed cs [] fs → slice_get fs i ≡ Some f → F cs f
  known_formed [] i f h e = absurd (let no : ⊥ = cc in no)
  known_formed (g ∷ fs) zero f h e = subst (λ (x : Formula). F cs x) (some_is g f e) h.0
  known_formed (g ∷ fs) (suc i) f h e = known_formed fs i f h.1 e

  weighted_whole : (known : List Formula) → AreWellFormed cs [] known → (a : LinearSum) (ps : List (ℕ × ℤ)) (b : LinearSum) → Wholes a.parts → weighted cs known a ps ≡ Some b → Wholes b.parts
  weighted_whole known h a [] b k e = subst (λ (s : LinearSum). Wholes s.parts) (some_is a b e) k
  weighted_whole known h a (p ∷ ps) b k e =
      let q = and_then_some (λ fact. option_and_then (λ c. weighted cs known c ps) (add_weighted p.1 a fact)) (option_and_then (sum_fact_of cs) (slice_get known p.0)) b e in
      let f = and_then_some (sum_fact_of cs) (slice_get known p.0) q.0 q.1 in
      let c = and_then_some (λ c. weighted cs known c ps) (add_weighted p.1 a q.0) b q.2 in
      weighted_whole known h c.0 ps b (add_weighted_whole p.1 a c.0 q.0 k (fact_whole f.0 q.0 (known_formed known p.0 f.0 h f.1) f.2) c.1) c.2

  -- ---- what they give

  divided_whole : (d : ℤ) (ps rs : List (Term × ℤ)) → Wholes ps → divided d ps ≡ Some rs → Wholes rs
  divided_whole d [] rs h e = subst (λ (xs : List (Term × ℤ)). Wholes xs) (some_is [] rs e) tt
  divided_whole d (p ∷ ps) rs h e = by_zero (λ ss. divided_whole d ps ss h.1) (is_zero p.1) e
    where
      by_division : ((ss : List (Term × ℤ)) → divided d ps ≡ Some ss → Wholes ss) → (t : Bool) →
          (if t then option_and_then (λ rest. Some ((p.0, int_div_euclid p.1 d) ∷ rest)) (divided d ps) else None) ≡ Some rs → Wholes rs
      by_division further true k =
          let q = and_then_some (λ rest. Some ((p.0, int_div_euclid p.1 d) ∷ rest)) (divided d ps) rs k in
          subst (λ (xs : List (Term × ℤ)). Wholes xs) (some_is ((p.0, int_div_euclid p.1 d) ∷ q.0) rs q.2) (h.0, further q.0 q.1)
      by_division further false k = absurd (let no : ⊥ = cc in no)

      by_zero : ((ss : List (Term × ℤ)) → divided d ps ≡ Some ss → Wholes ss) → (t : Bool) →
          (if t then divided d ps else if is_zero (int_rem_euclid p.1 d) then option_and_then (λ rest. Some ((p.0, int_div_euclid p.1 d) ∷ rest)) (divided d ps) else None) ≡ Some rs → Wholes rs
      by_zero further true k = further rs k
      by_zero further false k = by_division further (is_zero (int_rem_euclid p.1 d)) k

  number_is_whole : (n : ℤ) → W (number n)
  number_is_whole n = (refl, refl)

  multiple_whole : (p : Term × ℤ) → W p.0 → W (multiple p)
  multiple_whole p h = sorted_two cs [] Multiply sort.Whole sort.Whole (number p.1) p.0 refl (number_is_whole p.1) h

  sum_onto_whole : (x : Term) (ps : List (Term × ℤ)) → W x → Wholes ps → W (sum_onto x ps)
  sum_onto_whole x [] h k = h
  sum_onto_whole x (p ∷ ps) h k = sum_onto_whole (app Add (x ∷ multiple p ∷ [])) ps (sorted_two cs [] Add sort.Whole sort.Whole x (multiple p) refl h (multiple_whole p k.0)) k.1

  sum_term_whole : (ps : List (Term × ℤ)) → Wholes ps → W (sum_term ps)
  sum_term_whole [] h = number_is_whole (pos 0)
  sum_term_whole (p ∷ ps) h = sum_onto_whole (multiple p) ps (multiple_whole p h.0) h.1

  bounded_formed : (d : ℤ) (a : LinearSum) (f : Formula) → Wholes a.parts → bounded d a ≡ Some f → F cs f
  bounded_formed d a f h e =
      let k = and_then_some (λ k. option_and_then (λ ps. Some (at_most (sum_term ps) (number (int_div_euclid k d)))) (divided d a.parts)) (checked (neg_ℤ a.constant)) f e in
      let q = and_then_some (λ ps. Some (at_most (sum_term ps) (number (int_div_euclid k.0 d)))) (divided d a.parts) f k.2 in
      subst (λ (x : Formula). F cs x) (some_is (at_most (sum_term q.0) (number (int_div_euclid k.0 d))) f q.2)
      (formed_two cs [] true AtMost sort.Whole sort.Whole (sum_term q.0) (number (int_div_euclid k.0 d)) refl (sum_term_whole q.0 (divided_whole d a.parts q.0 h q.1)) (number_is_whole (int_div_euclid k.0 d)))

  pub sum_formed : (known : List Formula) (d : ℤ) (ps : List (ℕ × ℤ)) (f : Formula) → AreWellFormed cs [] known → sum_of cs known d ps ≡ Some f → F cs f
  sum_formed known d ps f h e =
      let p = if_some (is_positive d) (option_and_then (bounded d) (weighted cs known (number_sum (pos 0)) ps)) f e in
      let q = and_then_some (bounded d) (weighted cs known (number_sum (pos 0)) ps) f p.1 in
      bounded_formed d q.0 f (weighted_whole known h (number_sum (pos 0)) ps q.0 tt q.1) q.2
