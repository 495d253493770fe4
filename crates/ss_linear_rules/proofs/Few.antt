-- When sums of one or two known facts give what is false.
use Rattle.std.proofs.Common.{◌≡◌, ◌≢◌, ⊎_elim, ℕ, ◌^◌, ◌-◌, ◌≤◌, ℤ, pos, ◌+ℤ◌, ◌*ℤ◌, ◌<ℤ◌, ◌≤ℤ◌, neg_ℤ, List, [], ◌∷◌, length, Bool, true, false, Some, None, option_and_then, refl, sym, ◌∙◌, ap, subst, arith}
use Rattle.std.specs.Prelude.{if◌then◌else◌}
use Rattle.std.specs.List.{AllByRecursion}
use Rattle.std.specs.Int.{int_div_euclid, int_rem_euclid, is_positive}
use Rattle.std.proofs.lemmas.Int.{ints}
use Rattle.ss_core.specs.Tree.{ClassTree}
use Rattle.ss_logic.specs.Terms.{Term}
use Rattle.ss_logic.specs.Formulas.{Formula}
use Rattle.ss_logic.specs.Shapes.{number, at_most}
use Rattle.ss_logic.proofs.Options.{and_then_some, if_some}
use Rattle.ss_logic.specs.Sums.{checked, is_zero, LinearSum, number_sum, SumFact, add_weighted, weighted, divided, sum_term, bounded, sum_of}
use Rattle.ss_logic.proofs.NumbersInSums.{zero_is, product_sum, zero_sum}
use borrow.Author.Differences.{product_is}
use Rattle.ss_linear_rules.specs.Two.{IsFalse, fact_at, IsUnit, Two}
use Rattle.ss_linear_rules.specs.Few.{IsNone, AreZero, one_at}
use Rattle.ss_linear_rules.specs.Valued.{parts_at, sum_at, MeetsDifferences, fact_value, total}
use Rattle.ss_linear_rules.proofs.Values.{by_one, bounded_parts, never_false}
use Rattle.ss_logic.proofs.Summed.{some_is}
use Rattle.ss_linear_rules.proofs.Cancelling.{IsIn, checked_some, weighted_value, no_value}

-- ---- sums without parts

zero_divided : (ps : List (Term × ℤ)) → AreZero ps → divided (pos 1) ps ≡ Some []
zero_divided [] h = refl
zero_divided (p ∷ ps) h =
    ap (λ b. if b then divided (pos 1) ps else if is_zero (int_rem_euclid p.1 (pos 1)) then option_and_then (λ rest. Some ((p.0, int_div_euclid p.1 (pos 1)) ∷ rest)) (divided (pos 1) ps) else None) h.0
    ∙ zero_divided ps h.1

divided_zero : (ps : List (Term × ℤ)) → divided (pos 1) ps ≡ Some [] → AreZero ps
divided_zero [] h = tt
divided_zero (p ∷ ps) h = by_zero (divided_zero ps) (is_zero p.1) refl h
  where
    by_division : (t : Bool) → (if t then option_and_then (λ rest. Some ((p.0, int_div_euclid p.1 (pos 1)) ∷ rest)) (divided (pos 1) ps) else None) ≡ Some [] → ⊥
    by_division true k =
        let q = and_then_some (λ rest. Some ((p.0, int_div_euclid p.1 (pos 1)) ∷ rest)) (divided (pos 1) ps) [] k in
        let e : (p.0, int_div_euclid p.1 (pos 1)) ∷ q.0 ≡ [] = some_is ((p.0, int_div_euclid p.1 (pos 1)) ∷ q.0) [] q.2 in
        cc
    by_division false k = cc

    by_zero : (divided (pos 1) ps ≡ Some [] → AreZero ps) → (t : Bool) → is_zero p.1 ≡ t →
        (if t then divided (pos 1) ps else if is_zero (int_rem_euclid p.1 (pos 1)) then option_and_then (λ rest. Some ((p.0, int_div_euclid p.1 (pos 1)) ∷ rest)) (divided (pos 1) ps) else None) ≡ Some [] →
        AreZero (p ∷ ps)
    by_zero further true e k = (e, further k)
    by_zero further false e k = absurd (by_division (is_zero (int_rem_euclid p.1 (pos 1))) k)

-- a weighted sum without parts, and with a number above 0, gives what is false
pub gives_false : (cs : List ClassTree) (known : List Formula) (ps : List (ℕ × ℤ)) (a : LinearSum) → weighted cs known (number_sum (pos 0)) ps ≡ Some a → AreZero a.parts → pos 0 <ℤ a.constant → a.constant <ℤ pos (2 ^ 127) → (f : Formula) × (sum_of cs known (pos 1) ps ≡ Some f) × IsFalse f
gives_false cs known ps a e zeros above fits =
    let size : IsIn (2 ^ 127 - 1) (neg_ℤ a.constant) = record { high = omega (arith, ints); low = omega (arith, ints) } in
    let negated : checked (neg_ℤ a.constant) ≡ Some (neg_ℤ a.constant) = checked_some (2 ^ 127 - 1) (neg_ℤ a.constant) size (omega arith) in
    let less : neg_ℤ a.constant <ℤ pos 0 = omega (arith, ints) in (
      at_most (number (pos 0)) (number (int_div_euclid (neg_ℤ a.constant) (pos 1))),
      ap (λ o. option_and_then (bounded (pos 1)) o) e
          ∙ ap (λ o. option_and_then (λ c. option_and_then (λ qs. Some (at_most (sum_term qs) (number (int_div_euclid c (pos 1))))) (divided (pos 1) a.parts)) o) negated
          ∙ ap (λ o. option_and_then (λ qs. Some (at_most (sum_term qs) (number (int_div_euclid (neg_ℤ a.constant) (pos 1))))) o) (zero_divided a.parts zeros),
      (int_div_euclid (neg_ℤ a.constant) (pos 1), refl, subst (λ x. x <ℤ pos 0) (sym (by_one (neg_ℤ a.constant))) less),
    )

-- and only such a sum does
pub false_from : (cs : List ClassTree) (known : List Formula) (ps : List (ℕ × ℤ)) (f : Formula) → sum_of cs known (pos 1) ps ≡ Some f → IsFalse f → (a : LinearSum) × (weighted cs known (number_sum (pos 0)) ps ≡ Some a) × AreZero a.parts × (pos 0 <ℤ a.constant)
false_from cs known ps f e c =
    let p = if_some (is_positive (pos 1)) (option_and_then (bounded (pos 1)) (weighted cs known (number_sum (pos 0)) ps)) f e in
    let q = and_then_some (bounded (pos 1)) (weighted cs known (number_sum (pos 0)) ps) f p.1 in
    let h = bounded_parts q.0 f q.2 c in
    (q.0, q.1, divided_zero q.0.parts h.0, h.1)

pub none_weighted : (cs : List ClassTree) (known : List Formula) (ps : List (ℕ × ℤ)) → weighted cs known (number_sum (pos 0)) ps ≡ None → IsNone cs known ps
none_weighted cs known ps e f g c =
    let h = false_from cs known ps f g c in
    let is : weighted cs known (number_sum (pos 0)) ps ≡ Some h.0 = h.1 in
    cc

pub none_other : (cs : List ClassTree) (known : List Formula) (ps : List (ℕ × ℤ)) (a : LinearSum) → weighted cs known (number_sum (pos 0)) ps ≡ Some a → (AreZero a.parts → pos 0 <ℤ a.constant → ⊥) → IsNone cs known ps
none_other cs known ps a e refused f g c =
    let h = false_from cs known ps f g c in
    let same : h.0 ≡ a = some_is h.0 a (sym h.1 ∙ e) in
    refused (subst (λ (x : LinearSum). AreZero x.parts) same h.2) (subst (λ (x : LinearSum). pos 0 <ℤ x.constant) same h.3)

-- ---- places without a fact

first_none : (cs : List ClassTree) (known : List Formula) (a : LinearSum) (p : ℕ × ℤ) (ps : List (ℕ × ℤ)) → fact_at cs known p.0 ≡ None → weighted cs known a (p ∷ ps) ≡ None
first_none cs known a p ps e = ap (λ o. option_and_then (λ fact. option_and_then (λ b. weighted cs known b ps) (add_weighted p.1 a fact)) o) e

pub none_without : (cs : List ClassTree) (known : List Formula) (p : ℕ × ℤ) (ps : List (ℕ × ℤ)) → fact_at cs known p.0 ≡ None → IsNone cs known (p ∷ ps)
none_without cs known p ps e = none_weighted cs known (p ∷ ps) (first_none cs known (number_sum (pos 0)) p ps e)

pub none_second : (cs : List ClassTree) (known : List Formula) (p q : ℕ × ℤ) → fact_at cs known q.0 ≡ None → IsNone cs known (p ∷ q ∷ [])
none_second cs known p q e f g c =
    let h = false_from cs known (p ∷ q ∷ []) f g c in
    let r = and_then_some (λ fact. option_and_then (λ b. weighted cs known b (q ∷ [])) (add_weighted p.1 (number_sum (pos 0)) fact)) (fact_at cs known p.0) h.0 h.1 in
    let b = and_then_some (λ b. weighted cs known b (q ∷ [])) (add_weighted p.1 (number_sum (pos 0)) r.0) h.0 r.2 in
    let none : weighted cs known b.0 (q ∷ []) ≡ None = first_none cs known b.0 q [] e in
    let is : weighted cs known b.0 (q ∷ []) ≡ Some h.0 = b.2 in
    cc

-- ---- what two facts come to

zero_value : (v : Term → ℤ) (ps : List (Term × ℤ)) → AreZero ps → parts_at v ps ≡ pos 0
zero_value v [] h = refl
zero_value v (p ∷ ps) h =
    let z : p.1 ≡ pos 0 = zero_is p.1 h.0 in
    let here : p.1 *ℤ v p.0 ≡ pos 0 = ap (λ y. y *ℤ v p.0) z ∙ omega (arith, ints, product_is (pos 0) (v p.0)) in
    let rest = zero_value v ps h.1 in
    omega (arith, ints)

two_value : (cs : List ClassTree) (known : List Formula) (i j : ℕ) (w u : ℤ) (a b : SumFact) (r : LinearSum) (v : Term → ℤ) → fact_at cs known i ≡ Some a → fact_at cs known j ≡ Some b → weighted cs known (number_sum (pos 0)) ((i, w) ∷ (j, u) ∷ []) ≡ Some r → AreZero r.parts → r.constant ≡ (w *ℤ sum_at v a.sum) +ℤ (u *ℤ sum_at v b.sum)
two_value cs known i j w u a b r v ea eb e zeros =
    let t : parts_at v r.parts +ℤ r.constant ≡ pos 0 +ℤ total cs known v ((i, w) ∷ (j, u) ∷ []) = weighted_value v cs known (number_sum (pos 0)) ((i, w) ∷ (j, u) ∷ []) r e in
    let z = zero_value v r.parts zeros in
    let x : w *ℤ fact_value v (fact_at cs known i) ≡ w *ℤ sum_at v a.sum = ap (λ o. w *ℤ fact_value v o) ea in
    let y : u *ℤ fact_value v (fact_at cs known j) ≡ u *ℤ sum_at v b.sum = ap (λ o. u *ℤ fact_value v o) eb in
    omega (arith, ints)

own_value : (w : ℤ) (a : LinearSum) → w *ℤ sum_at (λ t. pos 0) a ≡ w *ℤ a.constant
own_value w a = ap (λ x. w *ℤ x) (ap (λ x. x +ℤ a.constant) (no_value a.parts) ∙ zero_sum a.constant)

-- two facts whose numbers don't exceed 0 together
pub none_by_numbers : (cs : List ClassTree) (known : List Formula) (i j : ℕ) (w u : ℤ) (a b : SumFact) → fact_at cs known i ≡ Some a → fact_at cs known j ≡ Some b → ((w *ℤ a.sum.constant) +ℤ (u *ℤ b.sum.constant)) ≤ℤ pos 0 → IsNone cs known ((i, w) ∷ (j, u) ∷ [])
none_by_numbers cs known i j w u a b ea eb most f g c =
    let h = false_from cs known ((i, w) ∷ (j, u) ∷ []) f g c in
    let t = two_value cs known i j w u a b h.0 (λ t. pos 0) ea eb h.1 h.2 in
    let x = own_value w a.sum in
    let y = own_value u b.sum in
    let above : pos 0 <ℤ h.0.constant = h.3 in
    absurd (omega (arith, ints))

-- two facts in which a term doesn't cancel
pub none_by_part : (cs : List ClassTree) (known : List Formula) (i j : ℕ) (w u : ℤ) (a b : SumFact) (t : Term) → fact_at cs known i ≡ Some a → fact_at cs known j ≡ Some b → ((w *ℤ parts_at (one_at t) a.sum.parts) +ℤ (u *ℤ parts_at (one_at t) b.sum.parts) ≢ pos 0) → IsNone cs known ((i, w) ∷ (j, u) ∷ [])
none_by_part cs known i j w u a b t ea eb refused f g c =
    let h = false_from cs known ((i, w) ∷ (j, u) ∷ []) f g c in
    let zero_at = two_value cs known i j w u a b h.0 (λ t. pos 0) ea eb h.1 h.2 in
    let one = two_value cs known i j w u a b h.0 (one_at t) ea eb h.1 h.2 in
    let x = own_value w a.sum in
    let y = own_value u b.sum in
    let p : w *ℤ sum_at (one_at t) a.sum ≡ (w *ℤ parts_at (one_at t) a.sum.parts) +ℤ (w *ℤ a.sum.constant) = product_sum w (parts_at (one_at t) a.sum.parts) a.sum.constant in
    let q : u *ℤ sum_at (one_at t) b.sum ≡ (u *ℤ parts_at (one_at t) b.sum.parts) +ℤ (u *ℤ b.sum.constant) = product_sum u (parts_at (one_at t) b.sum.parts) b.sum.constant in
    refused (omega (arith, ints))

-- ---- Two

none_at_all : (cs : List ClassTree) (known : List Formula) → IsNone cs known []
none_at_all cs known = none_other cs known [] (number_sum (pos 0)) refl (λ z less. absurd (omega (arith, ints)))

few_false : (cs : List ClassTree) (known : List Formula) (ps : List (ℕ × ℤ)) → ((i : ℕ) (w : ℤ) → IsUnit w → IsNone cs known ((i, w) ∷ [])) → ((i j : ℕ) (w u : ℤ) → IsUnit w → IsUnit u → IsNone cs known ((i, w) ∷ (j, u) ∷ [])) → AllByRecursion (λ p. IsUnit p.1) ps → length ps ≤ 2 → IsNone cs known ps
few_false cs known [] one two units l = none_at_all cs known
few_false cs known (p ∷ []) one two units l = one p.0 p.1 units.0
few_false cs known (p ∷ q ∷ []) one two units l = two p.0 q.0 p.1 q.1 units.0 units.1.0
few_false cs known (p ∷ q ∷ r ∷ ps) one two units l = absurd (omega arith)

pub two_false : (cs : List ClassTree) (known : List Formula) (v : Term → ℤ) → MeetsDifferences cs known v → ((i : ℕ) (w : ℤ) → IsUnit w → IsNone cs known ((i, w) ∷ [])) → ((i j : ℕ) (w u : ℤ) → IsUnit w → IsUnit u → IsNone cs known ((i, w) ∷ (j, u) ∷ [])) → Two cs known → ⊥
two_false cs known v met one two t =
    ⊎_elim
    (λ few. few_false cs known t.weights one two t.units few t.result t.gives t.contradicts)
    (λ all. never_false v cs known t.weights t.result met all t.gives t.contradicts)
    t.few
