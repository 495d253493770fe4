-- What weighted sums come to where each part of a sum has some number.
use Rattle.std.proofs.Common.{◌≡◌, ℕ, ℤ, pos, negsuc, ◌+ℤ◌, ◌*ℤ◌, ◌<ℤ◌, neg_ℤ, List, [], ◌∷◌, Bool, true, false, Some, None, option_and_then, refl, sym, ◌∙◌, ap, subst, arith}
use Rattle.std.specs.Prelude.{int_le, if◌then◌else◌}
use Rattle.std.specs.List.{AllByRecursion}
use Rattle.std.specs.Int.{int_div_euclid, int_rem_euclid, is_positive}
use Rattle.std.proofs.Math.IntN.{*ℤ_comm}
use Rattle.std.proofs.lemmas.Int.{ints}
use Rattle.ss_core.specs.Tree.{ClassTree}
use Rattle.ss_logic.specs.Terms.{Number, Add, Term, App, app}
use Rattle.ss_logic.specs.Formulas.{Formula}
use Rattle.ss_logic.specs.Equal.{same_term, equal_terms}
use Rattle.ss_logic.specs.Shapes.{number, at_most}
use Rattle.ss_logic.proofs.Options.{and_then_some, if_some}
use Rattle.ss_logic.specs.Sums.{checked, plus_times, is_zero, LinearSum, number_sum, add_part, add_parts, add_times, is_weight, add_weighted, weighted, divided, multiple, sum_onto, sum_term, bounded, sum_of}
use Rattle.ss_logic.proofs.NumbersInSums.{product_assoc, product_sum, times_zero, coefficient_more, sum_zero, zero_sum, first_more, rest_more, regroup, onto, zero_is, zero_times, most_times, exact}
use Rattle.ss_logic.proofs.Summed.{checked_is, plus_times_is, some_is}
use Rattle.ss_linear_rules.specs.Two.{IsFalse, fact_at, is_difference, IsDifferenceAt}
use Rattle.ss_linear_rules.specs.Valued.{parts_at, sum_at, IsMetBy, IsMetAt, MeetsDifferences}

-- ---- a sum that is no term but a number

abbrev IsNumber : Term → Type 0
IsNumber (App (Number n) ts) = Unit {0}
IsNumber t = ⊥

not_number : (x : Term) (ps : List (Term × ℤ)) → (IsNumber x → ⊥) → IsNumber (sum_onto x ps) → ⊥
not_number x [] n h = n h
not_number x (p ∷ ps) n h = not_number (app Add (x ∷ multiple p ∷ [])) ps (λ e. e) h

pub no_parts : (ps : List (Term × ℤ)) → sum_term ps ≡ number (pos 0) → ps ≡ []
no_parts [] h = refl
no_parts (p ∷ ps) h = absurd (not_number (multiple p) ps (λ e. e) (subst (λ t. IsNumber t) (sym h) tt))

pub by_one : (z : ℤ) → int_div_euclid z (pos 1) ≡ z
by_one (pos a) = ap pos (omega arith)
by_one (negsuc a) = ap negsuc (omega arith)

-- a sum that gives what is false has no part left, and a number above 0
pub bounded_parts : (a : LinearSum) (f : Formula) → bounded (pos 1) a ≡ Some f → IsFalse f → (divided (pos 1) a.parts ≡ Some []) × (pos 0 <ℤ a.constant)
bounded_parts a f e c =
    let k = and_then_some (λ k. option_and_then (λ ps. Some (at_most (sum_term ps) (number (int_div_euclid k (pos 1))))) (divided (pos 1) a.parts)) (checked (neg_ℤ a.constant)) f e in
    let q = and_then_some (λ ps. Some (at_most (sum_term ps) (number (int_div_euclid k.0 (pos 1))))) (divided (pos 1) a.parts) f k.2 in
    let both : at_most (sum_term q.0) (number (int_div_euclid k.0 (pos 1))) ≡ at_most (number (pos 0)) (number c.0) = some_is _ f q.2 ∙ c.1 in
    let left : sum_term q.0 ≡ number (pos 0) = cc in
    let right : int_div_euclid k.0 (pos 1) ≡ c.0 = cc in
    let none : q.0 ≡ [] = no_parts q.0 left in
    let constant : neg_ℤ a.constant ≡ k.0 = checked_is (neg_ℤ a.constant) k.0 k.1 in
    let whole : k.0 ≡ c.0 = sym (by_one k.0) ∙ right in
    let less : c.0 <ℤ pos 0 = c.2 in
    (q.1 ∙ ap Some none, omega (arith, ints))

module _ (v : Term → ℤ) where
  abbrev Parts : List (Term × ℤ) → ℤ
  Parts ps = parts_at v ps

  -- ---- sums of sums

  part_first : (t u : Term) (a n b c : ℤ) (ps : List (Term × ℤ)) → t ≡ u → plus_times a n b ≡ Some c → Parts ((t, c) ∷ ps) ≡ ((a *ℤ v t) +ℤ Parts ps) +ℤ (n *ℤ (b *ℤ v u))
  part_first t u a n b c ps e h =
      first_more (c *ℤ v t) (a *ℤ v t) (n *ℤ (b *ℤ v u)) (Parts ps)
      (coefficient_more a n b c (v t) (plus_times_is a n b c h) ∙ ap (λ x. (a *ℤ v t) +ℤ (n *ℤ (b *ℤ v x))) e)

  add_part_value : (n : ℤ) (q : Term × ℤ) (ps rs : List (Term × ℤ)) → add_part n q ps ≡ Some rs → Parts rs ≡ Parts ps +ℤ (n *ℤ (q.1 *ℤ v q.0))
  add_part_value n q [] rs h =
      let p = and_then_some (λ c. Some ((q.0, c) ∷ [])) (plus_times (pos 0) n q.1) rs h in
      ap Parts (sym (some_is ((q.0, p.0) ∷ []) rs p.2))
      ∙ sum_zero (p.0 *ℤ v q.0)
      ∙ ap (λ x. x *ℤ v q.0) (plus_times_is (pos 0) n q.1 p.0 p.1 ∙ zero_sum (n *ℤ q.1))
      ∙ product_assoc n q.1 (v q.0)
      ∙ sym (zero_sum (n *ℤ (q.1 *ℤ v q.0)))
  add_part_value n q (p ∷ ps) rs h = by_test (add_part_value n q ps) (same_term p.0 q.0) refl h
    where
      by_test : ((ss : List (Term × ℤ)) → add_part n q ps ≡ Some ss → Parts ss ≡ Parts ps +ℤ (n *ℤ (q.1 *ℤ v q.0))) → (t : Bool) → same_term p.0 q.0 ≡ t →
          (if t then option_and_then (λ c. Some ((p.0, c) ∷ ps)) (plus_times p.1 n q.1) else option_and_then (λ rest. Some (p ∷ rest)) (add_part n q ps)) ≡ Some rs →
          Parts rs ≡ Parts (p ∷ ps) +ℤ (n *ℤ (q.1 *ℤ v q.0))
      by_test further true e k =
          let c = and_then_some (λ c. Some ((p.0, c) ∷ ps)) (plus_times p.1 n q.1) rs k in
          ap Parts (sym (some_is ((p.0, c.0) ∷ ps) rs c.2)) ∙ part_first p.0 q.0 p.1 n q.1 c.0 ps (equal_terms p.0 q.0 e) c.1
      by_test further false e k =
          let c = and_then_some (λ rest. Some (p ∷ rest)) (add_part n q ps) rs k in
          ap Parts (sym (some_is (p ∷ c.0) rs c.2)) ∙ rest_more (p.1 *ℤ v p.0) (Parts ps) (Parts c.0) (n *ℤ (q.1 *ℤ v q.0)) (further c.0 c.1)

  add_parts_value : (n : ℤ) (qs ps rs : List (Term × ℤ)) → add_parts n qs ps ≡ Some rs → Parts rs ≡ Parts ps +ℤ (n *ℤ Parts qs)
  add_parts_value n [] ps rs h = ap Parts (sym (some_is ps rs h)) ∙ sym (sum_zero (Parts ps)) ∙ ap (λ x. Parts ps +ℤ x) (sym (times_zero n))
  add_parts_value n (q ∷ qs) ps rs h =
      let p = and_then_some (λ more. add_parts n qs more) (add_part n q ps) rs h in
      add_parts_value n qs p.0 rs p.2
      ∙ ap (λ x. x +ℤ (n *ℤ Parts qs)) (add_part_value n q ps p.0 p.1)
      ∙ onto (Parts ps) (n *ℤ (q.1 *ℤ v q.0)) (n *ℤ Parts qs)
      ∙ ap (λ x. Parts ps +ℤ x) (sym (product_sum n (q.1 *ℤ v q.0) (Parts qs)))

  pub add_times_value : (a : LinearSum) (n : ℤ) (b r : LinearSum) → add_times a n b ≡ Some r → sum_at v r ≡ sum_at v a +ℤ (n *ℤ sum_at v b)
  add_times_value a n b r h =
      let p = and_then_some (λ ps. option_and_then (λ k. Some (record { parts = ps; constant = k })) (plus_times a.constant n b.constant)) (add_parts n b.parts a.parts) r h in
      let k = and_then_some (λ k. Some (record { parts = p.0; constant = k })) (plus_times a.constant n b.constant) r p.2 in
      let same : record { parts = p.0; constant = k.0 } ≡ r = some_is _ r k.2 in
      ap (sum_at v) (sym same)
      ∙ ap (λ x. x +ℤ k.0) (add_parts_value n b.parts a.parts p.0 p.1)
      ∙ ap (λ x. (Parts a.parts +ℤ (n *ℤ Parts b.parts)) +ℤ x) (plus_times_is a.constant n b.constant k.0 k.1)
      ∙ regroup (Parts a.parts) (n *ℤ Parts b.parts) a.constant (n *ℤ b.constant)
      ∙ ap (λ x. sum_at v a +ℤ x) (sym (product_sum n (Parts b.parts) b.constant))

  -- ---- what is false has no parts

  zero_part : (c x : ℤ) → is_zero c ≡ true → c *ℤ x ≡ pos 0
  zero_part c x e = ap (λ y. y *ℤ x) (zero_is c e) ∙ *ℤ_comm (pos 0) x ∙ times_zero x

  divided_value : (d : ℤ) → is_positive d ≡ true → (ps rs : List (Term × ℤ)) → divided d ps ≡ Some rs → d *ℤ Parts rs ≡ Parts ps
  divided_value d h [] rs e = ap (λ x. d *ℤ Parts x) (sym (some_is [] rs e)) ∙ times_zero d
  divided_value d h (p ∷ ps) rs e = by_zero (divided_value d h ps) (is_zero p.1) refl e
    where
      by_division : ((ss : List (Term × ℤ)) → divided d ps ≡ Some ss → d *ℤ Parts ss ≡ Parts ps) → (t : Bool) → is_zero (int_rem_euclid p.1 d) ≡ t → (if t then option_and_then (λ rest. Some ((p.0, int_div_euclid p.1 d) ∷ rest)) (divided d ps) else None) ≡ Some rs → d *ℤ Parts rs ≡ Parts (p ∷ ps)
      by_division further true s k =
          let q = and_then_some (λ rest. Some ((p.0, int_div_euclid p.1 d) ∷ rest)) (divided d ps) rs k in
          ap (λ x. d *ℤ Parts x) (sym (some_is ((p.0, int_div_euclid p.1 d) ∷ q.0) rs q.2))
          ∙ product_sum d (int_div_euclid p.1 d *ℤ v p.0) (Parts q.0)
          ∙ ap (λ x. x +ℤ (d *ℤ Parts q.0)) (sym (product_assoc d (int_div_euclid p.1 d) (v p.0)) ∙ ap (λ x. x *ℤ v p.0) (exact p.1 d h s))
          ∙ ap (λ x. (p.1 *ℤ v p.0) +ℤ x) (further q.0 q.1)
      by_division further false s k = absurd (let no : ⊥ = cc in no)

      by_zero : ((ss : List (Term × ℤ)) → divided d ps ≡ Some ss → d *ℤ Parts ss ≡ Parts ps) → (t : Bool) → is_zero p.1 ≡ t →
          (if t then divided d ps else if is_zero (int_rem_euclid p.1 d) then option_and_then (λ rest. Some ((p.0, int_div_euclid p.1 d) ∷ rest)) (divided d ps) else None) ≡ Some rs →
          d *ℤ Parts rs ≡ Parts (p ∷ ps)
      by_zero further true s k = further rs k ∙ sym (zero_sum (Parts ps)) ∙ ap (λ x. x +ℤ Parts ps) (sym (zero_part p.1 (v p.0) s))
      by_zero further false s k = by_division further (is_zero (int_rem_euclid p.1 d)) refl k

  -- a sum that gives what is false comes to its number, which is above 0
  pub bounded_false : (a : LinearSum) (f : Formula) → bounded (pos 1) a ≡ Some f → IsFalse f → (Parts a.parts ≡ pos 0) × (pos 0 <ℤ a.constant)
  bounded_false a f e c =
      let h = bounded_parts a f e c in
      (sym (divided_value (pos 1) refl a.parts [] h.0) ∙ times_zero (pos 1), h.1)

  -- ---- facts that are met

  met_more : (equality : Bool) (w a z : ℤ) → is_weight equality w ≡ true → IsMetBy equality z → int_le a (pos 0) ≡ true → int_le (a +ℤ (w *ℤ z)) (pos 0) ≡ true
  met_more true w a z p f h = zero_times a w z h f
  met_more false w a z p f h = most_times a w z h p f

  weighted_met : (cs : List ClassTree) (known : List Formula) (a : LinearSum) (ps : List (ℕ × ℤ)) (b : LinearSum) → AllByRecursion (λ p. IsMetAt cs known v p.0) ps → int_le (sum_at v a) (pos 0) ≡ true → weighted cs known a ps ≡ Some b → int_le (sum_at v b) (pos 0) ≡ true
  weighted_met cs known a [] b all t e = subst (λ x. int_le (sum_at v x) (pos 0) ≡ true) (some_is a b e) t
  weighted_met cs known a (p ∷ ps) b all t e =
      let q = and_then_some (λ fact. option_and_then (λ c. weighted cs known c ps) (add_weighted p.1 a fact)) (fact_at cs known p.0) b e in
      let c = and_then_some (λ c. weighted cs known c ps) (add_weighted p.1 a q.0) b q.2 in
      let w = if_some (is_weight q.0.is_equality p.1) (add_times a p.1 q.0.sum) c.0 c.1 in
      weighted_met cs known c.0 ps b all.1
      (ap (λ x. int_le x (pos 0)) (add_times_value a p.1 q.0.sum c.0 w.1) ∙ met_more q.0.is_equality p.1 (sum_at v a) (sum_at v q.0.sum) w.0 (all.0 q.0 q.1) t)
      c.2

  all_met : (cs : List ClassTree) (known : List Formula) (ps : List (ℕ × ℤ)) → MeetsDifferences cs known v → AllByRecursion (λ p. IsDifferenceAt cs known p.0) ps → AllByRecursion (λ p. IsMetAt cs known v p.0) ps
  all_met cs known [] met all = tt
  all_met cs known (p ∷ ps) met all = (
    λ fact e.
        let same : all.0.0 ≡ fact = some_is all.0.0 fact (sym all.0.1 ∙ e) in
        met p.0 fact e (subst (λ x. is_difference x ≡ true) same all.0.2),
    all_met cs known ps met all.1,
  )

  -- facts that are met never give what is false
  pub met_false : (cs : List ClassTree) (known : List Formula) (ps : List (ℕ × ℤ)) (f : Formula) → AllByRecursion (λ p. IsMetAt cs known v p.0) ps → sum_of cs known (pos 1) ps ≡ Some f → IsFalse f → ⊥
  met_false cs known ps f all e c =
      let p = if_some (is_positive (pos 1)) (option_and_then (bounded (pos 1)) (weighted cs known (number_sum (pos 0)) ps)) f e in
      let q = and_then_some (bounded (pos 1)) (weighted cs known (number_sum (pos 0)) ps) f p.1 in
      let no = bounded_false q.0 f q.2 c in
      let most : int_le (sum_at v q.0) (pos 0) ≡ true = weighted_met cs known (number_sum (pos 0)) ps q.0 all refl q.1 in
      let parts = no.0 in
      let above = no.1 in
      omega (arith, ints)

  pub never_false : (cs : List ClassTree) (known : List Formula) (ps : List (ℕ × ℤ)) (f : Formula) → MeetsDifferences cs known v → AllByRecursion (λ p. IsDifferenceAt cs known p.0) ps → sum_of cs known (pos 1) ps ≡ Some f → IsFalse f → ⊥
  never_false cs known ps f met all e c = met_false cs known ps f (all_met cs known ps met all) e c
