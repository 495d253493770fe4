-- What is tested of one or two facts.
use Rattle.std.proofs.Common.{◌≡◌, inr, ⊎_elim, ℕ, zero, suc, ◌<◌, ◌≤◌, ◌^◌, ℤ, pos, negsuc, ◌+ℤ◌, ◌*ℤ◌, ◌<ℤ◌, List, [], ◌∷◌, Bool, true, false, Option, Some, None, refl, sym, ◌∙◌, ap, subst, arith}
use Rattle.std.specs.Prelude.{IfOk, Result, Ok, Err, Vec, unsigned_abs}
use Rattle.std.proofs.lemmas.Int.{ints}
use borrow.Author.Differences.{product_is}
use Rattle.std.specs.declared.alloc.Global.{Global}
use Rattle.ss_core.specs.Tree.{ClassTree}
use Rattle.ss_logic.specs.Terms.{Term}
use Rattle.ss_logic.specs.Formulas.{Formula}
use Rattle.ss_logic.specs.Sums.{is_zero, LinearSum, SumFact, number_sum, weighted}
use Rattle.ss_linear_rules.specs.Two.{fact_at, IsUnit, Two, Refute}
use Rattle.ss_linear_rules.specs.Few.{IsNone, AreZero}
use Rattle.ss_linear_rules.specs.Valued.{sum_at, IsMetBy, IsMetAt, MeetsDifferences}
use Rattle.ss_linear_rules.proofs.Few.{gives_false, none_weighted, none_other, none_without, none_second, two_false}
use Rattle.ss_linear_rules.proofs.Values.{met_false}
use Rattle.ss_logic.proofs.Summed.{some_is}
use Rattle.ss_linear.specs.Contradictions.{IsContradiction, IsTested, IsFreeOf, IsFreeAlone, IsFreeOfAll, IsFree, IsClear, IsContradictionOr}

-- ---- numbers with signs

pub clash : (b : Bool) → b ≡ true → b ≡ false → ⊥
clash true e f = cc
clash false e f = cc

pub not_zero : (s t : ℤ) (r : Bool) → r ≡ is_zero s → s ≡ t → r ≡ false → t ≡ pos 0 → ⊥
not_zero s t r e f h z = clash r (e ∙ ap is_zero (f ∙ z)) h

-- ---- weights

pub tested : (cs : List ClassTree) (known : List Formula) (ps : List (ℕ × ℤ)) (a : LinearSum) (r : Bool) → weighted cs known (number_sum (pos 0)) ps ≡ Some a → (r ≡ true → AreZero a.parts) → (r ≡ true → pos 0 <ℤ a.constant) → (r ≡ false → AreZero a.parts → pos 0 <ℤ a.constant → ⊥) → a.constant <ℤ pos (2 ^ 127) → IsTested cs known ps r
tested cs known ps a true e zeros above other fits = gives_false cs known ps a e (zeros refl) (above refl) fits
tested cs known ps a false e zeros above other fits = none_other cs known ps a e (other refl)

pub not_weighted : (cs : List ClassTree) (known : List Formula) (ps : List (ℕ × ℤ)) → weighted cs known (number_sum (pos 0)) ps ≡ None → IsTested cs known ps false
not_weighted cs known ps e = none_weighted cs known ps e

-- the four pairs of weights
pub four : (cs : List ClassTree) (known : List Formula) (i j : ℕ) → IsNone cs known ((i, pos 1) ∷ (j, pos 1) ∷ []) → IsNone cs known ((i, pos 1) ∷ (j, negsuc 0) ∷ []) → IsNone cs known ((i, negsuc 0) ∷ (j, pos 1) ∷ []) → IsNone cs known ((i, negsuc 0) ∷ (j, negsuc 0) ∷ []) → (w u : ℤ) → IsUnit w → IsUnit u → IsNone cs known ((i, w) ∷ (j, u) ∷ [])
four cs known i j a b c d w u x y =
    ⊎_elim
    (λ e. ⊎_elim (λ f. at w u (pos 1) (pos 1) e f a) (λ f. at w u (pos 1) (negsuc 0) e f b) y)
    (λ e. ⊎_elim (λ f. at w u (negsuc 0) (pos 1) e f c) (λ f. at w u (negsuc 0) (negsuc 0) e f d) y)
    x
  where
    at : (w u v z : ℤ) → w ≡ v → u ≡ z → IsNone cs known ((i, v) ∷ (j, z) ∷ []) → IsNone cs known ((i, w) ∷ (j, u) ∷ [])
    at w u v z e f h = subst (λ x. IsNone cs known ((i, x) ∷ (j, u) ∷ [])) (sym e) (subst (λ x. IsNone cs known ((i, v) ∷ (j, x) ∷ [])) (sym f) h)

pub both : (cs : List ClassTree) (known : List Formula) (i : ℕ) → IsNone cs known ((i, pos 1) ∷ []) → IsNone cs known ((i, negsuc 0) ∷ []) → (w : ℤ) → IsUnit w → IsNone cs known ((i, w) ∷ [])
both cs known i a b w x =
    ⊎_elim (λ e. subst (λ x. IsNone cs known ((i, x) ∷ [])) (sym e) a) (λ e. subst (λ x. IsNone cs known ((i, x) ∷ [])) (sym e) b) x

-- what holds below a number and from it on, holds
pub at_each : (P : ℕ → Type 0) (n : ℕ) → ((k : ℕ) → k < n → P k) → ((k : ℕ) → n ≤ k → P k) → (k : ℕ) → P k
at_each P zero below past k = past k (omega arith)
at_each P (suc n) below past zero = below zero (omega arith)
at_each P (suc n) below past (suc k) = at_each (λ i. P (suc i)) n (λ i l. below (suc i) (omega arith)) (λ i l. past (suc i) (omega arith)) k

-- a place without a fact
pub second_without : (cs : List ClassTree) (known : List Formula) (i j : ℕ) (w u : ℤ) → fact_at cs known j ≡ None → IsNone cs known ((i, w) ∷ (j, u) ∷ [])
second_without cs known i j w u e = none_second cs known (i, w) (j, u) e

pub first_without : (cs : List ClassTree) (known : List Formula) (i j : ℕ) (w u : ℤ) → fact_at cs known j ≡ None → IsNone cs known ((j, w) ∷ (i, u) ∷ [])
first_without cs known i j w u e = none_without cs known (j, w) ((i, u) ∷ []) e

pub clear_without : (cs : List ClassTree) (known : List Formula) (v : Term → ℤ) (i : ℕ) → fact_at cs known i ≡ None → IsClear cs known v i
clear_without cs known v i e = inr (λ w x. none_without cs known (i, w) [] e, λ j. (λ w u x y. first_without cs known j i w u e, λ w u x y. second_without cs known j i w u e))

pub beside : {E : Type 0} (cs : List ClassTree) (known : List Formula) (i : ℕ) (r : Result (Option (Vec (ℕ × ℤ) Global)) E) → ((j : ℕ) → IsFreeOf cs known i j) → IfOk r (IsContradictionOr cs known ((j : ℕ) → IsFreeOf cs known j i)) → IfOk r (IsContradictionOr cs known (IsFreeOfAll cs known i))
beside cs known i (Ok (Some ps)) second h = h
beside cs known i (Ok None) second h = λ j. (second j, h j)
beside cs known i (Err e) second h = tt

pub at_any : {E : Type 0} (cs : List ClassTree) (known : List Formula) (i : ℕ) (r : Result (Option (Vec (ℕ × ℤ) Global)) E) → IsFreeAlone cs known i → IfOk r (IsContradictionOr cs known (IsFreeOfAll cs known i)) → IfOk r (IsContradictionOr cs known (IsFreeAlone cs known i × IsFreeOfAll cs known i))
at_any cs known i (Ok (Some ps)) alone h = h
at_any cs known i (Ok None) alone h = (alone, h)
at_any cs known i (Err e) alone h = tt

pub at_other : {E : Type 0} (cs : List ClassTree) (known : List Formula) (v : Term → ℤ) (i : ℕ) (r : Result (Option (Vec (ℕ × ℤ) Global)) E) → IfOk r (IsContradictionOr cs known (IsFreeAlone cs known i × IsFreeOfAll cs known i)) → IfOk r (IsContradictionOr cs known (IsClear cs known v i))
at_other cs known v i (Ok (Some ps)) h = h
at_other cs known v i (Ok None) h = inr h
at_other cs known v i (Err e) h = tt

pub met_at : (cs : List ClassTree) (known : List Formula) (v : Term → ℤ) (i : ℕ) (a : SumFact) → fact_at cs known i ≡ Some a → IsMetBy a.is_equality (sum_at v a.sum) → IsMetAt cs known v i
met_at cs known v i a e h fact is = subst (λ (f : SumFact). IsMetBy f.is_equality (sum_at v f.sum)) (some_is a fact (sym e ∙ is)) h

pub refutes : (cs : List ClassTree) (known : List Formula) (ps : List (ℕ × ℤ)) (ss : List (ℤ × List (ℕ × ℤ))) → ss ≡ (pos 1, ps) ∷ [] → IsContradiction cs known ps → Refute cs known ss
refutes cs known ps ss e h = subst (λ (s : List (ℤ × List (ℕ × ℤ))). Refute cs known s) (sym e) h

-- facts that numbers meet are no contradiction
module _ (cs : List ClassTree) (known : List Formula) (v : Term → ℤ) where
  met_alone : (i : ℕ) → IsMetAt cs known v i → IsFreeAlone cs known i
  met_alone i m w x f e c = met_false v cs known ((i, w) ∷ []) f (m, tt) e c

  met_both : (i j : ℕ) → IsMetAt cs known v i → IsMetAt cs known v j → IsFreeOf cs known i j
  met_both i j m n w u x y f e c = met_false v cs known ((i, w) ∷ (j, u) ∷ []) f (m, (n, tt)) e c

  met_beside : (i j : ℕ) → IsMetAt cs known v i → IsClear cs known v j → IsFreeOf cs known i j
  met_beside i j m clear = ⊎_elim (λ n. met_both i j m n) (λ c. (c.1 i).1) clear

  all_free : ((i : ℕ) → IsClear cs known v i) → (i : ℕ) → IsFree cs known i
  all_free clear i = ⊎_elim (λ m. (met_alone i m, λ j. met_beside i j m (clear j))) (λ c. (c.0, λ j. (c.1 j).0)) (clear i)

  pub none_found : MeetsDifferences cs known v → ((i : ℕ) → IsClear cs known v i) → Two cs known → ⊥
  none_found met clear t = two_false cs known v met (λ i w. (all_free clear i).0 w) (λ i j w u. (all_free clear i).1 j w u) t

-- ---- sizes

opposite_sizes : (c d : ℤ) → c +ℤ d ≡ pos 0 → unsigned_abs c ≡ unsigned_abs d
opposite_sizes (pos m) (pos n) e = omega (arith, ints)
opposite_sizes (pos m) (negsuc n) e = omega (arith, ints)
opposite_sizes (negsuc m) (pos n) e = omega (arith, ints)
opposite_sizes (negsuc m) (negsuc n) e = let no : ⊥ = omega (arith, ints) in absurd no

-- numbers that cancel with such weights are of one size
pub sizes : (c d w u : ℤ) → IsUnit w → IsUnit u → (w *ℤ c) +ℤ (u *ℤ d) ≡ pos 0 → unsigned_abs c ≡ unsigned_abs d
sizes c d w u x y e =
    ⊎_elim
    (λ a. ⊎_elim (λ b. by_both a b) (λ b. by_first a b) y)
    (λ a. ⊎_elim (λ b. by_second a b) (λ b. by_none a b) y)
    x
  where
    times : (v : ℤ) → w ≡ v → (v *ℤ c) +ℤ (u *ℤ d) ≡ pos 0
    times v a = subst (λ z. (z *ℤ c) +ℤ (u *ℤ d) ≡ pos 0) a e

    at : (v z : ℤ) → w ≡ v → u ≡ z → (v *ℤ c) +ℤ (z *ℤ d) ≡ pos 0
    at v z a b = subst (λ t. (v *ℤ c) +ℤ (t *ℤ d) ≡ pos 0) b (times v a)

    by_both : w ≡ pos 1 → u ≡ pos 1 → unsigned_abs c ≡ unsigned_abs d
    by_both a b = let h = at (pos 1) (pos 1) a b in let p = product_is (pos 1) c in let q = product_is (pos 1) d in opposite_sizes c d (omega (arith, ints))

    by_first : w ≡ pos 1 → u ≡ negsuc 0 → unsigned_abs c ≡ unsigned_abs d
    by_first a b = let h = at (pos 1) (negsuc 0) a b in let p = product_is (pos 1) c in let q = product_is (negsuc 0) d in let same : c ≡ d = omega (arith, ints) in ap unsigned_abs same

    by_second : w ≡ negsuc 0 → u ≡ pos 1 → unsigned_abs c ≡ unsigned_abs d
    by_second a b = let h = at (negsuc 0) (pos 1) a b in let p = product_is (negsuc 0) c in let q = product_is (pos 1) d in let same : c ≡ d = omega (arith, ints) in ap unsigned_abs same

    by_none : w ≡ negsuc 0 → u ≡ negsuc 0 → unsigned_abs c ≡ unsigned_abs d
    by_none a b = let h = at (negsuc 0) (negsuc 0) a b in let p = product_is (negsuc 0) c in let q = product_is (negsuc 0) d in opposite_sizes c d (omega (arith, ints))

pub cancel_not : {x y p q : ℤ} (w u : ℤ) → x ≡ p → y ≡ q → ((w *ℤ x) +ℤ (u *ℤ y) ≡ pos 0 → ⊥) → (w *ℤ p) +ℤ (u *ℤ q) ≡ pos 0 → ⊥
cancel_not {x} {y} {p} {q} w u e f apart h = apart (subst (λ z. (w *ℤ z) +ℤ (u *ℤ y) ≡ pos 0) (sym e) (subst (λ z. (w *ℤ p) +ℤ (u *ℤ z) ≡ pos 0) (sym f) h))
