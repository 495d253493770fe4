-- A formula and its negation under one number each.
use Rattle.std.proofs.Common.{◌≡◌, ℕ, ◌+◌, ◌*◌, ◌-◌, ◌/◌, ◌%◌, ◌<◌, List, [], ◌∷◌, map, not, refl, sym, ◌∙◌, ap, ⊎_elim, arith}
use Rattle.std.proofs.lemmas.Bool.{true≢false}
use Rattle.ss_logic.specs.Terms as tree
use Rattle.ss_logic.specs.Formulas as logic
use Rattle.ss_logic.specs.Formulas.{Formula, neg, neg_all, formulas_from, formula_then}
use Rattle.ss_logic.proofs.Truth.{neg_neg}
use Rattle.ss_terms_interned.proofs.Halves.{split_number, half_of, sign_of, half_below}
use Rattle.ss_terms.specs.declared.forms.TermId.{TermId}
use Rattle.ss_terms.specs.declared.forms.FormulaId.{FormulaId}
use Rattle.ss_terms.specs.Forms.{Shape, LiteralShape, AndShape, OrShape, ForallShape, ExistsShape, with_sign, signed, formula_of, other, opposite_shape, AreBelow}
use Rattle.ss_terms.specs.Bank.{IsPlain}
use Rattle.ss_terms.proofs.Same.{formula_id}

pub signed_plain : (look : ℕ → Formula) (k : ℕ) (f : FormulaId) → f.0 ≡ k * 2 → signed look f ≡ look k
signed_plain look k f e =
    let e' : f.0 ≡ k * 2 + 0 = omega (arith, e) in
    let h : f.0 / 2 ≡ k = ap (λ n. n / 2) e' ∙ half_of k 0 (omega arith) in
    let s : f.0 % 2 ≡ 0 = ap (λ n. n % 2) e' ∙ sign_of k 0 (omega arith) in
    ap (λ n. with_sign n (look (f.0 / 2))) s ∙ ap look h

pub signed_negated : (look : ℕ → Formula) (k : ℕ) (f : FormulaId) → f.0 ≡ k * 2 + 1 → signed look f ≡ neg (look k)
signed_negated look k f e =
    let h : f.0 / 2 ≡ k = ap (λ n. n / 2) e ∙ half_of k 1 (omega arith) in
    let s : f.0 % 2 ≡ 1 = ap (λ n. n % 2) e ∙ sign_of k 1 (omega arith) in
    ap (λ n. with_sign n (look (f.0 / 2))) s ∙ ap (λ n. neg (look n)) h

-- the number beside stands for the negation
pub signed_other : (look : ℕ → Formula) (f : FormulaId) → signed look (other f) ≡ neg (signed look f)
signed_other look f = ⊎_elim even odd (split_number f.0)
  where
    even : (f.0 ≡ f.0 / 2 * 2 + 0) × (f.0 % 2 ≡ 0) → signed look (other f) ≡ neg (signed look f)
    even p =
        let at : (other f).0 ≡ f.0 / 2 * 2 + 1 = ap (λ r. f.0 / 2 * 2 + (1 - r)) p.1 in
        signed_negated look (f.0 / 2) (other f) at ∙ ap neg (sym (ap (λ n. with_sign n (look (f.0 / 2))) p.1))

    odd : (f.0 ≡ f.0 / 2 * 2 + 1) × (f.0 % 2 ≡ 1) → signed look (other f) ≡ neg (signed look f)
    odd p =
        let at : (other f).0 ≡ f.0 / 2 * 2 + 0 = ap (λ r. f.0 / 2 * 2 + (1 - r)) p.1 in
        signed_plain look (f.0 / 2) (other f) (omega (arith, at)) ∙ sym (neg_neg (look (f.0 / 2))) ∙ ap neg (sym (ap (λ n. with_sign n (look (f.0 / 2))) p.1))

pub other_below : (k : ℕ) (f : FormulaId) → f.0 < k * 2 → (other f).0 < k * 2
other_below k f h =
    let b = half_below f.0 k h in
    omega arith

pub others_below : (k : ℕ) (fs : List FormulaId) → AreBelow (k * 2) fs → AreBelow (k * 2) (map other fs)
others_below k [] h = tt
others_below k (f ∷ fs) h = (other_below k f h.0, others_below k fs h.1)

-- the opposite form says the negation
module _ (terms : TermId → tree.Term) (look : ℕ → Formula) where
  pub formulas-others : (fs : List FormulaId) → formulas_from (map (signed look) (map other fs)) ≡ neg_all (formulas_from (map (signed look) fs))
  formulas-others [] = refl
  formulas-others (f ∷ fs) =
      ap (λ g. formula_then g (formulas_from (map (signed look) (map other fs)))) (signed_other look f)
      ∙ ap (λ gs. formula_then (neg (signed look f)) gs) (formulas-others fs)

  pub formula_of-opposite : (n : Shape) → formula_of terms (signed look) (opposite_shape n) ≡ neg (formula_of terms (signed look) n)
  formula_of-opposite (LiteralShape s p ts) = refl
  formula_of-opposite (AndShape fs) = ap logic.Or (formulas-others fs)
  formula_of-opposite (OrShape fs) = ap logic.And (formulas-others fs)
  formula_of-opposite (ForallShape ss f) = ap (logic.Exists ss) (signed_other look f)
  formula_of-opposite (ExistsShape ss f) = ap (logic.Forall ss) (signed_other look f)

plain_apart : (f g : Formula) → IsPlain f → IsPlain g → f ≡ neg g → ⊥
plain_apart (logic.Literal s x xs) (logic.Literal t y ys) p q e = let same : s ≡ not t = cc in true≢false (sym p ∙ same ∙ ap not q)
plain_apart (logic.Literal s x xs) (logic.And gs) p q e = cc
plain_apart (logic.Literal s x xs) (logic.Forall rs g) p q e = cc
plain_apart (logic.And fs) (logic.Literal t y ys) p q e = cc
plain_apart (logic.And fs) (logic.And gs) p q e = cc
plain_apart (logic.And fs) (logic.Forall rs g) p q e = cc
plain_apart (logic.Forall ss f) (logic.Literal t y ys) p q e = cc
plain_apart (logic.Forall ss f) (logic.And gs) p q e = cc
plain_apart (logic.Forall ss f) (logic.Forall rs g) p q e = cc
plain_apart (logic.Or fs) g p q e = p
plain_apart (logic.Exists ss f) g p q e = p
plain_apart (logic.Literal s x xs) (logic.Or gs) p q e = q
plain_apart (logic.Literal s x xs) (logic.Exists rs g) p q e = q
plain_apart (logic.And fs) (logic.Or gs) p q e = q
plain_apart (logic.And fs) (logic.Exists rs g) p q e = q
plain_apart (logic.Forall ss f) (logic.Or gs) p q e = q
plain_apart (logic.Forall ss f) (logic.Exists rs g) p q e = q

-- two numbers stand for two formulas, where those without sign do and are no negations
module _ (look : ℕ → Formula) (b : ℕ) (apart : (i j : ℕ) → i < b → j < b → look i ≡ look j → i ≡ j) (fine : (i : ℕ) → i < b → IsPlain (look i)) where
  pub signed_apart : (f g : FormulaId) → f.0 < b * 2 → g.0 < b * 2 → signed look f ≡ signed look g → f ≡ g
  signed_apart f g hf hg e =
      let bf = half_below f.0 b hf in
      let bg = half_below g.0 b hg in
      formula_id f g
      (⊎_elim
      (λ p. ⊎_elim
      (λ q. let same = apart (f.0 / 2) (g.0 / 2) bf bg (sym (signed_plain look (f.0 / 2) f (omega (arith, p.0))) ∙ e ∙ signed_plain look (g.0 / 2) g (omega (arith, q.0))) in p.0 ∙ ap (λ k. k * 2 + 0) same ∙ sym q.0)
      (λ q. absurd (plain_apart (look (f.0 / 2)) (look (g.0 / 2)) (fine _ bf) (fine _ bg) (sym (signed_plain look (f.0 / 2) f (omega (arith, p.0))) ∙ e ∙ signed_negated look (g.0 / 2) g q.0)))
      (split_number g.0))
      (λ p. ⊎_elim
      (λ q. absurd (plain_apart (look (g.0 / 2)) (look (f.0 / 2)) (fine _ bg) (fine _ bf) (sym (signed_plain look (g.0 / 2) g (omega (arith, q.0))) ∙ sym e ∙ signed_negated look (f.0 / 2) f p.0)))
      (λ q. let negs : neg (look (f.0 / 2)) ≡ neg (look (g.0 / 2)) = sym (signed_negated look (f.0 / 2) f p.0) ∙ e ∙ signed_negated look (g.0 / 2) g q.0 in
      let same = apart (f.0 / 2) (g.0 / 2) bf bg (sym (neg_neg _) ∙ ap neg negs ∙ neg_neg _) in p.0 ∙ ap (λ k. k * 2 + 1) same ∙ sym q.0)
      (split_number g.0))
      (split_number f.0))
