-- Formulas are opposed where one says of something that it holds and the other that it doesn't.
use Rattle.std.proofs.Common.{◌≡◌, List, Bool, true, false, not, refl, sym, ◌∙◌, ap, subst}
use Rattle.std.proofs.lemmas.Bool.{true≢false, false≢true, and_parts, and_from, eqb-true}
use Rattle.ss_logic.specs.declared.Sort.{Sort}
use Rattle.ss_logic.specs.Terms.{Terms}
use Rattle.ss_logic.specs.Formulas.{Predicate, Formula, Literal, And, Or, Forall, Exists, neg}
use Rattle.ss_logic.specs.Equal.{same_predicate, equal_predicates, same_formula, equal_formulas, same_formula_equal}
use Rattle.ss_logic.proofs.Truth.{neg_neg}
use Rattle.ss_logic_countermodels.specs.Refuting.{same_classes}
use Rattle.ss_terms.specs.declared.forms.FormulaId.{FormulaId}
use Rattle.ss_terms.specs.Forms.{Forms, formula_at, HasFormula}
use Rattle.ss_terms.specs.Apart.{AreApart}
use Rattle.ss_terms.proofs.Same.{formula_id}
use Rattle.ss_search_procedure_rules.specs.Clashes.{Classing, classes_in}
use Rattle.ss_search_procedure_rules.proofs.Fitting.{classes_themselves, predicate_itself}
use Rattle.ss_search_clashes.specs.Numbered.{is_denied, is_opposed}
use Rattle.ss_search_clashes.specs.Says.{Key, AtomKey, QuantifiedKey, Says}
use Rattle.ss_search_clashes.proofs.Keys.{same_classes_equal}

module _ (b : Forms) (class : Classing) where
  -- the first says of something that it holds or that it doesn't, the second the opposite
  pub record AreContrary (f g : Formula) : Type 0 where
    pub key : Key
    pub holds : Bool
    pub left : Says b class f key holds
    pub right : Says b class g key (not holds)

  denied_says : (p : Predicate) (ts : Terms) (g : Formula) → is_denied class p ts g ≡ true → AreContrary (Literal true p ts) g
  denied_says p ts (Literal false q us) e =
      let h = and_parts (same_predicate p q) (same_classes (classes_in class ts) (classes_in class us)) e in
      record {
        key = AtomKey p (classes_in class ts);
        holds = true;
        left = (refl, refl);
        right = (ap (λ x. AtomKey x (classes_in class ts)) (equal_predicates p q h.0) ∙ ap (AtomKey q) (same_classes_equal (classes_in class ts) (classes_in class us) h.1), refl);
      }
  denied_says p ts g e = absurd (false≢true e)

  opposed_says : (f g : FormulaId) → HasFormula b f → HasFormula b g → (x : Formula) → formula_at b f ≡ x → is_opposed class x (formula_at b g) ≡ true → AreContrary x (formula_at b g)
  opposed_says f g hf hg (Literal true p ts) at e = denied_says p ts (formula_at b g) e
  opposed_says f g hf hg (Literal false p ts) at e = absurd (false≢true e)
  opposed_says f g hf hg (And fs) at e = absurd (false≢true e)
  opposed_says f g hf hg (Or fs) at e = absurd (false≢true e)
  opposed_says f g hf hg (Forall ss x) at e =
      let is : Exists ss (neg x) ≡ formula_at b g = equal_formulas (neg (Forall ss x)) (formula_at b g) e in
      record {
        key = QuantifiedKey f.0;
        holds = true;
        left = (f, hf, at, refl, refl);
        right = subst (λ y. Says b class y (QuantifiedKey f.0) false) is (f, hf, at ∙ ap (Forall ss) (sym (neg_neg x)), refl, refl);
      }
  opposed_says f g hf hg (Exists ss x) at e =
      let is : Forall ss (neg x) ≡ formula_at b g = equal_formulas (neg (Exists ss x)) (formula_at b g) e in
      record {
        key = QuantifiedKey g.0;
        holds = false;
        left = (g, hg, sym is, refl, refl);
        right = subst (λ y. Says b class y (QuantifiedKey g.0) true) is (g, hg, sym is, refl, refl);
      }

  pub contrary : (f g : FormulaId) → HasFormula b f → HasFormula b g → is_opposed class (formula_at b f) (formula_at b g) ≡ true → AreContrary (formula_at b f) (formula_at b g)
  contrary f g hf hg e = opposed_says f g hf hg (formula_at b f) refl e

  -- ---- and the other way round

  quantified_apart : (n m : FormulaId) → QuantifiedKey n.0 ≡ QuantifiedKey m.0 → n ≡ m
  quantified_apart n m e = let same : n.0 ≡ m.0 = cc in formula_id n m same

  says_denied : (p : Predicate) (ts : Terms) (g : Formula) (k : Key) → k ≡ AtomKey p (classes_in class ts) → Says b class g k false → is_denied class p ts g ≡ true
  says_denied p ts (Literal true q us) k e h = absurd (false≢true h.1)
  says_denied p ts (Literal false q us) k e h =
      let keys : AtomKey p (classes_in class ts) ≡ AtomKey q (classes_in class us) = sym e ∙ h.0 in
      let predicates : p ≡ q = cc in
      let classes : classes_in class ts ≡ classes_in class us = cc in
      and_from (same_predicate p q) (same_classes (classes_in class ts) (classes_in class us))
      (subst (λ x. same_predicate p x ≡ true) predicates (predicate_itself p))
      (subst (λ ns. same_classes (classes_in class ts) ns ≡ true) classes (classes_themselves (classes_in class ts)))
  says_denied p ts (And gs) k e h = absurd h
  says_denied p ts (Or gs) k e h = absurd h
  says_denied p ts (Forall ss g) k e (n, has, at, key, holds) = absurd (false≢true holds)
  says_denied p ts (Exists ss g) k e (n, has, at, key, holds) = let keys : AtomKey p (classes_in class ts) ≡ QuantifiedKey n.0 = sym e ∙ key in cc

  says_other : (ss : List Sort) (f g : Formula) (n : FormulaId) (k : Key) → formula_at b n ≡ Forall ss f → k ≡ QuantifiedKey n.0 → Says b class g k false → same_formula (Exists ss (neg f)) g ≡ true
  says_other ss f (Literal s q us) n k at e h = let keys : QuantifiedKey n.0 ≡ AtomKey q (classes_in class us) = sym e ∙ h.0 in cc
  says_other ss f (And gs) n k at e h = absurd h
  says_other ss f (Or gs) n k at e h = absurd h
  says_other ss f (Forall rs g) n k at e (m, has, is, key, holds) = absurd (false≢true holds)
  says_other ss f (Exists rs g) n k at e (m, has, is, key, holds) =
      let same = quantified_apart n m (sym e ∙ key) in
      let forms : Forall ss f ≡ Forall rs (neg g) = sym at ∙ ap (formula_at b) same ∙ is in
      same_formula_equal (Exists ss (neg f)) (Exists rs g) (ap neg forms ∙ ap (Exists rs) (neg_neg g))

  pub says_opposed : (f g : Formula) (k : Key) → Says b class f k true → Says b class g k false → is_opposed class f g ≡ true
  says_opposed (Literal true p ts) g k h n = says_denied p ts g k h.0 n
  says_opposed (Literal false p ts) g k h n = absurd (true≢false h.1)
  says_opposed (And fs) g k h n = absurd h
  says_opposed (Or fs) g k h n = absurd h
  says_opposed (Forall ss f) g k (m, has, at, key, holds) n = says_other ss f g m k at key n
  says_opposed (Exists ss f) g k (m, has, at, key, holds) n = absurd (true≢false holds)

  -- ---- a formula says one thing

  pub record AreSame (k : Key) (h : Bool) (x : Key) (v : Bool) : Type 0 where
    pub keys : k ≡ x
    pub holds : h ≡ v

  module _ (apart : AreApart b) where
    one_number : (n m : FormulaId) → HasFormula b n → HasFormula b m → formula_at b n ≡ formula_at b m → n.0 ≡ m.0
    one_number n m hn hm e = eqb-true n.0 m.0 (apart.formulas n m hn hm ∙ same_formula_equal (formula_at b n) (formula_at b m) e)

    pub says_once : (f : Formula) (k x : Key) (h v : Bool) → Says b class f k h → Says b class f x v → AreSame k h x v
    says_once (Literal s p ts) k x h v a c = record { keys = a.0 ∙ sym c.0; holds = a.1 ∙ sym c.1 }
    says_once (And fs) k x h v a c = absurd a
    says_once (Or fs) k x h v a c = absurd a
    says_once (Forall ss f) k x h v (n, hn, at, key, holds) (m, hm, is, other, also) =
        record { keys = key ∙ ap QuantifiedKey (one_number n m hn hm (at ∙ sym is)) ∙ sym other; holds = holds ∙ sym also }
    says_once (Exists ss f) k x h v (n, hn, at, key, holds) (m, hm, is, other, also) =
        record { keys = key ∙ ap QuantifiedKey (one_number n m hn hm (at ∙ sym is)) ∙ sym other; holds = holds ∙ sym also }

    pub no_both : (f : Formula) (k : Key) (h : Bool) → Says b class f k h → Says b class f k (not h) → ⊥
    no_both f k true a c = true≢false (says_once f k k true false a c).holds
    no_both f k false a c = false≢true (says_once f k k false true a c).holds
