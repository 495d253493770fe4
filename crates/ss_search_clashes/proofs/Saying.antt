-- What formulas say that contradict classes of terms.
use Rattle.std.proofs.Common.{◌≡◌, Bool, true, false, not, refl, sym, ◌∙◌, ap, inl, inr, ◌⊎◌, ⊎_elim}
use Rattle.std.proofs.lemmas.Bool.{false≢true, true≢false, and_parts, eqb-true}
use Rattle.ss_logic.specs.Terms.{Term, Terms, term_then, no_terms}
use Rattle.ss_logic.specs.Formulas.{Predicate, Equal, Formula, Literal, And, Or, Forall, Exists, neg}
use Rattle.ss_logic.specs.Equal.{same_predicate, equal_predicates, same_formula, equal_formulas, same_formula_equal}
use Rattle.ss_logic.proofs.Truth.{neg_neg}
use Rattle.ss_logic_countermodels.specs.Refuting.{same_classes}
use Rattle.ss_search_procedure_rules.specs.Closed.{is_basic}
use Rattle.ss_search_procedure_rules.specs.Clashes.{Classing, classes_in}
use Rattle.ss_search_clashes.specs.Numbered.{differs, is_denied, is_opposed}
use Rattle.ss_search_clashes.proofs.Keys.{same_classes_equal}
use Rattle.ss_search_clashes.specs.Cases.{AreOpposed}

basic_negation : (f : Formula) → is_basic f ≡ true → is_basic (neg f) ≡ true
basic_negation (Literal s p ts) e = refl
basic_negation (And fs) e = absurd (false≢true e)
basic_negation (Or fs) e = absurd (false≢true e)
basic_negation (Forall ss f) e = refl
basic_negation (Exists ss f) e = refl

-- a literal has one sign
pub one_sign : (s : Bool) (x y u v : Term) (f : Formula) → f ≡ Literal false Equal (term_then x (term_then y no_terms)) → f ≡ Literal s Equal (term_then u (term_then v no_terms)) → s ≡ false
one_sign s x y u v f e g = let both : Literal s Equal (term_then u (term_then v no_terms)) ≡ Literal false Equal (term_then x (term_then y no_terms)) = sym g ∙ e in cc

module _ (class : Classing) where
  -- ---- terms that differ

  pub differs_literal : (f : Formula) → differs class f ≡ true → (x : Term) × (y : Term) × (f ≡ Literal false Equal (term_then x (term_then y no_terms)))
  differs_literal (Literal false Equal (term_then x (term_then y no_terms))) e = (x, y, refl)
  differs_literal f e = absurd (false≢true e)

  pub differing_basic : (f : Formula) → differs class f ≡ true → is_basic f ≡ true
  differing_basic f e = let l = differs_literal f e in ap is_basic l.2

  pub differing_classes : (f : Formula) (x y : Term) → f ≡ Literal false Equal (term_then x (term_then y no_terms)) → differs class f ≡ true → class x ≡ class y
  differing_classes f x y is e = eqb-true (class x) (class y) (ap (differs class) (sym is) ∙ e)

  -- ---- opposed formulas

  -- a formula and its negation
  pub record AreNegations (f g : Formula) : Type 0 where
    pub negation : f ≡ neg g
    pub basic : is_basic f ≡ true

  -- a literal, and its negation at arguments in the same classes
  pub record AreDenied (f g : Formula) : Type 0 where
    pub sign : Bool
    pub predicate : Predicate
    pub lefts : Terms
    pub rights : Terms
    pub left : f ≡ Literal sign predicate lefts
    pub right : neg g ≡ Literal sign predicate rights
    pub same : classes_in class lefts ≡ classes_in class rights

  denied : (p : Predicate) (ts : Terms) (g : Formula) → is_denied class p ts g ≡ true → AreDenied (Literal true p ts) g
  denied p ts (Literal false q us) e =
      let h = and_parts (same_predicate p q) (same_classes (classes_in class ts) (classes_in class us)) e in
      record {
        sign = true;
        predicate = p;
        lefts = ts;
        rights = us;
        left = refl;
        right = ap (λ r. Literal true r us) (sym (equal_predicates p q h.0));
        same = same_classes_equal (classes_in class ts) (classes_in class us) h.1;
      }
  denied p ts g e = absurd (false≢true e)

  negated : (f g : Formula) → is_basic f ≡ true → neg f ≡ g → AreNegations f g
  negated f g s e = record { negation = sym (neg_neg f) ∙ ap neg e; basic = s }

  opposed : (f g : Formula) → is_opposed class f g ≡ true → AreNegations f g ⊎ AreDenied f g
  opposed (Literal true p ts) g e = inr (denied p ts g e)
  opposed (Literal false p ts) g e = absurd (false≢true e)
  opposed (And fs) g e = absurd (false≢true e)
  opposed (Or fs) g e = absurd (false≢true e)
  opposed (Forall ss f) g e = inl (negated (Forall ss f) g refl (equal_formulas (neg (Forall ss f)) g e))
  opposed (Exists ss f) g e = inl (negated (Exists ss f) g refl (equal_formulas (neg (Exists ss f)) g e))

  turned_negations : (f g : Formula) → AreNegations f g → AreNegations g f
  turned_negations f g n = negated g f (back g (ap is_basic (sym n.negation) ∙ n.basic)) (sym n.negation)
    where
      back : (h : Formula) → is_basic (neg h) ≡ true → is_basic h ≡ true
      back h e = ap is_basic (sym (neg_neg h)) ∙ basic_negation (neg h) e

  turned_denied : (f g : Formula) → AreDenied f g → AreDenied g f
  turned_denied f g d = record {
    sign = not d.sign;
    predicate = d.predicate;
    lefts = d.rights;
    rights = d.lefts;
    left = sym (neg_neg g) ∙ ap neg d.right;
    right = ap neg d.left;
    same = sym d.same;
  }

  turned : (f g : Formula) → AreNegations f g ⊎ AreDenied f g → AreNegations g f ⊎ AreDenied g f
  turned f g h = ⊎_elim (λ n. inl (turned_negations f g n)) (λ d. inr (turned_denied f g d)) h

  pub either_way : (f g : Formula) → AreOpposed class f g → AreNegations f g ⊎ AreDenied f g
  either_way f g h = ⊎_elim (λ e. opposed f g e) (λ e. turned g f (opposed g f e)) h

  pub one_basic : (f g : Formula) → AreNegations f g ⊎ AreDenied f g → is_basic f ≡ true
  one_basic f g h = ⊎_elim (λ n. n.basic) (λ d. ap is_basic d.left) h

  pub both_basic : (f g : Formula) → AreOpposed class f g → (is_basic f ≡ true) × (is_basic g ≡ true)
  both_basic f g h = let e = either_way f g h in (one_basic f g e, one_basic g f (turned f g e))

  pub not_negations : (f g : Formula) → AreNegations f g ⊎ AreDenied f g → same_formula f (neg g) ≡ false → AreDenied f g
  not_negations f g h differ = ⊎_elim (λ n. absurd (true≢false (sym (same_formula_equal f (neg g) n.negation) ∙ differ))) (λ d. d) h
