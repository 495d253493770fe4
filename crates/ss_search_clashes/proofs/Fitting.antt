-- Where nothing contradicts the classes of a congruence, the known literals fit them.
use Rattle.std.proofs.Common.{◌≡◌, ◌≢◌, ℕ, zero, suc, ◌<◌, List, [], ◌∷◌, length, map, true, false, Some, refl, sym, ◌∙◌, ap, subst, arith}
use Rattle.std.specs.Prelude.{slice_get}
use Rattle.std.specs.List.{Contains}
use Rattle.std.proofs.lemmas.Bool.{true≢false, and_from, eq-eqb}
use Rattle.ss_logic.specs.Terms.{Symbol, Term, Bound, App, Terms, no_terms, term_then, terms_from}
use Rattle.ss_logic.specs.Formulas.{Predicate, Equal, Formula, Literal, And, Or, Forall, Exists, neg}
use Rattle.ss_logic.specs.Equal.{same_predicate, same_formula_equal}
use Rattle.ss_logic_means.specs.Steps.{is_value}
use Rattle.ss_logic.specs.Occurring.{terms}
use Rattle.ss_logic_countermodels.specs.Refuting.{same_classes}
use Rattle.ss_terms.specs.declared.forms.TermId.{TermId}
use Rattle.ss_terms.specs.declared.forms.FormulaId.{FormulaId}
use Rattle.ss_terms.specs.declared.forms.Symbol as form
use Rattle.ss_terms.specs.Forms.{Forms, TermShape, BoundShape, AppShape, term_at, terms_at, formula_at, formulas_at, symbol_of, HasTerm, HasTerms}
use Rattle.ss_terms.specs.Bank.{number}
use Rattle.ss_terms.proofs.Symbols.{symbols_differ}
use Rattle.ss_terms.proofs.Trees.{AreTermsBelow-more}
use Rattle.ss_equality_rules.specs.declared.Merge.{Merge}
use Rattle.ss_equality_rules.specs.Equal.{IsEqual, applied, AreFormsOf, class_number, AreClassesOf}
use Rattle.ss_equality_rules.proofs.Lists.{there}
use Rattle.ss_search_procedure_rules.specs.Closed.{is_basic, basics}
use Rattle.ss_search_procedure_rules.specs.Clashes.{Classing, classes_in, FitsClasses}
use Rattle.ss_logic.proofs.Lists.{map_from, from_filter}
use Rattle.ss_search_procedure_rules.proofs.Fitting.{classes_themselves, predicate_itself}
use Rattle.ss_search_clashes.specs.Numbered.{IsClassing, differs, is_denied, is_opposed, HasNoClash, AreMerged}
use Rattle.ss_search_clashes.proofs.Numbers.{classes_numbered}
use Rattle.ss_search_clashes.proofs.Terms.{IsNumbered, known_numbered}

-- ---- classes of a congruence

module _ (b : Forms) (ts : List TermShape) (are : AreFormsOf b ts) (ms : List Merge) (classes : List ℕ) (of : AreClassesOf ts ms classes) where
  inside : (t : TermId) → HasTerm b t → t.0 < length ts
  inside t h = omega (arith, h, are.all)

  record IsForm (f : Symbol) (us : Terms) (t : TermId) : Type 0 where
    symbol : form.Symbol
    arguments : List TermId
    at : slice_get ts t.0 ≡ Some (AppShape symbol arguments)
    symbol_is : symbol_of symbol ≡ f
    arguments_are : us ≡ terms_from (terms_at b arguments)
    below : HasTerms b arguments

  form_at : (f : Symbol) (us : Terms) (t : TermId) → HasTerm b t → term_at b t ≡ App f us → (n : TermShape) → slice_get ts t.0 ≡ Some n → IsForm f us t
  form_at f us t h e (BoundShape k) at = let clash : Bound k ≡ App f us = sym (are.built t.0 (BoundShape k) at) ∙ e in cc
  form_at f us t h e (AppShape g ys) at =
      let same : App (symbol_of g) (terms_from (terms_at b ys)) ≡ App f us = sym (are.built t.0 (AppShape g ys) at) ∙ e in
      let function : symbol_of g ≡ f = cc in
      let rest : us ≡ terms_from (terms_at b ys) = cc in
      record { symbol = g; arguments = ys; at = at; symbol_is = function; arguments_are = rest; below = AreTermsBelow-more t.0 (length b.terms) (omega (arith, h)) ys (are.below t.0 (AppShape g ys) at) }

  form_of : (f : Symbol) (us : Terms) (t : TermId) → HasTerm b t → term_at b t ≡ App f us → IsForm f us t
  form_of f us t h e = let r = there ts t.0 (inside t h) in form_at f us t h e r.0 r.1

  same_lengths : (xs ys : List TermId) → map (class_number classes) xs ≡ map (class_number classes) ys → length xs ≡ length ys
  same_lengths [] [] e = refl
  same_lengths [] (y ∷ ys) e = cc
  same_lengths (x ∷ xs) [] e = cc
  same_lengths (x ∷ xs) (y ∷ ys) e =
      let rest : map (class_number classes) xs ≡ map (class_number classes) ys = cc in
      let r = same_lengths xs ys rest in omega (arith, r)

  one_by_one : (xs ys : List TermId) → HasTerms b xs → HasTerms b ys → map (class_number classes) xs ≡ map (class_number classes) ys →
      (i : ℕ) (x y : TermId) → slice_get xs i ≡ Some x → slice_get ys i ≡ Some y → IsEqual ts ms x.0 y.0
  one_by_one [] ys hx hy e i x y p q = cc
  one_by_one (u ∷ xs) [] hx hy e i x y p q = cc
  one_by_one (u ∷ xs) (v ∷ ys) hx hy e zero x y p q =
      let left : u ≡ x = cc in
      let right : v ≡ y = cc in
      let first : class_number classes u ≡ class_number classes v = cc in
      subst (λ (w : TermId). IsEqual ts ms x.0 w.0) right (subst (λ (w : TermId). IsEqual ts ms w.0 v.0) left ((of u.0 v.0 (inside u hx.0) (inside v hy.0)).0 first))
  one_by_one (u ∷ xs) (v ∷ ys) hx hy e (suc i) x y p q =
      let rest : map (class_number classes) xs ≡ map (class_number classes) ys = cc in
      one_by_one xs ys hx.1 hy.1 rest i x y p q

  module _ (class : Classing) (c : IsClassing b classes class) where
    equal_classes : (s t : TermId) → HasTerm b s → HasTerm b t → IsEqual ts ms s.0 t.0 → class (term_at b s) ≡ class (term_at b t)
    equal_classes s t hs ht e = c.at s hs ∙ (of s.0 t.0 (inside s hs) (inside t ht)).1 e ∙ sym (c.at t ht)

    congruent_numbers : (f : Symbol) (us vs : Terms) (s t : TermId) → HasTerm b s → HasTerm b t → term_at b s ≡ App f us → term_at b t ≡ App f vs → classes_in class us ≡ classes_in class vs → IsEqual ts ms s.0 t.0
    congruent_numbers f us vs s t hs ht es et e =
        let p = form_of f us s hs es in
        let q = form_of f vs t ht et in
        let one : p.symbol ≡ q.symbol = symbols_differ p.symbol q.symbol (p.symbol_is ∙ sym q.symbol_is) in
        let lists : map (class_number classes) p.arguments ≡ map (class_number classes) q.arguments =
        sym (classes_numbered b classes class c p.arguments p.below) ∙ ap (classes_in class) (sym p.arguments_are) ∙ e ∙ ap (classes_in class) q.arguments_are ∙ classes_numbered b classes class c q.arguments q.below in
        applied p.symbol p.arguments q.arguments p.at (q.at ∙ ap (λ g. Some (AppShape g q.arguments)) (sym one)) (same_lengths p.arguments q.arguments lists)
        (one_by_one p.arguments q.arguments p.below q.below lists)

    module _ (known : List FormulaId) (merged : AreMerged b ts ms known) (none : HasNoClash b class known) where
      abbrev facts : List Formula
      facts = basics (formulas_at b known)

      record IsKnown (f : Formula) : Type 0 where
        formula : FormulaId
        is_in : Contains known formula
        at : formula_at b formula ≡ f
        basic : is_basic f ≡ true

      fact_known : (f : Formula) → Contains facts f → IsKnown f
      fact_known f h =
          let p = from_filter is_basic (formulas_at b known) f h in
          let q = map_from (formula_at b) known f p.0 in
          record { formula = q.0; is_in = q.1; at = q.2; basic = p.1 }

      number_of : (x : Term) → Contains (terms facts) x → IsNumbered b x
      number_of x h = known_numbered b ts are known x h

      not_opposed : (f g : Formula) → Contains facts f → Contains facts g → is_opposed class f g ≡ true → ⊥
      not_opposed f g hf hg e =
          let p = fact_known f hf in
          let q = fact_known g hg in
          true≢false (sym e ∙ ap (λ x. is_opposed class x g) (sym p.at) ∙ ap (is_opposed class (formula_at b p.formula)) (sym q.at) ∙ none.unopposed p.formula q.formula p.is_in q.is_in)

      denied : (p : Predicate) (us vs : Terms) → classes_in class us ≡ classes_in class vs → is_denied class p us (Literal false p vs) ≡ true
      denied p us vs e = and_from (same_predicate p p) (same_classes (classes_in class us) (classes_in class vs)) (predicate_itself p)
          (subst (λ ns. same_classes (classes_in class us) ns ≡ true) e (classes_themselves (classes_in class us)))

      negation_opposed : (f : Formula) → is_basic f ≡ true → Contains facts f → Contains facts (neg f) → ⊥
      negation_opposed (Literal true p us) k h n = not_opposed (Literal true p us) (Literal false p us) h n (denied p us us refl)
      negation_opposed (Literal false p us) k h n = not_opposed (Literal true p us) (Literal false p us) n h (denied p us us refl)
      negation_opposed (And fs) k h n = true≢false (sym k)
      negation_opposed (Or fs) k h n = true≢false (sym k)
      negation_opposed (Forall ss f) k h n = not_opposed (Forall ss f) (neg (Forall ss f)) h n (same_formula_equal (neg (Forall ss f)) (neg (Forall ss f)) refl)
      negation_opposed (Exists ss f) k h n = not_opposed (Exists ss f) (neg (Exists ss f)) h n (same_formula_equal (neg (Exists ss f)) (neg (Exists ss f)) refl)

      differing : (x y : Term) → Contains facts (Literal false Equal (term_then x (term_then y no_terms))) → class x ≢ class y
      differing x y h e =
          let p = fact_known (Literal false Equal (term_then x (term_then y no_terms))) h in
          true≢false (sym (eq-eqb (class x) (class y) e) ∙ ap (differs class) (sym p.at) ∙ none.different p.formula p.is_in)

      equal_sides : (x y : Term) → Contains facts (Literal true Equal (term_then x (term_then y no_terms))) → class x ≡ class y
      equal_sides x y h =
          let p = fact_known (Literal true Equal (term_then x (term_then y no_terms))) h in
          let r = merged p.formula p.is_in x y p.at in
          ap class (sym r.4) ∙ equal_classes r.0 r.1 r.2 r.3 r.6 ∙ ap class r.5

      pub fits : FitsClasses class (basics (formulas_at b known))
      fits = record {
        basic = λ f h. (fact_known f h).basic;
        congruent = λ f us vs h k e.
            let s = number_of (App f us) h in
            let t = number_of (App f vs) k in
            ap class (sym s.is) ∙ equal_classes s.term t.term s.has t.has (congruent_numbers f us vs s.term t.term s.has t.has s.is t.is e) ∙ ap class t.is;
        equal = equal_sides;
        different = differing;
        values = λ x y h k vx vy e.
            let s = number_of x h in
            let t = number_of y k in
            let same : s.term.0 ≡ t.term.0 = none.values s.term t.term s.has t.has (ap is_value s.is ∙ vx) (ap is_value t.is ∙ vy) (ap class s.is ∙ e ∙ sym (ap class t.is)) in
            sym s.is ∙ ap (λ k. term_at b (number k)) same ∙ t.is;
        agreeing = λ p us vs h k e. not_opposed (Literal true p us) (Literal false p vs) h k (denied p us vs e);
        unopposed = λ f h n. negation_opposed f (fact_known f h).basic h n;
      }
