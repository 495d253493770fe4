-- Lines that make a fact known, and then one that closes the case.
use Rattle.std.proofs.Common.{◌≡◌, ◌≢◌, ℕ, List, [], ◌∷◌, ◌++◌, length, Bool, true, false, not, ◌&&◌, Option, Some, refl, sym, ◌∙◌, ap, subst}
use Rattle.std.specs.Prelude.{slice_get, ◌==◌}
use Rattle.std.proofs.lemmas.Bool.{false≢true, and_parts, and_from, or_left, or_right, eq-eqb, ne_eqb}
use Rattle.std.proofs.lemmas.List.{map_push}
use Rattle.ss_core.specs.Tree.{ClassTree}
use Rattle.ss_logic.specs.Terms.{Number, Fixed, Null, ClassName, Term, App, no_terms, term_then, terms_from, is_well_sorted, are_well_sorted, sorts_of}
use Rattle.ss_logic.specs.Formulas.{Equal, Predicate, Formula, Literal, takes_sorts, is_well_formed, neg}
use Rattle.ss_logic.specs.Equal.{same_term, same_formula, same_formula_equal}
use Rattle.ss_logic.proofs.Truth.{neg_neg}
use Rattle.ss_logic.specs.Shapes.{equal}
use Rattle.ss_logic_means.specs.Steps as tree
use Rattle.ss_logic_means.specs.Steps.{is_value, is_absurd, is_opposed, is_clash}
use Rattle.ss_terms.specs.declared.forms.TermId.{TermId}
use Rattle.ss_terms.specs.declared.forms.FormulaId.{FormulaId}
use Rattle.ss_terms.specs.Forms.{Forms, term_at, terms_at, formula_at, HasTerm}
use Rattle.ss_terms.specs.Apart.{AreApart}
use Rattle.ss_deriv.specs.declared.line.Line.{Line}
use Rattle.ss_deriv.specs.declared.line.Line.TheVariants.{Clash}
use Rattle.ss_deriv.specs.Lines.{line_of, lines_of}
use Rattle.ss_equality_rules.specs.declared.Merge.{Merge}
use Rattle.ss_search_procedure_rules.specs.Closed.{is_basic}
use Rattle.ss_search_clashes.specs.Closing.{Closes}
use Rattle.ss_search_clashes.proofs.Closing.{closes_clash}
use Rattle.ss_search_clashes.proofs.Leading.{at_front}
use Rattle.ss_search_clashes.specs.Said.{facts_said, MakeKnown, IsLiteralAt}
use Rattle.ss_search_clashes.specs.declared.facts.Fact.{Fact}
use Rattle.ss_search_clashes.specs.Cases.{IsAt, CloseCase}

-- a formula and its negation close a case
opposed_close : (i j : ℕ) (f g : Formula) (o p : Option Formula) → o ≡ Some f → p ≡ Some g → is_basic f ≡ true → neg f ≡ g → is_clash i j o p ≡ true
opposed_close i j f g o p at_f at_g basic negation =
    ap (λ x. is_clash i j x p) at_f ∙ ap (is_clash i j (Some f)) at_g
    ∙ or_left (is_opposed f g) (i == j && is_absurd f) (and_from (is_basic f) (same_formula (neg f) g) basic (same_formula_equal (neg f) g negation))

module _ (b : Forms) (ms : List Merge) (count : ℕ) where
  -- by known formulas alone
  pub closed_at_once : (Given : List ClassTree → List Formula → Type 0) (i j : ℕ) (lines : List Line) → lines ≡ Clash i j ∷ [] →
      ((cs : List ClassTree) (known : List Formula) → Given cs known → is_clash i j (slice_get known i) (slice_get known j) ≡ true) → CloseCase b ms count Given lines
  closed_at_once Given i j lines e h = record {
    closes = λ cs premises goal known are given. subst (λ ls. Closes cs premises goal known (lines_of b ls)) (sym e) (closes_clash cs premises goal known i j (h cs known given));
  }

  -- after lines that make a fact known
  pub closed_after : (Needs Given : List ClassTree → List Formula → Type 0) (fact : Formula) (lines : List Line) (place : ℕ) → MakeKnown b ms count Needs fact lines place →
      ((cs : List ClassTree) (known : List Formula) → Given cs known → Needs cs known) →
      (i j : ℕ) (ended : List Line) → ended ≡ lines ++ Clash i j ∷ [] →
      ((cs : List ClassTree) (known : List Formula) → length known ≡ count → Given cs known → is_clash i j (slice_get (known ++ facts_said (lines_of b lines)) i) (slice_get (known ++ facts_said (lines_of b lines)) j) ≡ true) →
      CloseCase b ms count Given ended
  closed_after Needs Given fact lines place made enough i j ended e h = record {
    closes = λ cs premises goal known are given.
        let after : List Formula = known ++ facts_said (lines_of b lines) in
        let all : lines_of b ended ≡ lines_of b lines ++ tree.Clash i j ∷ [] = ap (lines_of b) e ∙ map_push (line_of b) lines (Clash i j) in
        subst (Closes cs premises goal known) (sym all)
        ((made.leads cs premises goal known are (enough cs known given)).closes (tree.Clash i j ∷ []) (closes_clash cs premises goal after i j (h cs known are.many given)));
  }

  -- ---- two terms that are equal and differ

  left_sorted : (cs : List ClassTree) (s : Bool) (x y : Term) → is_well_formed cs [] (Literal s Equal (term_then x (term_then y no_terms))) ≡ true → is_well_sorted cs [] x ≡ true
  left_sorted cs s x y h =
      let p = and_parts (takes_sorts Equal (sorts_of cs [] (term_then x (term_then y no_terms)))) (are_well_sorted cs [] (term_then x (term_then y no_terms))) h in
      (and_parts (is_well_sorted cs [] x) (are_well_sorted cs [] (term_then y no_terms)) p.1).0

  module _ (x y : TermId) (fact : Fact) (is : formula_at b fact.formula ≡ Literal false Equal (term_then (term_at b x) (term_then (term_at b y) no_terms))) where
    pub differing_closes : (lines : List Line) (place : ℕ) → MakeKnown b ms count (λ cs fs. is_well_sorted cs [] (term_at b x) ≡ true) (equal (term_at b x) (term_at b y)) lines place →
        (ended : List Line) → ended ≡ lines ++ Clash place fact.place ∷ [] → CloseCase b ms count (λ cs fs. IsAt cs b fs fact) ended
    differing_closes lines place made ended e = closed_after (λ cs fs. is_well_sorted cs [] (term_at b x) ≡ true) (λ cs fs. IsAt cs b fs fact) (equal (term_at b x) (term_at b y)) lines place made
        (λ cs known given. left_sorted cs false (term_at b x) (term_at b y) (ap (is_well_formed cs []) (sym is) ∙ given.formed))
        place fact.place ended e
        (λ cs known many given. opposed_close place fact.place (equal (term_at b x) (term_at b y)) (formula_at b fact.formula)
        (slice_get (known ++ facts_said (lines_of b lines)) place) (slice_get (known ++ facts_said (lines_of b lines)) fact.place)
        (made.at known many) (at_front known (facts_said (lines_of b lines)) fact.place (formula_at b fact.formula) given.at) refl (sym is))

  -- ---- two values

  value_sorted : (cs : List ClassTree) (x : Term) → is_value x ≡ true → is_well_sorted cs [] x ≡ true
  value_sorted cs (App (Number n) no_terms) e = refl
  value_sorted cs (App (Fixed v) no_terms) e = refl
  value_sorted cs (App Null no_terms) e = refl
  value_sorted cs (App (ClassName t) no_terms) e = refl
  value_sorted cs x e = absurd (false≢true e)

  values_absurd : (x y : Term) → is_value x ≡ true → is_value y ≡ true → same_term x y ≡ false → is_absurd (equal x y) ≡ true
  values_absurd x y vx vy d = and_from (is_value x && is_value y) (not (same_term x y)) (and_from (is_value x) (is_value y) vx vy) (ap not d)

  pub values_close : AreApart b → (s t : TermId) → HasTerm b s → HasTerm b t → is_value (term_at b s) ≡ true → is_value (term_at b t) ≡ true → s.0 ≢ t.0 →
      (lines : List Line) (place : ℕ) → MakeKnown b ms count (λ cs fs. is_well_sorted cs [] (term_at b s) ≡ true) (equal (term_at b s) (term_at b t)) lines place →
      (ended : List Line) → ended ≡ lines ++ Clash place place ∷ [] → CloseCase b ms count (λ cs fs. Unit {0}) ended
  values_close apart s t hs ht vs vt differ lines place made ended e = closed_after (λ cs fs. is_well_sorted cs [] (term_at b s) ≡ true) (λ cs fs. Unit {0}) (equal (term_at b s) (term_at b t)) lines place made
      (λ cs known given. value_sorted cs (term_at b s) vs)
      place place ended e
      (λ cs known many given.
      let f : Formula = equal (term_at b s) (term_at b t) in
      ap (λ o. is_clash place place o o) (made.at known many)
      ∙ or_right (is_opposed f f) (place == place && is_absurd f)
      (and_from (place == place) (is_absurd f) (eq-eqb place place refl) (values_absurd (term_at b s) (term_at b t) vs vt (sym (apart.terms s t hs ht) ∙ ne_eqb s.0 t.0 differ))))

  -- ---- a literal and its negation

  module _ (left right : Fact) where
    abbrev pub BothAt : List ClassTree → List Formula → Type 0
    BothAt cs fs = IsAt cs b fs left × IsAt cs b fs right

    pub negations_close : is_basic (formula_at b left.formula) ≡ true → formula_at b left.formula ≡ neg (formula_at b right.formula) →
        (lines : List Line) → lines ≡ Clash left.place right.place ∷ [] → CloseCase b ms count BothAt lines
    negations_close basic negation lines e = closed_at_once BothAt left.place right.place lines e
        (λ cs known given. opposed_close left.place right.place (formula_at b left.formula) (formula_at b right.formula) (slice_get known left.place) (slice_get known right.place)
        given.0.at given.1.at basic (ap neg negation ∙ neg_neg (formula_at b right.formula)))

    module _ (sign : Bool) (predicate : Predicate) (xs ys : List TermId) (denied : FormulaId)
        (left_is : formula_at b left.formula ≡ Literal sign predicate (terms_from (terms_at b xs))) (denied_is : formula_at b denied ≡ Literal sign predicate (terms_from (terms_at b ys)))
        (negation : formula_at b denied ≡ neg (formula_at b right.formula)) where
      pub swapped_close : (lines : List Line) (place : ℕ) → MakeKnown b ms count (λ cs fs. IsLiteralAt cs b fs left.place xs denied ys) (formula_at b denied) lines place →
          (ended : List Line) → ended ≡ lines ++ Clash place right.place ∷ [] → CloseCase b ms count BothAt ended
      swapped_close lines place made ended e = closed_after (λ cs fs. IsLiteralAt cs b fs left.place xs denied ys) BothAt (formula_at b denied) lines place made
          (λ cs known given. record {
            sign = sign;
            predicate = predicate;
            at = given.0.at ∙ ap Some left_is;
            formed = ap (is_well_formed cs []) (sym left_is) ∙ given.0.formed;
            is = denied_is;
          })
          place right.place ended e
          (λ cs known many given. opposed_close place right.place (formula_at b denied) (formula_at b right.formula)
          (slice_get (known ++ facts_said (lines_of b lines)) place) (slice_get (known ++ facts_said (lines_of b lines)) right.place)
          (made.at known many) (at_front known (facts_said (lines_of b lines)) right.place (formula_at b right.formula) given.1.at)
          (ap is_basic denied_is) (ap neg negation ∙ neg_neg (formula_at b right.formula)))
