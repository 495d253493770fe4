-- The lines that make an equality known, and those that make a literal known.
use Rattle.std.proofs.Common.{◌≡◌, ℕ, zero, suc, ◌+◌, List, [], ◌∷◌, ◌++◌, length, true, Option, Some, refl, sym, ◌∙◌, ap, subst, ⊎_elim, arith}
use Rattle.std.specs.Prelude.{slice_get}
use Rattle.ss_core.specs.Tree.{ClassTree}
use Rattle.ss_logic.specs.Terms.{terms_from, is_well_sorted}
use Rattle.ss_logic.specs.Formulas.{Formula, Literal, is_well_formed}
use Rattle.ss_logic.specs.Shapes.{equal}
use Rattle.ss_logic_means.specs.Steps as tree
use Rattle.ss_logic_means.specs.Steps.{Chain, Swap, is_swapped}
use Rattle.ss_terms.specs.declared.forms.TermId.{TermId}
use Rattle.ss_terms.specs.declared.forms.FormulaId.{FormulaId}
use Rattle.ss_terms.specs.Forms.{Forms, TermShape, term_at, terms_at, formula_at}
use Rattle.ss_terms.specs.Bank.{number}
use Rattle.ss_terms.specs.Apart.{AreApart}
use Rattle.ss_deriv.specs.declared.line.Line.{Line}
use Rattle.ss_deriv.specs.Lines.{lines_of}
use Rattle.ss_equality_rules.specs.declared.Merge.{Merge}
use Rattle.ss_equality_rules.specs.declared.Join.{Join}
use Rattle.ss_equality_rules.specs.Equal.{Equations, IsEqual, AreFormsOf}
use Rattle.ss_equality_rules.specs.Names.{Has, name, IsLog}
use Rattle.ss_equality_rules.specs.Whole.{AreCaused, numbers}
use Rattle.ss_equality_rules.proofs.Lists.{has_pushed, has_none}
use Rattle.ss_search_clashes.proofs.Leading.{at_front}
use Rattle.ss_search_clashes.specs.Ways.{way, ArePaired}
use Rattle.ss_search_clashes.specs.Said.{facts_said, AreKnown, MakeKnown, AreEqual, IsLiteralAt}
use Rattle.ss_search_clashes.specs.Placed.{places_of, chains, AddsChains, AreSorted, IsReady}
use Rattle.ss_search_clashes.proofs.Lists.{nothing_after, has_pair}
use Rattle.ss_search_clashes.proofs.Marks.{ways_inside}
use Rattle.ss_search_clashes.proofs.Sorts.{handed_down, merges_alike, alike_named, literal_argument, literal_formed}
use Rattle.ss_search_clashes.proofs.Lines.{at_behind, behind_first, CanChain, chain_leads, chains_lead, one_more, swap_fact, swapped_lists, Lead, AreFrom, chains_exchange}
use Rattle.ss_search_clashes.proofs.Places.{can_chain, known_long, fact_at_last, longer}

pub one_pair : (es : List Join) (x y : TermId) → name es x.0 ≡ name es y.0 → ArePaired es (x ∷ []) (y ∷ [])
one_pair es x y same = record {
  long = refl;
  same = λ i a c p q. by i a c p q;
}
  where
    by : (i : ℕ) (a c : TermId) → slice_get (x ∷ []) i ≡ Some a → slice_get (y ∷ []) i ≡ Some c → name es a.0 ≡ name es c.0
    by zero a c p q = let one : x ≡ a = cc in let two : y ≡ c = cc in ap (λ (t : TermId). name es t.0) (sym one) ∙ same ∙ ap (λ (t : TermId). name es t.0) two
    by (suc i) a c p q = cc

pub all_pairs : (s : Equations) (es : List Join) (xs ys : List TermId) → ((x y : ℕ) → IsEqual s.terms s.merges x y → name es x ≡ name es y) → AreEqual s xs ys → ArePaired es xs ys
all_pairs s es xs ys named are = record { long = are.long; same = λ i x y p q. named x.0 y.0 (are.equal i x y p q) }

module _ (b : Forms) (apart : AreApart b) (fs : List TermShape) (forms : AreFormsOf b fs) (ms : List Merge) (terms : ℕ) (es : List Join) (log : IsLog terms es) (caused : AreCaused fs ms es) (count : ℕ)
    (xs ys : List TermId) (paired : ArePaired es xs ys) (ends : List (Option ℕ)) (places : List ℕ) (old : List Line) (ready : IsReady b fs ms es xs ys count ends places old) where
  module _ (cs : List ClassTree) (known : List Formula) (are : AreKnown cs b ms count known) (all_sorted : (x : TermId) → Has xs x → is_well_sorted cs [] (term_at b x) ≡ true) where
    sorted_marks : AreSorted cs b es ready.marks
    sorted_marks = record {
      left = ready.needed.passing (λ t. is_well_sorted cs [] (term_at b (number t))) (handed_down cs b fs ms forms (merges_alike cs b ms count known are) terms es log caused) all_sorted;
    }

    pub all_chain : (i : ℕ) (x y : TermId) → slice_get xs i ≡ Some x → slice_get ys i ≡ Some y → CanChain cs b es places (known ++ facts_said (lines_of b old)) x y
    all_chain i x y p q = can_chain b apart fs forms ms terms es log caused count ready.marks cs known are sorted_marks places old ready.placed x y (paired.same i x y p q)
        (λ j h. let there = has_pair (λ u v. way es u.0 v.0) i xs ys x y j p q h in (
          ready.needed.ways j there,
          (let inside = ways_inside terms es log xs ys paired j there in omega (arith, inside, ready.long)),
        ))
        (all_sorted x (record { at = i; is = p }))

    pub ready_leads : (premises : List Formula) (goal : Formula) → Lead cs premises goal known (lines_of b old)
    ready_leads premises goal = ready.placed.leads cs premises goal known are sorted_marks

  -- ---- a literal

  module _ (f : FormulaId) (of : ℕ) (mid new : List Line) (equalities : List ℕ) (place : ℕ) (added : AddsChains b (chains b es places xs ys) count old mid [] equalities)
      (lines_are : lines_of b new ≡ lines_of b mid ++ Swap of (formula_at b f) equalities ∷ []) (place_is : place ≡ count + length mid) where
    abbrev Literals : List ClassTree → List Formula → Type 0
    Literals cs known = IsLiteralAt cs b known of xs f ys

    all_lines : lines_of b new ≡ (lines_of b old ++ chains b es places xs ys) ++ Swap of (formula_at b f) equalities ∷ []
    all_lines = lines_are ∙ ap (λ ls. ls ++ Swap of (formula_at b f) equalities ∷ []) added.lines

    module _ (cs : List ClassTree) (premises : List Formula) (goal : Formula) (known : List Formula) (are : AreKnown cs b ms count known) (given : IsLiteralAt cs b known of xs f ys) where
      abbrev Front : List tree.Line
      Front = lines_of b old ++ chains b es places xs ys

      all_sorted : (x : TermId) → Has xs x → is_well_sorted cs [] (term_at b x) ≡ true
      all_sorted x h = literal_argument cs b given.sign given.predicate xs given.formed x h

      front_leads : Lead cs premises goal known Front
      front_leads = chains_lead cs premises goal known b es places (lines_of b old) xs ys (ready_leads cs known are all_sorted premises goal) (all_chain cs known are all_sorted)

      facts_there : AreFrom (known ++ facts_said Front) (count + length old) (chains b es places xs ys)
      facts_there i g at_g =
          ap (λ gs. slice_get gs (count + length old + i)) (behind_first known (lines_of b old) (chains b es places xs ys))
          ∙ ap (λ n. slice_get ((known ++ facts_said (lines_of b old)) ++ facts_said (chains b es places xs ys)) (n + i)) (sym (known_long b known old ∙ ap (λ n. n + length old) are.many))
          ∙ at_behind (known ++ facts_said (lines_of b old)) (facts_said (chains b es places xs ys)) i ∙ at_g

      swapped : is_swapped (known ++ facts_said Front) equalities (Literal given.sign given.predicate (terms_from (terms_at b xs))) (formula_at b f) ≡ true
      swapped =
          ap (λ js. is_swapped (known ++ facts_said Front) js (Literal given.sign given.predicate (terms_from (terms_at b xs))) (formula_at b f)) added.places
          ∙ ap (is_swapped (known ++ facts_said Front) (numbers (count + length old) (length (chains b es places xs ys))) (Literal given.sign given.predicate (terms_from (terms_at b xs)))) given.is
          ∙ swapped_lists (known ++ facts_said Front) (numbers (count + length old) (length (chains b es places xs ys))) given.sign given.predicate (terms_at b xs) (terms_at b ys)
          (chains_exchange b es places (known ++ facts_said Front) (count + length old) xs ys paired.long facts_there)

      still_formed : is_well_formed cs [] (formula_at b f) ≡ true
      still_formed =
          ap (is_well_formed cs []) given.is
          ∙ literal_formed cs b given.sign given.predicate xs ys paired.long
          (λ i x y p q. alike_named cs b fs ms forms (merges_alike cs b ms count known are) terms es log caused x.0 y.0 (paired.same i x y p q))
          given.formed

      literal_leads : Lead cs premises goal known (lines_of b new)
      literal_leads = subst (Lead cs premises goal known) (sym all_lines)
          (one_more cs premises goal known Front (Swap of (formula_at b f) equalities) front_leads
          (swap_fact cs premises goal (known ++ facts_said Front) of (Literal given.sign given.predicate (terms_from (terms_at b xs))) (formula_at b f) equalities
          (at_front known (facts_said Front) of (Literal given.sign given.predicate (terms_from (terms_at b xs))) given.at) swapped)
          still_formed)

    pub makes_literal : MakeKnown b ms count Literals (formula_at b f) new place
    makes_literal = record {
      leads = literal_leads;
      at = λ known many. fact_at_last b known old new (chains b es places xs ys) (Swap of (formula_at b f) equalities) place all_lines
          (place_is ∙ ap (λ n. count + n) (longer b old mid (chains b es places xs ys) added.lines) ∙ ap (λ n. n + (length old + length (chains b es places xs ys))) (sym many));
    }

-- ---- an equality

module _ (b : Forms) (apart : AreApart b) (fs : List TermShape) (forms : AreFormsOf b fs) (ms : List Merge) (terms : ℕ) (es : List Join) (log : IsLog terms es) (caused : AreCaused fs ms es) (count : ℕ)
    (x y : TermId) (same : name es x.0 ≡ name es y.0) (ends : List (Option ℕ)) (places : List ℕ) (old : List Line) (ready : IsReady b fs ms es (x ∷ []) (y ∷ []) count ends places old) where
  pub paired_one : ArePaired es (x ∷ []) (y ∷ [])
  paired_one = one_pair es x y same

  module _ (new : List Line) (place : ℕ) (lines_are : lines_of b new ≡ lines_of b old ++ Chain (term_at b x) (term_at b y) (places_of places (way es x.0 y.0)) ∷ []) (place_is : place ≡ count + length old) where
    abbrev Sorted : List ClassTree → List Formula → Type 0
    Sorted cs known = is_well_sorted cs [] (term_at b x) ≡ true

    equality_leads : (cs : List ClassTree) (premises : List Formula) (goal : Formula) (known : List Formula) → AreKnown cs b ms count known → is_well_sorted cs [] (term_at b x) ≡ true → Lead cs premises goal known (lines_of b new)
    equality_leads cs premises goal known are sorted =
        let all = only cs sorted in
        subst (Lead cs premises goal known) (sym lines_are)
        (chain_leads cs premises goal known b es places (lines_of b old) x y
        (ready_leads b apart fs forms ms terms es log caused count (x ∷ []) (y ∷ []) paired_one ends places old ready cs known are all premises goal)
        (all_chain b apart fs forms ms terms es log caused count (x ∷ []) (y ∷ []) paired_one ends places old ready cs known are all 0 x y refl refl))
      where
        only : (cs : List ClassTree) → is_well_sorted cs [] (term_at b x) ≡ true → (z : TermId) → Has (x ∷ []) z → is_well_sorted cs [] (term_at b z) ≡ true
        only cs sorted z h = ⊎_elim (λ none. absurd (has_none z none)) (λ is. subst (λ t. is_well_sorted cs [] (term_at b t) ≡ true) is sorted) (has_pushed [] x z h)

    pub makes_equality : MakeKnown b ms count Sorted (equal (term_at b x) (term_at b y)) new place
    makes_equality = record {
      leads = equality_leads;
      at = λ known many. fact_at_last b known old new [] (Chain (term_at b x) (term_at b y) (places_of places (way es x.0 y.0))) place
          (lines_are ∙ ap (λ ls. ls ++ Chain (term_at b x) (term_at b y) (places_of places (way es x.0 y.0)) ∷ []) (sym (nothing_after (lines_of b old))))
          (place_is ∙ (let z : count + length old ≡ count + (length old + length {A = tree.Line} []) = omega arith in z) ∙ ap (λ n. n + (length old + length {A = tree.Line} [])) (sym many));
    }
