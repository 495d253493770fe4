-- The lines that are written, and the places of the equalities that they make known.
use Rattle.std.specs.Prelude.{◌≡◌, ℕ, ◌+◌, List, [], ◌∷◌, ◌++◌, length, map, Bool, true, Option, Some, slice_get, slice_index, if◌then◌else◌}
use Rattle.ss_core.specs.Tree.{ClassTree}
use Rattle.ss_logic.specs.Terms.{is_well_sorted}
use Rattle.ss_logic.specs.Formulas.{Formula}
use Rattle.ss_logic.specs.Equal.{same_term}
use Rattle.ss_logic_means.specs.Steps as tree
use Rattle.ss_logic_means.specs.Steps.{Chain, Cong, is_joined}
use Rattle.ss_terms.specs.declared.forms.TermId.{TermId}
use Rattle.ss_terms.specs.Forms.{Forms, TermShape, term_at}
use Rattle.ss_terms.specs.Bank.{number}
use Rattle.ss_deriv.specs.declared.line.Line.{Line}
use Rattle.ss_deriv.specs.Lines.{lines_of}
use Rattle.ss_equality_rules.specs.declared.Merge.{Merge}
use Rattle.ss_equality_rules.specs.declared.Join.{Join}
use Rattle.ss_equality_rules.specs.Whole.{numbers}
use Rattle.ss_search_clashes.specs.Leading.{Leads}
use Rattle.ss_search_clashes.specs.Ways.{way, each_pair, AreEnds}
use Rattle.ss_search_clashes.specs.Needed.{IsCongruence, AreNeeded}
use Rattle.ss_search_clashes.specs.Said.{facts_said, AreKnown}

-- the places of the equalities of these joins
abbrev pub places_of : List ℕ → List ℕ → List ℕ
places_of places js = map (λ j. slice_index places j) js

-- the line on two terms that differ; none on one term
abbrev pub chain_between : Forms → List Join → List ℕ → TermId → TermId → List tree.Line
chain_between b es places x y = if same_term (term_at b x) (term_at b y) then [] else Chain (term_at b x) (term_at b y) (places_of places (way es x.0 y.0)) ∷ []

abbrev pub chains : Forms → List Join → List ℕ → List TermId → List TermId → List tree.Line
chains b es places xs ys = each_pair (chain_between b es places) xs ys

-- these lines are added, and the places of what they make known, one after the other
pub record AddsChains (b : Forms) (added : List tree.Line) (known : ℕ) (old new : List Line) (before after : List ℕ) : Type 0 where
  pub lines : lines_of b new ≡ lines_of b old ++ added
  pub places : after ≡ before ++ numbers (known + length old) (length added)

-- How the equality of a join becomes known. It is that of a merge, or lines on the arguments that differ come first, and then one on the terms.
pub record IsPlaced (b : Forms) (fs : List TermShape) (ms : List Merge) (es : List Join) (places : List ℕ) (known : ℕ) (e : Join) (old new : List Line) (place : ℕ) : Type 0 where
  pub by_merge : (k : ℕ) (m : Merge) → e.why ≡ Some k → slice_get ms k ≡ Some m → (lines_of b new ≡ lines_of b old) × (place ≡ m.because)
  pub by_arguments : (xs ys : List TermId) → IsCongruence fs e xs ys →
      (lines_of b new ≡ (lines_of b old ++ chains b es places xs ys) ++ Cong (term_at b (number e.left)) (term_at b (number e.right)) (numbers (known + length old) (length (chains b es places xs ys))) ∷ [])
      × (place ≡ known + (length old + length (chains b es places xs ys)))

-- in this program each marked join is of well sorted terms
pub record AreSorted (cs : List ClassTree) (b : Forms) (es : List Join) (marks : List Bool) : Type 0 where
  pub left : (j : ℕ) (e : Join) → slice_get es j ≡ Some e → slice_get marks j ≡ Some true → is_well_sorted cs [] (term_at b (number e.left)) ≡ true

-- the lines lead on, and the equality of each marked join that has a place is known there
pub record ArePlaced (b : Forms) (ms : List Merge) (es : List Join) (count : ℕ) (marks : List Bool) (places : List ℕ) (lines : List Line) : Type 0 where
  pub leads : (cs : List ClassTree) (premises : List Formula) (goal : Formula) (known : List Formula) → AreKnown cs b ms count known → AreSorted cs b es marks →
      Leads cs premises goal known (lines_of b lines) (known ++ facts_said (lines_of b lines)) []
  pub placed : (cs : List ClassTree) (known : List Formula) → AreKnown cs b ms count known → AreSorted cs b es marks → (j place : ℕ) (e : Join) → slice_get es j ≡ Some e → slice_get marks j ≡ Some true → slice_get places j ≡ Some place →
      is_joined (term_at b (number e.left)) (term_at b (number e.right)) (slice_get (known ++ facts_said (lines_of b lines)) place) ≡ true

-- what is ready for lines on these terms: some marked joins suffice for the ways between them, and each has its place
pub record IsReady (b : Forms) (fs : List TermShape) (ms : List Merge) (es : List Join) (xs ys : List TermId) (count : ℕ) (ends : List (Option ℕ)) (places : List ℕ) (lines : List Line) : Type 0 where
  pub marks : List Bool
  pub ends_are : AreEnds es ends
  pub needed : AreNeeded fs es xs ys 0 marks
  pub long : length places ≡ length es
  pub placed : ArePlaced b ms es count marks places lines
