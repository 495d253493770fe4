-- What lines of equalities make known.
use Rattle.std.specs.Prelude.{◌≡◌, ◌⊎◌, ℕ, List, [], ◌++◌, length, map, Bool, true, Some, slice_get}
use Rattle.ss_core.specs.Tree.{ClassTree}
use Rattle.ss_logic.specs.Terms.{Bound, terms_from}
use Rattle.ss_logic.specs.Formulas.{Predicate, Formula, Literal, And, no_formulas, is_well_formed}
use Rattle.ss_logic.specs.Shapes.{equal}
use Rattle.ss_logic_means.specs.Steps as tree
use Rattle.ss_logic_means.specs.Steps.{Chain, Cong, Swap}
use Rattle.ss_terms.specs.declared.forms.TermId.{TermId}
use Rattle.ss_terms.specs.declared.forms.FormulaId.{FormulaId}
use Rattle.ss_terms.specs.Forms.{Forms, term_at, terms_at, formula_at}
use Rattle.ss_deriv.specs.declared.line.Line.{Line}
use Rattle.ss_deriv.specs.Lines.{lines_of}
use Rattle.ss_equality_rules.specs.declared.Merge.{Merge}
use Rattle.ss_equality_rules.specs.Equal.{Equations, IsEqual}
use Rattle.ss_search_clashes.specs.Leading.{Leads}

-- the formula that a line of equalities makes known
abbrev pub fact_said : tree.Line → Formula
fact_said (Chain x y is) = equal x y
fact_said (Cong x y is) = equal x y
fact_said (Swap i f js) = f
fact_said line = And no_formulas

abbrev pub facts_said : List tree.Line → List Formula
facts_said lines = map fact_said lines

-- the equality of the merge stands among the known formulas, at its reason
pub record IsKnown (cs : List ClassTree) (b : Forms) (known : List Formula) (m : Merge) : Type 0 where
  pub at : slice_get known m.because ≡ Some (equal (term_at b m.left) (term_at b m.right))
  pub formed : is_well_formed cs [] (equal (term_at b m.left) (term_at b m.right)) ≡ true

-- both sides are names that nothing binds
pub record AreNames (b : Forms) (m : Merge) : Type 0 where
  pub left : ℕ
  pub right : ℕ
  pub is_left : term_at b m.left ≡ Bound left
  pub is_right : term_at b m.right ≡ Bound right

-- so many formulas are known, and among them the equality of each merge that isn't of such names
pub record AreKnown (cs : List ClassTree) (b : Forms) (ms : List Merge) (count : ℕ) (known : List Formula) : Type 0 where
  pub many : length known ≡ count
  pub merges : (k : ℕ) (m : Merge) → slice_get ms k ≡ Some m → IsKnown cs b known m ⊎ AreNames b m

-- Where the equalities of the merges are known, and what is given besides, the lines make known what they say. The fact stands at this place then.
pub record MakeKnown (b : Forms) (ms : List Merge) (count : ℕ) (Given : List ClassTree → List Formula → Type 0) (fact : Formula) (lines : List Line) (place : ℕ) : Type 0 where
  pub leads : (cs : List ClassTree) (premises : List Formula) (goal : Formula) (known : List Formula) → AreKnown cs b ms count known → Given cs known →
      Leads cs premises goal known (lines_of b lines) (known ++ facts_said (lines_of b lines)) []
  pub at : (known : List Formula) → length known ≡ count → slice_get (known ++ facts_said (lines_of b lines)) place ≡ Some fact

-- ---- literals

-- the terms of two lists are equal, one by one
pub record AreEqual (c : Equations) (xs ys : List TermId) : Type 0 where
  pub long : length xs ≡ length ys
  pub equal : (i : ℕ) (x y : TermId) → slice_get xs i ≡ Some x → slice_get ys i ≡ Some y → IsEqual c.terms c.merges x.0 y.0

-- At this place a literal of the first terms is known, and well formed. The formula with this number is the same of the others.
pub record IsLiteralAt (cs : List ClassTree) (b : Forms) (known : List Formula) (place : ℕ) (xs : List TermId) (f : FormulaId) (ys : List TermId) : Type 0 where
  pub sign : Bool
  pub predicate : Predicate
  pub at : slice_get known place ≡ Some (Literal sign predicate (terms_from (terms_at b xs)))
  pub formed : is_well_formed cs [] (Literal sign predicate (terms_from (terms_at b xs))) ≡ true
  pub is : formula_at b f ≡ Literal sign predicate (terms_from (terms_at b ys))
