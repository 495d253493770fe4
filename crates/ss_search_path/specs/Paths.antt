-- How a case goes on by the lines of a path.
use Rattle.std.specs.Prelude.{◌≡◌, List, [], ◌∷◌, ◌++◌, length, take, drop, reverse, true, false, Some, Bool, if◌then◌else◌}
use Rattle.ss_core.specs.Tree.{ClassTree}
use Rattle.ss_logic.specs.Formulas.{Formula, is_well_formed}
use Rattle.ss_logic_means.specs.Steps as tree
use Rattle.ss_logic_means.specs.Steps.{is_cut, fact_of}
use Rattle.ss_terms.specs.declared.forms.FormulaId.{FormulaId}
use Rattle.ss_terms.specs.Forms.{Forms, formula_at, formulas_at, HasFormula}
use Rattle.ss_deriv.specs.declared.line.Line.{Line}
use Rattle.ss_deriv.specs.declared.line.Line.TheVariants.{Cut, Case}
use Rattle.ss_deriv.specs.Lines.{lines_of}
use Rattle.ss_search_clashes.specs.Closing.{cases_in_turn, CloseEach}
use Rattle.ss_search_clashes.specs.Leading.{Leads}
use Rattle.ss_search_path.specs.declared.path.Path.{Path}
use Rattle.ss_search_path.specs.declared.path.Mark.{Mark}

-- what is known at the end of the path
abbrev pub known_on : Forms → Path → List Formula
known_on b p = formulas_at b p.known.items

-- a case in which these are known at first goes on along the whole path
abbrev pub IsPath : List ClassTree → List Formula → Formula → Forms → List Formula → Path → Type 0
IsPath cs premises goal b start p = Leads cs premises goal start (lines_of b p.before.items) (known_on b p) (lines_of b (reverse p.behind.items))

-- it goes on from the end of the one path to the end of the other, which has more lines on both sides
pub record GoesOn (cs : List ClassTree) (premises : List Formula) (goal : Formula) (b : Forms) (old new : Path) : Type 0 where
  pub added : List Line
  pub ending : List Line
  pub before : new.before.items ≡ old.before.items ++ added
  pub behind : new.behind.items ≡ old.behind.items ++ ending
  pub leads : Leads cs premises goal (known_on b old) (lines_of b added) (known_on b new) (lines_of b (reverse ending))

-- the line makes the formula known, which is well formed
pub record Makes (cs : List ClassTree) (premises : List Formula) (goal : Formula) (known : List Formula) (line : tree.Line) (f : Formula) : Type 0 where
  pub fact : fact_of cs premises goal known line ≡ Some f
  pub formed : is_well_formed cs [] f ≡ true

-- the lines are a case for each of these formulas, which they close
pub record AreCases (cs : List ClassTree) (premises : List Formula) (goal : Formula) (known fs : List Formula) (lines : List tree.Line) : Type 0 where
  pub cases : List (List tree.Line)
  pub in_turn : lines ≡ cases_in_turn cases
  pub closed : CloseEach cs premises goal known fs cases

-- ---- marks

-- the mark is of this path
pub record IsMark (m : Mark) (p : Path) : Type 0 where
  pub before : m.before ≡ length p.before.items
  pub behind : m.behind ≡ length p.behind.items
  pub known : m.known ≡ length p.known.items

-- the path is taken back to the mark
pub record IsBack (m : Mark) (old new : Path) : Type 0 where
  pub before : new.before.items ≡ take m.before old.before.items
  pub behind : new.behind.items ≡ take m.behind old.behind.items
  pub known : new.known.items ≡ take m.known old.known.items

-- the lines, and what is known, are the same
pub record IsSame (p q : Path) : Type 0 where
  pub before : q.before.items ≡ p.before.items
  pub behind : q.behind.items ≡ p.behind.items
  pub known : q.known.items ≡ p.known.items

-- the numbers are these, and then that of a formula of the bank
pub record EndsWith (b : Forms) (front : List FormulaId) (f : Formula) (known : List FormulaId) : Type 0 where
  pub number : FormulaId
  pub in_bank : HasFormula b number
  pub is : formula_at b number ≡ f
  pub numbers : known ≡ front ++ number ∷ []

-- ---- trials

-- lines that open the case of a formula that may be cut
abbrev pub opening : Bool → FormulaId → List Line
opening cut f = if cut then Cut f ∷ Case ∷ [] else []

-- a case of the formula begins after these lines
pub record BeginsCase (front : List Line) (f : FormulaId) (at trial : Path) : Type 0 where
  pub before : trial.before.items ≡ at.before.items ++ front
  pub behind : trial.behind.items ≡ at.behind.items
  pub known : trial.known.items ≡ at.known.items ++ f ∷ []

-- the same, where the formula is supposed for a trial
abbrev pub IsSupposed : Forms → FormulaId → Path → Path → Type 0
IsSupposed b f at trial = BeginsCase (opening (is_cut (formula_at b f)) f) f at trial

-- a trial that began at this mark goes on, from where its case begins
pub record IsTrial (cs : List ClassTree) (premises : List Formula) (goal : Formula) (b : Forms) (m : Mark) (front : List Line) (f : FormulaId) (at trial now : Path) : Type 0 where
  pub mark : IsMark m at
  pub begun : BeginsCase front f at trial
  pub since : GoesOn cs premises goal b trial now
  pub kept : take (length at.known.items) now.known.items ≡ at.known.items

-- The closed case of the supposed formula stands in front of the case of its negation; or after it, where the negation is cut.
pub record IsTurned (b : Forms) (m : Mark) (f negation : FormulaId) (closing : List Line) (old new : Path) : Type 0 where
  pub front : is_cut (formula_at b f) ≡ true → (new.before.items ≡ ((old.before.items ++ closing) ++ reverse (drop m.behind old.behind.items)) ++ Case ∷ []) × (new.behind.items ≡ take m.behind old.behind.items)
  pub back : is_cut (formula_at b f) ≡ false → (new.before.items ≡ take m.before old.before.items ++ Cut negation ∷ Case ∷ []) × (new.behind.items ≡ ((old.behind.items ++ reverse closing) ++ reverse (drop m.before old.before.items)) ++ Case ∷ [])
