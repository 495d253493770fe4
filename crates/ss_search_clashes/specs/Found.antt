-- What is found of known formulas: a contradiction, or a table.
use Rattle.std.specs.Prelude.{◌≡◌, ◌⊎◌, ℕ, List, Bool, true, Option, Some, None, slice_get}
use Rattle.ss_logic.specs.Terms.{Term, term_then, no_terms}
use Rattle.ss_logic.specs.Formulas.{Equal, Formula, Literal}
use Rattle.ss_terms.specs.declared.forms.FormulaId.{FormulaId}
use Rattle.ss_terms.specs.Forms.{Forms, term_at, formula_at, HasTerm}
use Rattle.ss_search_procedure_rules.specs.Clashes.{Classing}
use Rattle.ss_search_clashes.specs.declared.clashes.Clash.{Clash}
use Rattle.ss_search_clashes.specs.declared.clashes.Clash.TheVariants as clash
use Rattle.ss_search_clashes.specs.declared.known.Against.{Against}
use Rattle.ss_search_clashes.specs.declared.known.Against.TheVariants as against
use Rattle.ss_search_clashes.specs.declared.clashes.Found.{Found}
use Rattle.ss_search_clashes.specs.declared.clashes.Found.TheVariants as found
use Rattle.ss_search_clashes.specs.declared.equalities.Equality.{Equality}
use Rattle.ss_search_clashes.specs.Numbered.{class_of, differs, is_opposed}
use Rattle.ss_search_clashes.specs.Values.{AreOneClass}
use Rattle.ss_search_clashes.specs.Tables.{IsTable}

-- ---- the sides of an equality

-- whether the equality holds, and its sides; none where it is none
abbrev pub sides_of : Formula → Option (Bool × Term × Term)
sides_of (Literal holds Equal (term_then x (term_then y no_terms))) = Some (holds, x, y)
sides_of f = None

-- by their numbers
abbrev pub AreSides : Forms → Option (Bool × Term × Term) → Option Equality → Type 0
AreSides b None r = r ≡ None
AreSides b (Some e) r = (s : Equality) × (r ≡ Some s) × HasTerm b s.left × HasTerm b s.right × (s.holds ≡ e.0) × (term_at b s.left ≡ e.1) × (term_at b s.right ≡ e.2)

-- ---- contradictions

-- the contradiction is one, of the known formulas at these places
abbrev pub IsClash : Forms → Classing → List FormulaId → Clash → Type 0
IsClash b class known (clash.Differs i) = (f : FormulaId) × (slice_get known i ≡ Some f) × (differs class (formula_at b f) ≡ true)
IsClash b class known (clash.Opposed i j) = (f : FormulaId) × (g : FormulaId) × (slice_get known i ≡ Some f) × (slice_get known j ≡ Some g) × (is_opposed class (formula_at b f) (formula_at b g) ≡ true)
IsClash b class known (clash.Values s t) = AreOneClass b class s t

-- one more formula doesn't fit for this reason
abbrev pub IsAgainst : Forms → Classing → List FormulaId → FormulaId → Against → Type 0
IsAgainst b class known f against.Classes = differs class (formula_at b f) ≡ true
IsAgainst b class known f (against.Known i) = (g : FormulaId) × (slice_get known i ≡ Some g) ×
    ((is_opposed class (formula_at b f) (formula_at b g) ≡ true) ⊎ (is_opposed class (formula_at b g) (formula_at b f) ≡ true))

-- a table, or a contradiction
abbrev pub IsFound : Forms → List ℕ → List FormulaId → Found → Type 0
IsFound b classes known (found.Fits table) = (table.classes ≡ classes) × IsTable b known table
IsFound b classes known (found.Clashes c) = IsClash b (class_of b classes) known c
