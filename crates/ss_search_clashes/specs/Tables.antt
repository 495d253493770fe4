-- Tables of what known formulas say.
use Rattle.std.specs.Prelude.{◌≡◌, ℕ, ◌<◌, List, Bool, false, Some, slice_get}
use Rattle.ss_terms.specs.declared.forms.FormulaId.{FormulaId}
use Rattle.ss_terms.specs.Forms.{Forms, formula_at, HasFormulas}
use Rattle.ss_search_procedure_rules.specs.Clashes.{Classing}
use Rattle.ss_search_clashes.specs.declared.signatures.Said.{Said}
use Rattle.ss_search_clashes.specs.Numbered.{class_of, differs, HasNoClash}
use Rattle.ss_search_clashes.specs.Says.{Key, Says, Sayings, said_of, IsSaid}

-- Of the first so many known formulas none says that two terms of one class differ. What they say stands in the table, each of it once, with the
-- place of one that says it.
pub record Tabulates (b : Forms) (class : Classing) (known : List FormulaId) (so_many : ℕ) (said : Sayings) : Type 0 where
  pub different : (i : ℕ) (f : FormulaId) → i < so_many → slice_get known i ≡ Some f → differs class (formula_at b f) ≡ false
  pub stands : (i : ℕ) (f : FormulaId) → i < so_many → slice_get known i ≡ Some f → (k : Key) (holds : Bool) → Says b class (formula_at b f) k holds → IsSaid said k holds
  pub right : (k : Key) (s : Said) → said_of said k ≡ Some s → (f : FormulaId) × (slice_get known s.place ≡ Some f) × Says b class (formula_at b f) k s.holds

-- the classes of the bank's terms, by their numbers, and what is said
pub record Table : Type 0 where
  pub classes : List ℕ
  pub said : Sayings

-- nothing contradicts the classes, and the table has what the known formulas say
pub record IsTable (b : Forms) (known : List FormulaId) (t : Table) : Type 0 where
  pub has : HasFormulas b known
  pub none : HasNoClash b (class_of b t.classes) known
  pub stands : (i : ℕ) (f : FormulaId) → slice_get known i ≡ Some f → (k : Key) (holds : Bool) → Says b (class_of b t.classes) (formula_at b f) k holds → IsSaid t.said k holds
  pub right : (k : Key) (s : Said) → said_of t.said k ≡ Some s → (f : FormulaId) × (slice_get known s.place ≡ Some f) × Says b (class_of b t.classes) (formula_at b f) k s.holds
