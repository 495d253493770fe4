-- The form of a statement's law: from a position at which the run is, with valid obligations, the run goes on safely.
use Rattle.std.specs.Prelude.{◌≡◌, ℕ, List, Bool, true, Option, Some, slice_get}
use Rattle.ss_core.specs.Tree.{StmtTree}
use Rattle.ss_store_rules.specs.declared.Value.{Value}
use Rattle.ss_store_rules.specs.Store.{Object}
use Rattle.ss_store_rules.specs.Locals.{is_argument, is_variable, each_inside, targets_only}
use Rattle.ss_store_rules.specs.Typed.{is_typed, has_exposable}
use Rattle.ss_store_rules.specs.Paths as paths
use Rattle.ss_store_rules.specs.Paths.{holds_at}
use Rattle.ss_store_rules.specs.Assigned.{assigned_flow, assigned_check}
use Rattle.ss_store_rules.specs.NonNull.{Known, known_flow, null_check}
use Rattle.ss_store_rules.specs.Formed.{IsFormedBody, IsFormed}
use Rattle.ss_machine_good.specs.Checks.{fields_check}
use Rattle.ss_logic.specs.Values.{Table, Structure}
use Rattle.ss_vcgen_heaps.specs.Positions.{Position, Walk}
use Rattle.ss_vcgen_heaps.specs.Obligations.{behind, AreValid}
use Rattle.ss_sound_outcomes.specs.Points.{Point, ArePassed}
use Rattle.ss_sound_outcomes.specs.Outcomes.{Safely}
use Rattle.ss_vcgen_safe.specs.At.{IsAlike, activation, IsAt}

-- What a formed body says of a statement, where it is reached with these locals assigned and this known of null.
pub record IsCoded (w : Walk) (xs : ℕ → Bool) (known : Known) (s : StmtTree) : Type 0 where
  pub typed : each_inside (is_typed w.program w.body) s ≡ true
  pub exposed : each_inside (has_exposable w.program.classes w.body) s ≡ true
  pub targets : each_inside (targets_only (is_variable w.body)) s ≡ true
  pub assigned : holds_at assigned_flow (assigned_check w.body) s xs ≡ true
  pub nulls : holds_at (known_flow w.program w.body) (null_check w.program w.body) s known ≡ true
  pub fields : holds_at (known_flow w.program w.body) (fields_check w.program w.body) s known ≡ true

-- A formed body was entered from the store before, with these arguments.
pub record IsEntered (w : Walk) (before : List Object) (arguments : List Value) : Type 0 where
  pub program : IsFormed w.program
  pub body : IsFormedBody w.program w.body
  pub passed : ArePassed w.program w.body before arguments

-- The run is at the position, and has the arguments still.
pub record IsHere (w : Walk) (before : List Object) (table : Table) (arguments : List Value) (xs : ℕ → Bool) (m : Structure) (k : Position) (p : Point) : Type 0 where
  pub at : IsAt w before table xs m k p
  pub assigned : (x : ℕ) → is_argument w.body x ≡ true → xs x ≡ true
  pub same : (x : ℕ) → is_argument w.body x ≡ true → slice_get p.locals x ≡ slice_get arguments x

module _ (w : Walk) (before : List Object) (table : Table) (arguments : List Value) where
  -- `Q` holds of each point at which the run is at the position k', where k is the position before it.
  abbrev pub EndsIn : Option (ℕ → Bool) → Structure → Position → Position → (Point → Type 0) → Type 0
  EndsIn o m k k' Q = (ys : ℕ → Bool) (m' : Structure) (q : Point) → o ≡ Some ys → IsAlike k.next m m' → IsHere w before table arguments ys m' k' q → Q q

  -- From each position at which the run is, the statement goes on safely where its obligations are valid.
  abbrev pub Goes : StmtTree → (Point → Type 0) → Type 0
  Goes s Q =
      (xs : ℕ → Bool) (m : Structure) (k : Position) (p : Point) → IsCoded w xs k.known s → IsHere w before table arguments xs m k p → AreValid w.program.classes (behind w s k).listed →
      EndsIn (paths.behind assigned_flow s xs) m k (behind w s k) Q → Safely (activation w before table) s p Q
