-- Code of a formed body whose obligations are valid, from a position at which the run is.
use Rattle.std.specs.Prelude.{◌≡◌, ℕ, List, [], Bool, true, false, Option, Some, Ok}
use Rattle.ss_core.specs.declared.names.Place.{Place}
use Rattle.ss_core.specs.Tree.{ExprTree, ExposedTree, StmtTree, LoopStmt, ReturnStmt, CodeTree}
use Rattle.ss_store_rules.specs.declared.Value.TheVariants as value
use Rattle.ss_store_rules.specs.declared.Value.{Value}
use Rattle.ss_store_rules.specs.Store.{Object}
use Rattle.ss_store_rules.specs.Values.{value_of}
use Rattle.ss_store_rules.specs.Locals.{is_variable, each, targets_only}
use Rattle.ss_store_rules.specs.Types.{is_condition, in_code}
use Rattle.ss_store_rules.specs.Typed.{is_typed, has_exposable}
use Rattle.ss_store_rules.specs.Paths.{at_end, holds_along}
use Rattle.ss_store_rules.specs.Assigned.{assigned_flow, assigned_check, reads_assigned}
use Rattle.ss_store_rules.specs.NonNull.{Known, known_flow, known_tested, null_check}
use Rattle.ss_machine_good.specs.Known.{IsTrueOf}
use Rattle.ss_machine_good.specs.Flows.{is_simple}
use Rattle.ss_machine_good.specs.Checks.{fields_check}
use Rattle.ss_logic.specs.Values.{Table, Structure}
use Rattle.ss_logic.specs.Formulas.{True, neg}
use Rattle.ss_logic.specs.Express.{said}
use Rattle.ss_vcgen_heaps.specs.Positions.{Position, Walk, meant_at, evaluate}
use Rattle.ss_vcgen_heaps.specs.Obligations.{behind_all, AreValid}
use Rattle.ss_sound_outcomes.specs.Points.{Point, scene}
use Rattle.ss_sound_outcomes.specs.Outcomes.{AllSafely}
use Rattle.ss_vcgen_safe.specs.At.{Stays, activation, IsAt}
use Rattle.ss_vcgen_safe.specs.Goes.{IsHere, EndsIn, Goes}

-- What a formed body says of code, where it is reached with these locals assigned and this known of null.
pub record AreCoded (w : Walk) (xs : ℕ → Bool) (known : Known) (code : CodeTree) : Type 0 where
  pub typed : each (is_typed w.program w.body) code ≡ true
  pub exposed : each (has_exposable w.program.classes w.body) code ≡ true
  pub targets : each (targets_only (is_variable w.body)) code ≡ true
  pub assigned : holds_along assigned_flow (assigned_check w.body) code (Some xs) ≡ true
  pub nulls : holds_along (known_flow w.program w.body) (null_check w.program w.body) code (Some known) ≡ true
  pub fields : holds_along (known_flow w.program w.body) (fields_check w.program w.body) code (Some known) ≡ true

-- A test has a truth value, its formula is true exactly where that is, and what it says of null is so.
pub record IsTested (w : Walk) (before : List Object) (table : Table) (xs : ℕ → Bool) (m : Structure) (k : Position) (p : Point) (e : ExprTree) : Type 0 where
  pub v : Bool
  pub is : value_of e (scene (activation w before table) p) ≡ Ok (value.Bool v)
  pub at : IsAt w before table xs m (evaluate w e k) p
  pub true_so : v ≡ true → Stays (evaluate w e k).next m (λ m'. True w.program.classes m' [] (said (meant_at w e k)))
  pub false_so : v ≡ false → Stays (evaluate w e k).next m (λ m'. True w.program.classes m' [] (neg (said (meant_at w e k))))
  pub known : IsTrueOf w.body.flags.ctor (known_tested e v k.known) (scene (activation w before table) p)

-- where its parts are valid
abbrev pub TestsGo : Walk → List Object → Table → Type 0
TestsGo w before table =
    (xs : ℕ → Bool) (m : Structure) (k : Position) (p : Point) (e : ExprTree) → is_condition w.program.classes w.body in_code e ≡ true → reads_assigned w.body xs e ≡ true → IsAt w before table xs m k p →
    AreValid w.program.classes (evaluate w e k).listed → IsTested w before table xs m k p e

module _ (w : Walk) (before : List Object) (table : Table) (arguments : List Value) where
  -- From each position at which the run is, the code goes on safely where its obligations are valid.
  abbrev pub AllGoes : CodeTree → (Point → Type 0) → Type 0
  AllGoes code Q =
      (xs : ℕ → Bool) (m : Structure) (k : Position) (p : Point) → AreCoded w xs k.known code → IsHere w before table arguments xs m k p → AreValid w.program.classes (behind_all w code k).listed →
      EndsIn w before table arguments (at_end assigned_flow code (Some xs)) m k (behind_all w code k) Q → AllSafely (activation w before table) code p Q

  -- each statement that is no `if` and no loop does
  abbrev pub SimpleGo : Type 1
  SimpleGo = (s : StmtTree) → is_simple s ≡ true → (Q : Point → Type 0) → Goes w before table arguments s Q

  abbrev pub ReturnGoes : Type 1
  ReturnGoes = (at : Place) (e : Option ExprTree) (Q : Point → Type 0) → Goes w before table arguments (ReturnStmt at e) Q

  -- a loop does where its prelude and its body do
  abbrev pub LoopsGo : Type 1
  LoopsGo =
      (at : Place) (asked : List ExprTree) (prelude : CodeTree) (e : ExprTree) (body : CodeTree) (exposes : List ExposedTree) → ((Q : Point → Type 0) → AllGoes prelude Q) → ((Q : Point → Type 0) → AllGoes body Q) → (Q : Point → Type 0) →
      Goes w before table arguments (LoopStmt at asked prelude e body exposes) Q
