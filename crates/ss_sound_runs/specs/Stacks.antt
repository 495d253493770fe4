-- Stacks of frames that go on safely: the one that runs does so, and each other one from each return that it may get.
use Rattle.std.specs.Prelude.{◌≡◌, List, [], ◌∷◌, true, false}
use Rattle.ss_core.specs.Tree.{ExprTree, StmtTree, CodeTree, BodyTree, CoreTree}
use Rattle.ss_store_rules.specs.declared.Value.{Value}
use Rattle.ss_store_rules.specs.Store.{Object}
use Rattle.ss_store_rules.specs.Reads.{as_bool}
use Rattle.ss_store_rules.specs.Values.{value_of}
use Rattle.ss_store_rules.specs.Locals.{is_variable, is_kept_among}
use Rattle.ss_machine_rules.specs.Frame.{this_of}
use Rattle.ss_machine_rules.specs.States.{Due, Statement, Test, Target, ToCall, ToNew, Frame, State, Running, Done, Failed, Stopped, Next, Goes, Over, Fails, Stops}
use Rattle.ss_machine_rules.specs.Steps.{with_ready}
use Rattle.ss_machine_good.specs.Later.{IsLater}
use Rattle.ss_machine_good.specs.LaterFrames.{entry_size, kept_in}
use Rattle.ss_machine_good.specs.Stacks.{IsGoodStack}
use Rattle.ss_logic.specs.Values.{Table}
use Rattle.ss_sound_outcomes.specs.Points.{Activation, Point, scene, HasGrown, Fits, IsSound}
use Rattle.ss_sound_outcomes.specs.Outcomes.{Has, with_local, with_store, IsReturn, Safely, AllSafely}
use Rattle.ss_sound_runs.specs.Frames.{activation_of, point_of, AreLater}
use Rattle.ss_sound_runs.specs.Served.{HasArguments}

-- ---- what is left of a body

module _ (a : Activation) where
  -- from the test of a loop: after it comes its body and then the loop again, or what is left after the loop
  abbrev pub TestedSafely : ExprTree → CodeTree → StmtTree → Point → (Point → Type 0) → Type 0
  TestedSafely e body s p Q = Has (value_of e (scene a p)) (λ v. (as_bool v ≡ true → AllSafely a body p (λ q. Safely a s q Q)) × (as_bool v ≡ false → Q p))

  -- no check fails in what is left, and its end isn't reached
  abbrev pub LeftSafely : List Due → Point → Type 0
  LeftSafely [] p = ⊥
  LeftSafely (Statement s ∷ ds) p = Safely a s p (λ q. LeftSafely ds q)
  LeftSafely (Test e body s ∷ ds) p = TestedSafely e body s p (λ q. LeftSafely ds q)

-- ---- frames

-- The store has grown since the frame's entry, and its first locals are still its arguments.
pub record Stands (f : Frame) (arguments : List Value) (s : List Object) : Type 0 where
  pub grown : HasGrown f.entry s
  pub has : HasArguments f.body arguments f.locals

-- The frame goes on safely, whichever table fits the store.
abbrev pub GoesSafely : CoreTree → Frame → List Object → Type 0
GoesSafely c f s = (table : Table) → Fits c.classes table s → LeftSafely (activation_of c f table) f.left (point_of f s)

-- after a call, with its result; or after a `new`, with the object, which is ready from then on
abbrev pub after_return : Target → Value → Value → Point → Point
after_return (ToCall x) v this p = with_local x v p
after_return (ToNew x) v this p = with_local x this (with_store (with_ready p.store this) p)

-- The frame waits for the body b, which was entered with these arguments in this store. From each return that the contract of b allows it
-- goes on safely.
pub record WaitsSafely (c : CoreTree) (b : BodyTree) (into : Target) (entry : List Object) (arguments : List Value) (f : Frame) (s : List Object) : Type 0 where
  pub later : IsLater c.classes (entry_size f) entry s
  -- what gets the result is no argument
  pub target : is_kept_among (is_variable f.body) (kept_in into) ≡ true
  pub goes_on : (table : Table) (z : List Object) (v : Value) → Fits c.classes table z → IsReturn (activation_of c f table) b (ToCall (kept_in into)) arguments entry z v →
      IsSound (activation_of c f table) (after_return into v (this_of arguments) (point_of f z)) → LeftSafely (activation_of c f table) f.left (after_return into v (this_of arguments) (point_of f z))

-- each frame waits for the one above it
abbrev pub AllWaitSafely : CoreTree → BodyTree → Target → List Object → List Value → List Object → List Frame → Type 0
AllWaitSafely c b into entry arguments s [] = Unit {0}
AllWaitSafely c b into entry arguments s (f ∷ fs) = (own : List Value) × Stands f own s × WaitsSafely c b into entry arguments f s × AllWaitSafely c f.body f.into f.entry own s fs

-- The first frame goes on safely, and each other one waits for the one above it.
abbrev pub IsSafeStack : CoreTree → List Frame → List Object → Type 0
IsSafeStack c [] s = Unit {0}
IsSafeStack c (f ∷ fs) s = (arguments : List Value) × Stands f arguments s × GoesSafely c f s × AllWaitSafely c f.body f.into f.entry arguments s fs

-- ---- states and steps

-- no check has failed, and none will
abbrev pub HasSafeStack : CoreTree → State → Type 0
HasSafeStack c (Running fs s before) = IsSafeStack c fs s
HasSafeStack c (Done s before) = Unit {0}
HasSafeStack c (Failed k at before) = ⊥
HasSafeStack c (Stopped at s before) = Unit {0}

-- A step from the store s doesn't fail, and leads to a safe stack where that is a good one and the store is later for the frames fs.
abbrev pub StepsSafely : CoreTree → List Frame → List Object → Next → Type 0
StepsSafely c fs s (Goes gs z piece) = IsGoodStack c gs z → HasGrown s z → AreLater c.classes s z fs → IsSafeStack c gs z
StepsSafely c fs s (Over z) = Unit {0}
StepsSafely c fs s (Fails k at) = ⊥
StepsSafely c fs s (Stops at) = Unit {0}
