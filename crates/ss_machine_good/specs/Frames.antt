-- What holds of a frame between two steps.
use Rattle.std.specs.Prelude.{◌≡◌, List, [], ◌∷◌, Bool, true, ◌&&◌}
use Rattle.ss_core.specs.Tree.{ExprTree, StmtTree, CoreTree}
use Rattle.ss_core.specs.Chain.{IsChain, NoAlso}
use Rattle.ss_store_rules.specs.Store.{Object}
use Rattle.ss_store_rules.specs.Locals.{is_variable, each, each_inside, targets_only}
use Rattle.ss_store_rules.specs.Types.{in_code, is_condition}
use Rattle.ss_store_rules.specs.Typed.{is_typed}
use Rattle.ss_store_rules.specs.States.{AreGoodLocals}
use Rattle.ss_store_rules.specs.Assigned.{assigned_flow, assigned_check}
use Rattle.ss_store_rules.specs.NonNull.{known_flow, null_check}
use Rattle.ss_store_rules.specs.Formed.{has_flags}
use Rattle.ss_machine_rules.specs.States.{Due, Statement, Test, Frame, scene}
use Rattle.ss_machine_rules.specs.Good.{IsGoodStore}
use Rattle.ss_machine_typed.specs.Older.{IsOlder}
use Rattle.ss_machine_good.specs.Flows.{IsKnown}
use Rattle.ss_machine_good.specs.Known.{IsTrueOf, AreAssigned, WasReady}

-- each statement that is left passes the one test, those inside others included, and each test of a loop the other
abbrev pub all_left : (StmtTree → Bool) → (ExprTree → Bool) → List Due → Bool
all_left passes on [] = true
all_left passes on (Statement s ∷ ds) = each_inside passes s && all_left passes on ds
all_left passes on (Test e body s ∷ ds) = on e && each passes body && each_inside passes s && all_left passes on ds

-- The frame f, where the store is s.
pub record IsSoundFrame (c : CoreTree) (f : Frame) (s : List Object) : Type 0 where
  pub chain : IsChain c.classes
  pub beside : NoAlso c.classes
  pub flags : has_flags f.body ≡ true
  -- the stores now and at its entry are good, and everything of the entry is still there
  pub store : IsGoodStore c s
  pub entry : IsGoodStore c f.entry
  pub older : IsOlder f.entry s
  pub was_ready : WasReady f.body.flags.ctor (scene c f s)
  -- so are its locals
  pub locals : AreGoodLocals c.classes s f.body f.locals
  -- what is left is typed, and assigns neither an argument nor the result
  pub typed : all_left (is_typed c f.body) (is_condition c.classes f.body in_code) f.left ≡ true
  pub targets : all_left (targets_only (is_variable f.body)) (λ e. true) f.left ≡ true
  -- what is known of assigned locals and of null where it is reached is so
  pub assigned : IsKnown assigned_flow (assigned_check f.body) (AreAssigned f.body) f.left (scene c f s)
  pub known : IsKnown (known_flow c f.body) (null_check c f.body) (IsTrueOf f.body.flags.ctor) f.left (scene c f s)
