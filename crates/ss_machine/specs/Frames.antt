-- The frames that the code's stack and its stores stand for.
use Rattle.std.specs.Prelude.{◌≡◌, List, [], ◌∷◌, ◌++◌, reverse, Option, Some, None}
use Rattle.ss_core.specs.View.{expr, stmt_of, block, body}
pub use Rattle.ss_core.specs.Parts.{loop_of}
use Rattle.ss_store_rules.specs.Store.{Object}
use Rattle.ss_machine_rules.specs.States as states
use Rattle.ss_machine_rules.specs.States.{Due, Statement, Test, dues}
use Rattle.ss_machine_stores.specs.Shapes.{entry_of, rest_of}
use Rattle.ss_machine.specs.declared.frame.Behind.{Behind}
use Rattle.ss_machine.specs.declared.frame.Behind.TheVariants as behind
use Rattle.ss_machine.specs.declared.frame.Due as code
use Rattle.ss_machine.specs.declared.frame.Due.TheVariants as due
use Rattle.ss_machine.specs.declared.frame.Target.{Target}
use Rattle.ss_machine.specs.declared.frame.Target.TheVariants as target
use Rattle.ss_machine.specs.declared.frame.Frame.{Frame}
use Rattle.ss_machine.specs.declared.machine.Machine.{Machine}

-- what stands after a block: statements, the test of a loop, or a loop
abbrev pub dues_after : Behind → List Due
dues_after (behind.Code code) = dues (block code.now)
dues_after (behind.Test l) = Test (expr l.now.test) (block l.now.body.items) (loop_of l.now) ∷ []
dues_after (behind.Head l) = Statement (loop_of l.now) ∷ []

-- the last comes first
abbrev pub left_after : List Behind → List Due
left_after [] = []
left_after (p ∷ ps) = left_after ps ++ dues_after p

abbrev pub left_of : Frame → List Due
left_of f = dues (block f.code.now) ++ left_after f.later.items

abbrev pub target_of : Target → states.Target
target_of (target.Call x) = states.ToCall x
target_of (target.New x) = states.ToNew x

-- a frame that was entered at this store
abbrev pub frame_of : Frame → List Object → states.Frame
frame_of f s = record {
  body = body f.body.now;
  locals = f.locals.items;
  left = left_of f;
  entry = s;
  into = target_of f.into;
}

-- frames with the stores at their entries, the newest first
abbrev pub frames_of : List Frame → List (List Object) → List states.Frame
frames_of [] ss = []
frames_of (f ∷ fs) ss = frame_of f (entry_of ss) ∷ frames_of fs (rest_of ss)

abbrev pub running : Machine → states.Frame
running m = frame_of m.top (entry_of m.stores.entries)

abbrev pub waiting : Machine → List states.Frame
waiting m = frames_of (reverse m.below.items) (rest_of m.stores.entries)

-- what was taken was the first of what was left
abbrev pub IsFirst : Option code.Due → List Due → List Due → Type 0
IsFirst None old new = (old ≡ []) × (new ≡ [])
IsFirst (Some (due.Statement s)) old new = old ≡ Statement (stmt_of s.now) ∷ new
IsFirst (Some (due.Head l)) old new = old ≡ Statement (loop_of l.now) ∷ new
IsFirst (Some (due.Test l)) old new = old ≡ Test (expr l.now.test) (block l.now.body.items) (loop_of l.now) ∷ new
