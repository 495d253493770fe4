-- Frames of bodies that run, and states of the checked machine.
use Rattle.std.specs.Prelude.{ℕ, List, [], ◌∷◌, ◌++◌, map, Option, Some, None, option_to_list, slice_set}
use Rattle.ss_core.specs.declared.names.Place.{Place}
use Rattle.ss_core.specs.declared.names.Kind.{Kind}
use Rattle.ss_core.specs.Tree.{ExprTree, StmtTree, CodeTree, NoCode, Then, BodyTree, CoreTree}
use Rattle.ss_store_rules.specs.declared.Value.{Value}
use Rattle.ss_store_rules.specs.declared.Value.TheVariants as value
use Rattle.ss_store_rules.specs.Store.{Object, default_value}
use Rattle.ss_store_rules.specs.Values.{Setting, setting}
use Rattle.ss_store_rules.specs.Locals.{types_of}
use Rattle.ss_machine_rules.specs.Frame.{Span}

-- what is left to do in a body, one by one: a statement; or the test of a loop, after which come its body and then the loop again, or what is left
-- after it
pub data Due : Type 0 where
  Statement : StmtTree → Due
  Test : ExprTree → CodeTree → StmtTree → Due

-- each statement of the code
abbrev pub dues : CodeTree → List Due
dues NoCode = []
dues (Then s code) = Statement s ∷ dues code

-- where a body returns to, if not to the outside: to a call, with the local that gets the result, or to a `new`, with the local that gets the object
pub data Target : Type 0 where
  ToCall : Option ℕ → Target
  ToNew : Option ℕ → Target

-- a body that runs, with its locals, what is left to do in it, the store as it was at its entry, and where it returns to
pub record Frame : Type 0 where
  pub body : BodyTree
  pub locals : List Value
  pub left : List Due
  pub entry : List Object
  pub into : Target

-- The frames, the running one first; the store; and what was printed so far. Or the run is done, has failed with a kind at a place, or has stopped at
-- a place.
pub data State : Type 0 where
  Running : List Frame → List Object → List ℕ → State
  Done : List Object → List ℕ → State
  Failed : Kind → Place → List ℕ → State
  Stopped : Place → List Object → List ℕ → State

-- what a step does: it goes on with these frames and this store, and prints a piece; or the run is over; or a check fails; or an assumption is
-- false
pub data Next : Type 0 where
  Goes : List Frame → List Object → List ℕ → Next
  Over : List Object → Next
  Fails : Kind → Place → Next
  Stops : Place → Next

-- ---- locals

-- the values of a body's locals at its entry, where its arguments have these
abbrev pub locals_at_entry : BodyTree → List Value → List Value
locals_at_entry b arguments = arguments ++ map default_value (types_of b.locals ++ option_to_list b.result)

-- the locals, where this one, if any, gets the value
abbrev pub put : Option ℕ → Value → List Value → List Value
put None v locals = locals
put (Some x) v locals = slice_set locals x v

-- a body at its entry
abbrev pub frame_at_entry : BodyTree → List Value → List Object → Target → Frame
frame_at_entry b locals s into = record { body = b; locals = locals; left = dues b.code; entry = s; into = into }

-- ---- what a frame sees

-- what its expressions are read in
abbrev pub scene : CoreTree → Frame → List Object → Setting
scene c f s = setting c.classes s f.entry f.locals

-- what its frame condition speaks of
abbrev pub span : CoreTree → Frame → List Object → List Value → Span
span c f s outside = record { classes = c.classes; body = f.body; locals = f.locals; entry = f.entry; now = s; outside = outside }
