-- What a step of the code did.
use Rattle.std.specs.Prelude.{◌≡◌, ℕ, ◌≤◌, List, [], ◌∷◌, ◌++◌, Bool, true, false, Option, Result, Ok, Err}
use Rattle.std.specs.Global.{Vec}
use Rattle.ss_core.specs.declared.names.Place.{Place}
use Rattle.ss_core.specs.declared.body.Core.{Core}
use Rattle.ss_core.specs.View.{core}
use Rattle.ss_io.specs.Outside.{Grew, GrewByFront, Rose}
use Rattle.ss_core.specs.Tree.{StmtTree, PrintStmt, PrintTextStmt, CoreTree}
use Rattle.ss_store_rules.specs.declared.Value.{Value}
use Rattle.ss_store_rules.specs.declared.Undefined.{Undefined}
use Rattle.ss_machine_stores.specs.declared.stop.ChangeStop.{ChangeStop}
use Rattle.ss_machine_stores.specs.declared.stop.ChangeStop.TheVariants as stop
use Rattle.ss_store_rules.specs.Numbers.{Outcome, undefined}
use Rattle.ss_store_rules.specs.Values.{Setting}
use Rattle.ss_machine_rules.specs.States.{Due, Next, Goes, Over, Fails, Stops, scene}
use Rattle.ss_machine_rules.specs.Steps.{act, goes, go_into}
use Rattle.ss_machine.specs.Frames.{frame_of, running, waiting}
use Rattle.ss_machine.specs.declared.frame.Frame.{Frame}
use Rattle.ss_machine.specs.declared.halt.Halt.{Halt}
use Rattle.ss_machine.specs.declared.halt.Halt.TheVariants as halt
use Rattle.ss_machine.specs.declared.machine.Machine.{Machine}

-- the machine goes on as it is now
abbrev pub going : Machine → List ℕ → Next
going m piece = Goes (running m ∷ waiting m) m.stores.now piece

-- what a step with this statement does
abbrev pub doing : CoreTree → StmtTree → Machine → Next
doing c s m = act c s (running m) (waiting m) m.stores.now

-- the run halts so, unless memory failed; nothing was to be printed
abbrev pub HaltIs : Halt → Next → Machine → Type 0
HaltIs halt.Over next m = next ≡ Over m.stores.now
HaltIs (halt.Fails k at) next m = next ≡ Fails k at
HaltIs (halt.Stops at) next m = next ≡ Stops at
HaltIs halt.WriteFault next m = ⊥
HaltIs halt.Memory next m = Unit {0}

-- a step that prints nothing did what is next
abbrev pub Does : Result Unit Halt → Next → Machine → Type 0
Does (Ok u) next m = next ≡ going m []
Does (Err h) next m = HaltIs h next m

-- a statement that prints nothing
abbrev pub is_quiet : StmtTree → Bool
is_quiet (PrintStmt at e newline) = false
is_quiet (PrintTextStmt at text newline) = false
is_quiet s = true

-- what the expressions of the running body are read in
abbrev pub here : Core → Machine → Setting
here c m = scene (core c) (running m) m.stores.now

-- a value, or the check that failed at a part
abbrev pub IsValue : Result Value Halt → Outcome → Type 0
IsValue (Ok v) r = r ≡ Ok v
IsValue (Err (halt.Fails k at)) r = r ≡ Err (undefined at k)
IsValue (Err halt.Memory) r = ⊥
IsValue (Err halt.Over) r = ⊥
IsValue (Err (halt.Stops at)) r = ⊥
IsValue (Err halt.WriteFault) r = ⊥

-- values, or the first check that failed; unless memory failed
abbrev pub HaltsAt : Halt → Result (List Value) Undefined → Type 0
HaltsAt (halt.Fails k at) r = r ≡ Err (undefined at k)
HaltsAt halt.Memory r = Unit {0}
HaltsAt halt.Over r = ⊥
HaltsAt (halt.Stops at) r = ⊥
HaltsAt halt.WriteFault r = ⊥

abbrev pub AreValues : Result (Vec Value) Halt → Result (List Value) Undefined → Type 0
AreValues (Ok vs) r = r ≡ Ok vs.items
AreValues (Err h) r = HaltsAt h r

-- the values stand after those that were there
abbrev pub ArePushed : Result Unit Halt → List Value → List Value → Result (List Value) Undefined → Type 0
ArePushed (Ok u) old new r = (vs : List Value) × (r ≡ Ok vs) × (new ≡ old ++ vs)
ArePushed (Err h) old new r = HaltsAt h r

-- the values stand after this one
abbrev pub AreAfter : Value → Result (Vec Value) Halt → Result (List Value) Undefined → Type 0
AreAfter v (Ok vs) r = (ws : List Value) × (r ≡ Ok ws) × (vs.items ≡ v ∷ ws)
AreAfter v (Err h) r = HaltsAt h r

-- the frame runs at the store of now, and those that were there wait
abbrev pub Enters : Result Unit Halt → Frame → Machine → Machine → Type 0
Enters (Ok u) f old new = going new [] ≡ Goes (frame_of f old.stores.now ∷ running old ∷ waiting old) old.stores.now []
Enters (Err h) f old new = h ≡ halt.Memory

-- the frame that waited next runs, where one did
abbrev pub IsPopped : Bool → Machine → Machine → Type 0
IsPopped true old new = (running new ∷ waiting new ≡ waiting old) × (new.stores.now ≡ old.stores.now)
IsPopped false old new = (waiting old ≡ []) × (new.stores.now ≡ old.stores.now)

-- the running body does this first, and then what was left
abbrev pub IsInto : Result Unit Halt → List Due → Machine → Machine → Type 0
IsInto (Ok u) ds old new = going new [] ≡ goes (go_into ds (running old)) (waiting old) old.stores.now
IsInto (Err h) ds old new = h ≡ halt.Memory

-- a change that was refused fails
abbrev pub FailsAs : Result Unit Halt → Result Unit ChangeStop → Place → Type 0
FailsAs (Ok u) r at = r ≡ Ok tt
FailsAs (Err (halt.Fails k p)) r at = (p ≡ at) × (r ≡ Err (stop.Refused (record { kind = k })))
FailsAs (Err halt.Memory) r at = r ≡ Err stop.Memory
FailsAs (Err halt.Over) r at = ⊥
FailsAs (Err (halt.Stops p)) r at = ⊥
FailsAs (Err halt.WriteFault) r at = ⊥

-- ---- with a sink

-- what a step prints
abbrev pub piece_of : Next → List ℕ
piece_of (Goes fs s piece) = piece
piece_of (Over s) = []
piece_of (Fails k at) = []
piece_of (Stops at) = []

-- a step did what is next; where it was not made, the sink took a front of its piece
abbrev pub StepIs : Result Unit Halt → Next → Machine → Option (List ℕ) → Option (List ℕ) → Type 0
StepIs (Ok u) next m old new = (next ≡ going m (piece_of next)) × Grew old new (piece_of next)
StepIs (Err halt.Over) next m old new = (next ≡ Over m.stores.now) × Grew old new []
StepIs (Err (halt.Fails k at)) next m old new = (next ≡ Fails k at) × Grew old new []
StepIs (Err (halt.Stops at)) next m old new = (next ≡ Stops at) × Grew old new []
StepIs (Err halt.WriteFault) next m old new = GrewByFront old new (piece_of next)
StepIs (Err halt.Memory) next m old new = GrewByFront old new (piece_of next)

-- a piece was written, or a front of it
abbrev pub WriteIs : Result Unit Halt → List ℕ → Option (List ℕ) → Option (List ℕ) → Type 0
WriteIs (Ok u) piece old new = Grew old new piece
WriteIs (Err halt.Over) piece old new = ⊥
WriteIs (Err (halt.Fails k at)) piece old new = ⊥
WriteIs (Err (halt.Stops at)) piece old new = ⊥
WriteIs (Err halt.WriteFault) piece old new = GrewByFront old new piece
WriteIs (Err halt.Memory) piece old new = GrewByFront old new piece

-- a fault is answered only where the count rose
pub record HasCause (result : Result Unit Halt) (before now : ℕ) : Type 0 where
  pub later : before ≤ now
  pub rose : result ≡ Err halt.WriteFault → Rose before now
