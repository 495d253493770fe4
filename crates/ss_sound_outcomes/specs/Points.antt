-- Points of a body that runs: the values of its locals and the store; and what holds of them in every run.
use Rattle.std.specs.Prelude.{◌≡◌, ℕ, List, [], length, true, false, if◌then◌else◌, Some, None, slice_get}
use Rattle.ss_core.specs.Chain.{below}
use Rattle.ss_core.specs.Tree.{ClassTree, StmtTree, BodyTree, CoreTree}
use Rattle.ss_store_rules.specs.declared.Value.{Value}
use Rattle.ss_store_rules.specs.Store.{Object}
use Rattle.ss_store_rules.specs.Reads.{is_group}
use Rattle.ss_store_rules.specs.Changes.{is_array, field_class}
use Rattle.ss_store_rules.specs.States.{AreGoodLocals}
use Rattle.ss_machine_rules.specs.Frame.{this_of}
use Rattle.ss_machine_rules.specs.States.{ToCall, Frame, locals_at_entry}
use Rattle.ss_machine_rules.specs.States as states
use Rattle.ss_machine_rules.specs.Good.{IsGoodStore}
use Rattle.ss_store_rules.specs.Values.{Setting, setting, local_value}
use Rattle.ss_store_rules.specs.Locals.{local_types, is_argument, is_target}
use Rattle.ss_store_rules.specs.NonNull.{is_non_null_type}
use Rattle.ss_machine_typed.specs.Older.{IsOlder}
use Rattle.ss_machine_typed.specs.Settings.{AreGoodArguments}
use Rattle.ss_machine_good.specs.Known.{IsNotNull, WasReady, AreAssigned}
use Rattle.ss_machine_good.specs.Later.{IsLater}
use Rattle.ss_machine_good.specs.LaterFrames.{HasGiven}
use Rattle.ss_logic.specs.Values.{reference, Table}

-- A body that runs: the program, the body, the store at its entry, and the class and the length of each reference.
pub record Activation : Type 0 where
  pub program : CoreTree
  pub body : BodyTree
  pub entry : List Object
  pub table : Table

pub record Point : Type 0 where
  pub locals : List Value
  pub store : List Object

-- the frame of the body at the point
abbrev pub frame_at : Activation → Point → Frame
frame_at a p = record { body = a.body; locals = p.locals; left = []; entry = a.entry; into = ToCall None }

-- what its expressions are read in
abbrev pub scene : Activation → Point → Setting
scene a p = states.scene a.program (frame_at a p) p.store

-- ---- stores

-- everything of the store before is still there, and an owner that is a pair stays
pub record HasGrown (before now : List Object) : Type 0 where
  pub older : IsOlder before now
  pub owners : (o : ℕ) (x y : Object) → slice_get before o ≡ Some x → slice_get now o ≡ Some y → is_group x.owner ≡ false → y.owner ≡ x.owner

-- the table has the class of each object of the store, and the length of each array
pub record Fits (cs : List ClassTree) (table : Table) (s : List Object) : Type 0 where
  pub class : (o : ℕ) (x : Object) → slice_get s o ≡ Some x → table.class_of (reference o) ≡ x.class
  pub size : (o : ℕ) (x : Object) → slice_get s o ≡ Some x → is_array cs x.class ≡ true → table.length_of (reference o) ≡ length x.elements

-- ---- points

-- What holds of each point of a run that no check has failed before.
pub record IsSound (a : Activation) (p : Point) : Type 0 where
  pub store : IsGoodStore a.program p.store
  pub fits : Fits a.program.classes a.table p.store
  pub grown : HasGrown a.entry p.store
  pub was_ready : WasReady a.body.flags.ctor (scene a p)
  pub locals : AreGoodLocals a.program.classes p.store a.body p.locals
  -- the fields of the classes below have their values before a constructor that isn't delayed runs
  pub given : a.body.flags.ctor ≡ true → a.body.flags.delayed ≡ false → (g : ℕ) → below a.program.classes a.body.class (field_class a.program.classes g) ≡ false → HasGiven a.program p.store (this_of p.locals) g

-- the position from which on an object may have become ready
abbrev pub entry_size : Activation → ℕ
entry_size a = if a.body.flags.ctor then 0 else length a.entry

-- the local has a type that is never null
abbrev pub IsNonNullLocal : Activation → ℕ → Type 0
IsNonNullLocal a x = is_non_null_type (slice_get (local_types a.body) x) ≡ true

-- The point q is reached from p: its store is later, and what isn't null in a local of a type that is never null stays so.
pub record IsReached (a : Activation) (p q : Point) : Type 0 where
  pub later : IsLater a.program.classes (entry_size a) p.store q.store
  pub stays : (x : ℕ) → IsNonNullLocal a x → IsNotNull (local_value (scene a p) x) → IsNotNull (local_value (scene a q) x)

-- It is the point after the statement, which has assigned no null where none is wanted.
pub record IsAfter (a : Activation) (s : StmtTree) (p q : Point) : Type 0 where
  pub reached : IsReached a p q
  pub assigned : (x : ℕ) → is_target s x ≡ true → IsNonNullLocal a x → IsNotNull (local_value (scene a q) x)

-- Arguments of the types of the body b, in the store s, without a null where none is wanted.
pub record ArePassed (c : CoreTree) (b : BodyTree) (s : List Object) (arguments : List Value) : Type 0 where
  pub good : AreGoodArguments c.classes s b arguments
  pub assigned : AreAssigned b (is_argument b) (setting c.classes s s (locals_at_entry b arguments))
