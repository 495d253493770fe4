-- What holds of the frame that runs, and of those that wait.
use Rattle.std.specs.Prelude.{◌≡◌, ◌≤◌, ℕ, List, [], ◌∷◌, length, Bool, true, false, if◌then◌else◌, Option, Some, slice_get}
use Rattle.ss_core.specs.declared.names.Ty.{Ty}
use Rattle.ss_core.specs.Tree.{BodyTree, CoreTree}
use Rattle.ss_core.specs.Chain.{below}
use Rattle.ss_store_rules.specs.declared.Value.{Value}
use Rattle.ss_store_rules.specs.declared.Value.TheVariants as value
use Rattle.ss_store_rules.specs.Store.{Object, field_value}
use Rattle.ss_store_rules.specs.Changes.{field_class, field_type}
use Rattle.ss_store_rules.specs.Types.{class_type}
use Rattle.ss_store_rules.specs.Typed.{has_exposable}
use Rattle.ss_store_rules.specs.Good.{has_type, is_non_null, IsReady}
use Rattle.ss_store_rules.specs.States.{AreGoodLocals}
use Rattle.ss_store_rules.specs.NonNull.{is_non_null_type, known_flow}
use Rattle.ss_store_rules.specs.Formed.{IsFormedBody}
use Rattle.ss_machine_rules.specs.Frame.{this_of}
use Rattle.ss_machine_rules.specs.States.{Target, ToCall, ToNew, Frame, scene}
use Rattle.ss_machine_rules.specs.Steps.{with_local}
use Rattle.ss_machine_rules.specs.Good.{IsGoodStore}
use Rattle.ss_machine_good.specs.Flows.{IsKnown}
use Rattle.ss_machine_good.specs.Known.{IsNotNull, IsTrueOf}
use Rattle.ss_machine_good.specs.Frames.{all_left, IsSoundFrame}
use Rattle.ss_machine_good.specs.Checks.{fields_check, ready_flow, ready_check, IsThisReady}
use Rattle.ss_machine_good.specs.Later.{IsLater}

-- ---- the frame that runs

-- where the value refers to an object, its field f isn't null if its type is non-null
abbrev pub HasGiven : CoreTree → List Object → Value → ℕ → Type 0
HasGiven c s v f = (o : ℕ) (x : Object) → v ≡ value.Obj o → slice_get s o ≡ Some x → field_value x f ≡ Some value.Null → is_non_null (field_type c.classes f) ≡ false

abbrev pub IsToNew : Target → Type 0
IsToNew (ToCall x) = ⊥
IsToNew (ToNew x) = Unit {0}

-- The object that a constructor constructs.
pub record IsConstructing (c : CoreTree) (f : Frame) (s : List Object) : Type 0 where
  pub position : ℕ
  pub this : this_of f.locals ≡ value.Obj position
  pub object : Object
  pub there : slice_get s position ≡ Some object
  pub class : below c.classes object.class f.body.class ≡ true
  -- after a `new` it is of that class
  pub exact : IsToNew f.into → object.class ≡ f.body.class
  -- the fields of the classes below have their values before a constructor that isn't delayed runs
  pub given : f.body.flags.delayed ≡ false → (g : ℕ) → below c.classes f.body.class (field_class c.classes g) ≡ false → HasGiven c s (this_of f.locals) g

-- The frame f, where the store is s.
pub record IsGoodFrame (c : CoreTree) (f : Frame) (s : List Object) : Type 0 where
  pub formed : IsFormedBody c f.body
  pub sound : IsSoundFrame c f s
  pub exposed : all_left (has_exposable c.classes f.body) (λ e. true) f.left ≡ true
  -- what is known of the fields of `this`, and whether it is ready
  pub fields : IsKnown (known_flow c f.body) (fields_check c f.body) (IsTrueOf f.body.flags.ctor) f.left (scene c f s)
  pub ready : IsKnown (ready_flow c) (ready_check f.body) (IsThisReady f.body.flags.ctor) f.left (scene c f s)
  pub constructs : f.body.flags.ctor ≡ true → IsConstructing c f s
  -- where it has a `this`, that is an object; a constructor alone returns to a `new`
  pub instance : f.body.flags.is_static ≡ false → (o : ℕ) × (this_of f.locals ≡ value.Obj o)
  pub new : IsToNew f.into → f.body.flags.ctor ≡ true

-- ---- frames that wait

-- what was there at the entry of a frame that is no constructor was ready there if it is so now; a constructor isn't asked
abbrev pub entry_size : Frame → ℕ
entry_size f = if f.body.flags.ctor then 0 else length f.entry

-- the object that is constructed
abbrev pub constructed : Frame → Value
constructed f = if f.body.flags.ctor then this_of f.locals else value.Null

-- the type of what a body gives back: its result to a call, its object to a `new`
abbrev pub given_back : BodyTree → Target → Option Ty
given_back b (ToCall x) = b.result
given_back b (ToNew x) = Some (class_type b.class)

-- whether that is never null
abbrev pub is_given_back : BodyTree → Target → Bool
is_given_back b (ToCall x) = is_non_null_type b.result
is_given_back b (ToNew x) = true

abbrev pub kept_in : Target → Option ℕ
kept_in (ToCall x) = x
kept_in (ToNew x) = x

-- What the body b gives back: the value v, in the store s, where it has constructed this.
pub record IsAnswer (c : CoreTree) (b : BodyTree) (into : Target) (this : Value) (s : List Object) (v : Value) : Type 0 where
  pub types : (t : Ty) → given_back b into ≡ Some t → has_type c.classes s t v ≡ true
  pub ready : IsReady s v
  pub non_null : is_given_back b into ≡ true → IsNotNull v
  -- a constructor has given the fields of its class and those above it their values, and one that isn't delayed all
  pub fields : b.flags.ctor ≡ true → (g : ℕ) → (b.flags.delayed ≡ true → below c.classes b.class (field_class c.classes g) ≡ true) → HasGiven c s this g
  -- and that has made it ready
  pub whole : b.flags.ctor ≡ true → b.flags.delayed ≡ false → IsReady s this

-- The frame f waits for what the body b gives back.
pub record IsWaiting (c : CoreTree) (s : List Object) (b : BodyTree) (into : Target) (this : Value) (f : Frame) : Type 0 where
  pub locals : AreGoodLocals c.classes s f.body f.locals
  pub size : length f.entry ≤ length s
  -- what it constructs itself stays so
  pub keeps : (v : Value) → constructed (with_local (kept_in into) v f) ≡ constructed f
  pub goes_on : (z : List Object) (v : Value) → IsLater c.classes (entry_size f) s z → IsGoodStore c z → IsAnswer c b into this z v → IsGoodFrame c (with_local (kept_in into) v f) z

-- each frame below waits for the one above it
abbrev pub AreWaiting : CoreTree → List Object → Frame → List Frame → Type 0
AreWaiting c s g [] = Unit {0}
AreWaiting c s g (f ∷ fs) = IsWaiting c s g.body g.into (constructed g) f × AreWaiting c s f fs

-- nothing at this position was there at the entry of one of them that is no constructor
abbrev pub IsNewTo : Value → List Frame → Type 0
IsNewTo v [] = Unit {0}
IsNewTo v (f ∷ fs) = ((o : ℕ) → v ≡ value.Obj o → entry_size f ≤ o) × IsNewTo v fs

-- what a constructor constructs is new to the frames below
abbrev pub AreNew : List Frame → Type 0
AreNew [] = Unit {0}
AreNew (f ∷ fs) = IsNewTo (constructed f) fs × AreNew fs
