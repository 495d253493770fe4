-- Safely from a point: no check fails in the code, and after it `Q` holds, whatever a call gives back that its callee's contract allows.
use Rattle.std.specs.Prelude.{◌≡◌, ℕ, ℤ, List, [], ◌∷◌, map, length, Bool, true, false, if◌then◌else◌, Option, Some, None, slice_get, Result, Ok, Err}
use Rattle.ss_core.specs.declared.names.Kind.{Kind}
use Rattle.ss_core.specs.Tree.{ExprTree, CalleeTree, Dispatched, Static, Base, BaseConstructor, ExposedTree, StmtTree, AssignStmt, WriteStmt, WriteElementStmt, NewStmt, NewArrayStmt, CallStmt, ReadyStmt, IfStmt, LoopStmt, UnpackStmt, PackStmt, AssertStmt, AssumeStmt, PrintStmt, PrintTextStmt, ReturnStmt, CodeTree, NoCode, Then, BodyTree, CoreTree}
use Rattle.ss_store_rules.specs.declared.Value.{Value}
use Rattle.ss_store_rules.specs.declared.Value.TheVariants as value
use Rattle.ss_store_rules.specs.declared.Undefined.{Undefined}
use Rattle.ss_store_rules.specs.Store.{Object}
use Rattle.ss_store_rules.specs.Numbers.{Outcome}
use Rattle.ss_store_rules.specs.Reads.{as_int, as_bool}
use Rattle.ss_store_rules.specs.Values.{Setting, setting, local_value, value_of, holds}
use Rattle.ss_store_rules.specs.Changes.{unpack_of, pack_of, write_of, write_element_of, new_object_of, new_array_of}
use Rattle.ss_store_rules.specs.Admissible.{invariants_hold}
use Rattle.ss_store_rules.specs.Locals.{assigns}
use Rattle.ss_store_rules.specs.Typed.{constructor_of}
use Rattle.ss_machine_rules.specs.Frame.{Span, this_of, is_kept}
use Rattle.ss_machine_rules.specs.States.{Target, ToCall, locals_at_entry, put, span}
use Rattle.ss_machine_rules.specs.Steps.{values_of, all_hold, with_ready, result_local, result_value, held_by, are_exposed}
use Rattle.ss_machine_rules.specs.Good.{IsGoodStore}
use Rattle.ss_machine_good.specs.Later.{IsLater}
use Rattle.ss_machine_good.specs.LaterFrames.{IsAnswer}
use Rattle.ss_logic.specs.Values.{Table}
use Rattle.ss_vcgen_heaps.specs.Contracts.{called}
use Rattle.ss_sound_outcomes.specs.Points.{Activation, Point, frame_at, scene, HasGrown, Fits, IsSound, entry_size, IsReached, IsAfter, ArePassed}

-- ---- values and changes

-- there is a value, and this holds of it
abbrev pub Has : {A E : Type 0} → Result A E → (A → Type 0) → Type 0
Has (Ok v) P = P v
Has (Err e) P = ⊥

-- this holds of the point q after the statement, where what holds of each such point of a run does
abbrev pub GoesOn : Activation → StmtTree → (Point → Type 0) → Point → Point → Type 0
GoesOn a s Q p q = IsSound a q → IsAfter a s p q → Q q

abbrev pub with_local : Option ℕ → Value → Point → Point
with_local x v p = record p { locals = put x v p.locals }

abbrev pub with_store : List Object → Point → Point
with_store s p = record p { store = s }

-- a change of the store whose checks hold
abbrev pub Changes : Activation → StmtTree → (Point → Type 0) → Point → Result (List Object) Kind → Type 0
Changes a u Q p r = Has r (λ s. GoesOn a u Q p (with_store s p))

-- ---- calls

-- the locals of a body where it is left, with its result
abbrev pub locals_at_exit : BodyTree → List Value → Value → List Value
locals_at_exit b arguments v = put (result_local b) v (locals_at_entry b arguments)

abbrev pub this_among : List Value → Value
this_among arguments = this_of arguments

-- What a call of the body b may do, between the stores s and z, with the result v: what its contract allows.
pub record IsReturn (a : Activation) (b : BodyTree) (into : Target) (arguments : List Value) (s z : List Object) (v : Value) : Type 0 where
  pub good : IsGoodStore a.program z
  pub grown : HasGrown s z
  pub later : IsLater a.program.classes (entry_size a) s z
  pub kept : is_kept (record { classes = a.program.classes; body = b; locals = locals_at_entry b arguments; entry = s; now = z; outside = [] }) ≡ true
  pub exit : all_hold b.exit (setting a.program.classes z s (locals_at_exit b arguments v)) ≡ true
  pub answer : IsAnswer a.program b into (this_among arguments) z v

-- the conditions at entry hold, in the store s
abbrev pub Enters : Activation → BodyTree → List Value → List Object → Type 0
Enters a b arguments s = all_hold b.entry (setting a.program.classes s s (locals_at_entry b arguments)) ≡ true

abbrev pub CallsSafely : Activation → StmtTree → (Point → Type 0) → Point → Option ℕ → Option BodyTree → List Value → Type 0
CallsSafely a u Q p x None arguments = Q p
CallsSafely a u Q p x (Some b) arguments =
    ArePassed a.program b p.store arguments →
    Enters a b arguments p.store
    × ((z : List Object) (v : Value) → IsReturn a b (ToCall x) arguments p.store z v → GoesOn a u Q p (with_local x v (with_store z p)))

abbrev pub IsObject : Value → Type 0
IsObject (value.Obj o) = Unit {0}
IsObject (value.Int n) = ⊥
IsObject (value.Bool b) = ⊥
IsObject value.Null = ⊥

abbrev pub Calls : Activation → StmtTree → (Point → Type 0) → Point → Option ℕ → CalleeTree → List ExprTree → Type 0
Calls a u Q p x (Dispatched e t m) es =
    Has (value_of e (scene a p)) (λ v. Has (values_of es (scene a p)) (λ vs. IsObject v × CallsSafely a u Q p x (called a.program a.body (Dispatched e t m)) (v ∷ vs)))
Calls a u Q p x (Static n) es = Has (values_of es (scene a p)) (λ vs. CallsSafely a u Q p x (called a.program a.body (Static n)) vs)
Calls a u Q p x (Base n) es = Has (values_of es (scene a p)) (λ vs. CallsSafely a u Q p x (called a.program a.body (Base n)) (this_of p.locals ∷ vs))
Calls a u Q p x (BaseConstructor n) es = Has (values_of es (scene a p)) (λ vs. CallsSafely a u Q p x (called a.program a.body (BaseConstructor n)) (this_of p.locals ∷ vs))

-- ---- new objects

-- The store s has the new object already. A constructor returns like a body that was called, and its object is ready only after that.
abbrev pub ConstructsSafely : Activation → StmtTree → (Point → Type 0) → Point → Option ℕ → Option BodyTree → Value → List Value → List Object → Type 0
ConstructsSafely a u Q p x None this vs s = Q (with_store s p)
ConstructsSafely a u Q p x (Some b) this vs s =
    ArePassed a.program b s (this ∷ vs) →
    Enters a b (this ∷ vs) s
    × ((z : List Object) (v : Value) → Fits a.program.classes a.table z → IsReturn a b (ToCall x) (this ∷ vs) s z v → GoesOn a u Q p (with_local x this (with_store (with_ready z this) p)))

abbrev pub Constructs : Activation → StmtTree → (Point → Type 0) → Point → Option ℕ → ℕ → List ExprTree → Type 0
Constructs a u Q p x t es =
    Has (values_of es (scene a p))
    (λ vs. let s = new_object_of a.program.classes p.store t in
    IsGoodStore a.program s → Fits a.program.classes a.table s → ConstructsSafely a u Q p x (constructor_of a.program t) (value.Obj (length p.store)) vs s)

-- ---- loops

-- the parts of a loop that are looked at at its head
pub record Head : Type 0 where
  pub statement : StmtTree
  pub invariants : List ExprTree
  pub exposes : List ExposedTree

-- its invariants hold, the frame condition does, and what is exposed around it stands at its level
pub record HoldsAtHead (a : Activation) (h : Head) (p : Point) : Type 0 where
  pub invariants : all_hold h.invariants (scene a p) ≡ true
  pub kept : is_kept (span a.program (frame_at a p) p.store (map (held_by (frame_at a p)) h.exposes)) ≡ true
  pub levels : are_exposed a.program.classes p.store (frame_at a p) h.exposes ≡ true

-- a turn begins at q, where the loop began at p: the locals that the loop doesn't assign are what they were
pub record IsTurn (a : Activation) (s : StmtTree) (p q : Point) : Type 0 where
  pub reached : IsReached a p q
  pub count : length q.locals ≡ length p.locals
  pub same : (x : ℕ) → assigns s x ≡ false → slice_get q.locals x ≡ slice_get p.locals x

abbrev pub head_of : StmtTree → List ExprTree → List ExposedTree → Head
head_of s invariants exposes = record { statement = s; invariants = invariants; exposes = exposes }

-- ---- statements

module _ (a : Activation) where
  abbrev mutual
    pub Safely : StmtTree → Point → (Point → Type 0) → Type 0
    Safely (AssignStmt at x e) p Q = Has (value_of e (scene a p)) (λ v. GoesOn a (AssignStmt at x e) Q p (with_local (Some x) v p))
    Safely (WriteStmt at o g m t e) p Q =
        Has (value_of o (scene a p)) (λ v. Has (value_of e (scene a p)) (λ w. Changes a (WriteStmt at o g m t e) Q p (write_of a.program.classes p.store v g w)))
    Safely (WriteElementStmt at e i value) p Q =
        Has (value_of e (scene a p))
        (λ v. Has (value_of i (scene a p)) (λ n. Has (value_of value (scene a p)) (λ w. Changes a (WriteElementStmt at e i value) Q p (write_element_of p.store v (as_int n) w))))
    Safely (NewStmt at x t es) p Q = Constructs a (NewStmt at x t es) Q p x t es
    Safely (NewArrayStmt at x t e) p Q =
        Has (value_of e (scene a p)) (λ n. Has (new_array_of p.store t (as_int n)) (λ s. GoesOn a (NewArrayStmt at x t e) Q p (with_local x (value.Obj (length p.store)) (with_store s p))))
    Safely (CallStmt at x callee es) p Q = Calls a (CallStmt at x callee es) Q p x callee es
    Safely (ReadyStmt at) p Q = GoesOn a (ReadyStmt at) Q p (with_store (with_ready p.store (this_of p.locals)) p)
    Safely (IfStmt at e one other) p Q =
        Has (value_of e (scene a p)) (λ v. (as_bool v ≡ true → AllSafely one p Q) × (as_bool v ≡ false → AllSafely other p Q))
    Safely (LoopStmt at asked prelude e body exposes) p Q =
        let s = LoopStmt at asked prelude e body exposes in
        let h = head_of s asked exposes in
        HoldsAtHead a h p
        × ((q : Point) → IsTurn a s p q → HoldsAtHead a h q → IsSound a q →
        AllSafely prelude q
        (λ r. Has (value_of e (scene a r)) (λ v. (as_bool v ≡ true → AllSafely body r (λ z. HoldsAtHead a h z)) × (as_bool v ≡ false → Q r))))
    Safely (UnpackStmt at x t) p Q = Changes a (UnpackStmt at x t) Q p (unpack_of a.program.classes p.store (local_value (scene a p) x) t)
    Safely (PackStmt at x t) p Q = Changes a (PackStmt at x t) Q p (pack_of a.program.classes (invariants_hold a.program.classes) p.store (local_value (scene a p) x) t)
    Safely (AssertStmt at e) p Q = (holds e (scene a p) ≡ true) × Q p
    Safely (AssumeStmt at e) p Q = holds e (scene a p) ≡ true → Q p
    Safely (PrintStmt at None newline) p Q = Q p
    Safely (PrintStmt at (Some e) newline) p Q = Has (value_of e (scene a p)) (λ v. Q p)
    Safely (PrintTextStmt at text newline) p Q = Q p
    Safely (ReturnStmt at e) p Q =
        Has (result_value e (scene a p))
        (λ v. let q = with_local (result_local a.body) v p in
        (all_hold a.body.exit (scene a q) ≡ true) × (is_kept (span a.program (frame_at a q) q.store []) ≡ true))

    pub AllSafely : CodeTree → Point → (Point → Type 0) → Type 0
    AllSafely NoCode p Q = Q p
    AllSafely (Then s code) p Q = Safely s p (λ q. AllSafely code q Q)

-- ---- bodies

-- From its entry a body goes on safely, and never to the end of its statements.
abbrev pub RunsSafely : CoreTree → BodyTree → Type 0
RunsSafely c b =
    (table : Table) (s : List Object) (arguments : List Value) →
    let a : Activation = record { program = c; body = b; entry = s; table = table } in
    let p : Point = record { locals = locals_at_entry b arguments; store = s } in
    ArePassed c b s arguments → IsSound a p → Enters a b arguments s → AllSafely a b.code p (λ q. ⊥)

-- so does each body of the program
abbrev pub AllRunSafely : CoreTree → Type 0
AllRunSafely c = (n : ℕ) (b : BodyTree) → slice_get c.bodies n ≡ Some b → RunsSafely c b
