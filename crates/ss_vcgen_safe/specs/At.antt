-- A position of the obligations, a point of a run, and a structure in which they agree.
--
-- What is said of a structure is said of each that is like it below the next new constants. So a new constant may be given any value.
use Rattle.std.specs.Prelude.{◌≡◌, ℕ, ◌<◌, ◌≤◌, List, [], length, Bool, true, false, Option, Some, slice_get}
use Rattle.ss_core.specs.Tree.{ClassTree}
use Rattle.ss_store_rules.specs.Store.{Object}
use Rattle.ss_store_rules.specs.Locals.{local_types}
use Rattle.ss_store_rules.specs.Values.{local_value}
use Rattle.ss_machine_good.specs.Known.{IsTrueOf, AreAssigned}
use Rattle.ss_logic.specs.declared.Sort.{Sort}
use Rattle.ss_logic.specs.declared.Sort.TheVariants as sort
use Rattle.ss_logic.specs.Values.{Heap, Table, Value, store, Structure}
use Rattle.ss_logic.specs.Terms.{Term, constant_value, value_of}
use Rattle.ss_logic.specs.Formulas.{Formula, True, Hold}
use Rattle.ss_logic.specs.Objects.{IsGoodStore, objects_of}
use Rattle.ss_logic_means.specs.Means.{standing}
use Rattle.ss_logic_means.specs.Sorts.{HasSort}
use Rattle.ss_vcgen_heaps.specs.Positions.{Guard, Always, When, Never, Counters, Position, Walk, number_of}
use Rattle.ss_vcgen_heaps.specs.Obligations.{local_sort, AreValid}
use Rattle.ss_sound_outcomes.specs.Points.{Activation, Point, scene, IsSound}

-- ---- structures

-- The structures have one table, and give the same values to the constants before the next new ones.
pub record IsAlike (next : Counters) (m m' : Structure) : Type 0 where
  pub table : m'.table ≡ m.table
  pub constants : (s : Sort) (i : ℕ) → i < number_of s next → constant_value m' s i ≡ constant_value m s i

-- this is so in each structure like m
abbrev pub Stays : Counters → Structure → (Structure → Type 0) → Type 0
Stays next m P = (m' : Structure) → IsAlike next m m' → P m'

-- the term has the value, whatever the bound names stand for
abbrev pub HasValue : List ClassTree → Term → Value → Structure → Type 0
HasValue cs t v m = (e : List Value) → value_of cs m e t ≡ v

abbrev pub IsTrueIn : List ClassTree → Formula → Structure → Type 0
IsTrueIn cs f m = True cs m [] f

abbrev pub HoldIn : List ClassTree → List Formula → Structure → Type 0
HoldIn cs fs m = Hold cs m fs

-- a position with this guard is reached
abbrev pub IsOn : Guard → Structure → Type 0
IsOn Always m = Unit {0}
IsOn (When n) m = m.truths n ≡ true
IsOn Never m = ⊥

-- and it isn't
abbrev pub IsOff : Guard → Structure → Type 0
IsOff Always m = ⊥
IsOff (When n) m = m.truths n ≡ false
IsOff Never m = Unit {0}

-- the truth values with these numbers, of which the last is left out, are false
abbrev pub IsQuiet : ℕ → ℕ → Structure → Type 0
IsQuiet from to m = (i : ℕ) → from ≤ i → i < to → m.truths i ≡ false

-- ---- stores and locals

-- The term stands for a good heap, which has the objects of the store s.
pub record IsStore (cs : List ClassTree) (table : Table) (next : Counters) (m : Structure) (t : Term) (s : List Object) : Type 0 where
  pub heap : Heap
  pub is : Stays next m (HasValue cs t (store heap))
  pub sorted : HasSort cs [] sort.Store t
  pub good : IsGoodStore cs table heap
  pub objects : objects_of cs table heap ≡ s

-- the body that is walked, as one that runs from this store, with this table
abbrev pub activation : Walk → List Object → Table → Activation
activation w before table = record { program = w.program; body = w.body; entry = before; table = table }

-- The term of the local x has its sort, and its value at the point.
pub record IsLocal (w : Walk) (before : List Object) (table : Table) (next : Counters) (m : Structure) (p : Point) (x : ℕ) (t : Term) : Type 0 where
  pub is : Stays next m (HasValue w.program.classes t (standing (local_value (scene (activation w before table) p) x)))
  pub sorted : HasSort w.program.classes [] (local_sort w x) t

-- each local that has a term
abbrev pub AreLocals : Walk → List Object → Table → Counters → Structure → Point → List (Option Term) → Type 0
AreLocals w before table next m p locals = (x : ℕ) (t : Term) → slice_get locals x ≡ Some (Some t) → IsLocal w before table next m p x t

-- ---- positions

-- In the structure m, the position k and the point p agree: the terms stand for the stores and the locals, and guard and premises are true.
pub record Agrees (w : Walk) (before : List Object) (table : Table) (m : Structure) (k : Position) (p : Point) : Type 0 where
  pub table_is : m.table ≡ table
  pub entry : IsStore w.program.classes table k.next m w.entry before
  pub store_is : IsStore w.program.classes table k.next m k.store p.store
  pub count : length k.locals ≡ length (local_types w.body)
  pub locals : AreLocals w before table k.next m p k.locals
  pub guard : Stays k.next m (IsOn k.guard)
  pub premises : Stays k.next m (HoldIn w.program.classes k.premises)

-- these locals have terms
abbrev pub HaveTerms : (ℕ → Bool) → List (Option Term) → Type 0
HaveTerms xs locals = (x : ℕ) → xs x ≡ true → (t : Term) × (slice_get locals x ≡ Some (Some t))

-- The run is at the position: in m they agree, what is known of null is so, and the assigned locals xs have terms, and no null where none
-- is wanted.
pub record IsAt (w : Walk) (before : List Object) (table : Table) (xs : ℕ → Bool) (m : Structure) (k : Position) (p : Point) : Type 0 where
  pub agrees : Agrees w before table m k p
  pub known : IsTrueOf w.body.flags.ctor k.known (scene (activation w before table) p)
  pub assigned : AreAssigned w.body xs (scene (activation w before table) p)
  pub terms : HaveTerms xs k.locals
  pub sound : IsSound (activation w before table) p

-- ---- from a position to one after it

-- the counters only rise
abbrev pub Rises : Counters → Counters → Type 0
Rises next later = (s : Sort) → number_of s next ≤ number_of s later

-- The counters only rise, what is listed stays listed, and there is a place for each local still. Where k isn't reached, k' isn't either
-- and has only true premises, if the truth values that are new on the way are false.
pub record Leads (w : Walk) (k k' : Position) : Type 0 where
  pub rises : Rises k.next k'.next
  pub listed : AreValid w.program.classes k'.listed → AreValid w.program.classes k.listed
  pub count : length k.locals ≡ length (local_types w.body) → length k'.locals ≡ length (local_types w.body)
  pub off : (m : Structure) → IsQuiet k.next.truths k'.next.truths m → IsOff k.guard m → IsOff k'.guard m
  pub hold : (m : Structure) → IsQuiet k.next.truths k'.next.truths m → IsOff k.guard m → HoldIn w.program.classes k.premises m → HoldIn w.program.classes k'.premises m
