-- What terms stand for: whole numbers, truth values, stores, and the rest.
use Rattle.std.specs.Prelude.{◌≡◌, ℕ, ℤ, pos, ◌^◌, Bool, true, false, ◌==◌, ◌&&◌, nat_lt}
use Rattle.ss_logic.specs.declared.Sort.{Sort}
use Rattle.ss_logic.specs.declared.Sort.TheVariants as sort

-- null, a reference, a class, a group by its number, or the pair of an object and a class
pub data Thing : Type 0 where
  null : Thing
  reference : ℕ → Thing
  class_name : ℕ → Thing
  group_number : ℕ → Thing
  owner_pair : Thing → Thing → Thing

abbrev pub same_thing : Thing → Thing → Bool
same_thing null null = true
same_thing (reference a) (reference b) = a == b
same_thing (class_name a) (class_name b) = a == b
same_thing (group_number a) (group_number b) = a == b
same_thing (owner_pair a t) (owner_pair b u) = same_thing a b && same_thing t u
same_thing v w = false

abbrev pub is_group : Thing → Bool
is_group (group_number g) = true
is_group w = false

-- What stands at each place, in cells for whole numbers, for truth values and for the rest.
pub record Cells (Place : Type 0) : Type 0 where
  pub wholes : Place → ℤ
  pub truths : Place → Bool
  pub things : Place → Thing

-- What a store has for a thing: fields by their numbers, elements by their indexes, the level, whether it is committed, its owner,
-- and whether it is ready.
pub record Entry : Type 0 where
  pub fields : Cells ℕ
  pub elements : Cells ℤ
  pub level : ℕ
  pub committed : Bool
  pub owner : Thing
  pub ready : Bool

-- A store: a table with an entry for each thing, null too. The references below `next` are the allocated ones.
pub record Heap : Type 0 where
  pub at : Thing → Entry
  pub next : ℕ

pub data Value : Type 0 where
  whole : ℤ → Value
  truth : Bool → Value
  thing : Thing → Value
  store : Heap → Value

abbrev pub sort_of_value : Value → Sort
sort_of_value (whole n) = sort.Whole
sort_of_value (truth b) = sort.Truth
sort_of_value (thing w) = sort.Rest
sort_of_value (store h) = sort.Store

-- ---- a value of another sort counts as 0, false, null, or a store without objects

abbrev pub no_cells : {Place : Type 0} → Cells Place
no_cells = record { wholes = λ i. pos 0; truths = λ i. false; things = λ i. null }

abbrev pub no_entry : Entry
no_entry = record { fields = no_cells; elements = no_cells; level = 0; committed = false; owner = null; ready = false }

abbrev pub no_heap : Heap
no_heap = record { at = λ w. no_entry; next = 0 }

abbrev pub as_whole : Value → ℤ
as_whole (whole n) = n
as_whole v = pos 0

abbrev pub as_truth : Value → Bool
as_truth (truth b) = b
as_truth v = false

abbrev pub as_thing : Value → Thing
as_thing (thing w) = w
as_thing v = null

abbrev pub as_store : Value → Heap
as_store (store h) = h
as_store v = no_heap

-- ---- stores

-- a reference below `next`
abbrev pub is_allocated : Heap → Thing → Bool
is_allocated h (reference o) = nat_lt o h.next
is_allocated h w = false

-- only what is allocated has a group as its owner, and that has a number below `next`
abbrev pub IsNumbered : Heap → Type 0
IsNumbered h = (w : Thing) (g : ℕ) → (h.at w).owner ≡ group_number g → (is_allocated h w ≡ true) × (nat_lt g h.next ≡ true)

-- The class and the length of each thing. Lengths are whole numbers of 32 bits.
pub record Table : Type 0 where
  pub class_of : Thing → ℕ
  pub length_of : Thing → ℕ
  pub short : (w : Thing) → nat_lt (length_of w) (2 ^ 31) ≡ true

-- A structure gives each constant a value of its sort, and has one table of classes and lengths.
pub record Structure : Type 0 where
  pub stores : ℕ → Heap
  pub wholes : ℕ → ℤ
  pub truths : ℕ → Bool
  pub things : ℕ → Thing
  pub table : Table
  pub numbered : (k : ℕ) → IsNumbered (stores k)
