-- Good stores: what every change keeps.
use Rattle.std.specs.Prelude.{◌≡◌, ℕ, ◌^◌, ◌<◌, ◌≤◌, List, map, length, Bool, true, false, ◌||◌, nat_lt, Option, Some, None, slice_get}
use Rattle.ss_core.specs.declared.names.Mark.TheVariants as mark
use Rattle.ss_core.specs.declared.names.Ty.{Ty}
use Rattle.ss_core.specs.declared.names.Ty.TheVariants as ty
use Rattle.ss_core.specs.Tree.{ClassTree}
pub use Rattle.ss_core.specs.Types.{is_non_null}
use Rattle.ss_core.specs.Chain.{is_declared, sub, below}
use Rattle.ss_store_rules.specs.declared.Value.{Value}
use Rattle.ss_store_rules.specs.declared.Value.TheVariants as value
use Rattle.ss_store_rules.specs.declared.Owner.TheVariants as owner
use Rattle.ss_store_rules.specs.Store.{Slot, Object, field_value}
use Rattle.ss_store_rules.specs.Numbers.{fits}
use Rattle.ss_store_rules.specs.Changes.{is_array, element_type, field_class, field_mark, field_type, owned_by, packed, new_fields}

-- ---- values

-- there is an object, of the class t or below it
abbrev pub is_of_class : List ClassTree → ℕ → Option Object → Bool
is_of_class cs t None = false
is_of_class cs t (Some x) = sub cs x.class t

-- the value is of the type; null may stand at each class
abbrev pub has_type : List ClassTree → List Object → Ty → Value → Bool
has_type cs s ty.Int (value.Int n) = fits n
has_type cs s ty.Bool (value.Bool b) = true
has_type cs s ty.Null value.Null = true
has_type cs s (ty.Ref t non_null) value.Null = true
has_type cs s (ty.Ref t non_null) (value.Obj o) = is_of_class cs t.0 (slice_get s o)
has_type cs s t v = false

-- each object to which the value refers is ready
abbrev pub IsReady : List Object → Value → Type 0
IsReady s v = (o : ℕ) (x : Object) → v ≡ value.Obj o → slice_get s o ≡ Some x → x.ready ≡ true

-- the numbers of the fields
abbrev pub numbers : List Slot → List ℕ
numbers xs = map (λ x. x.field) xs

-- The values of an object x of the store s.
pub record AreValues (cs : List ClassTree) (s : List Object) (x : Object) : Type 0 where
  -- its class is a declared one or that of an array
  pub class : is_declared cs x.class || is_array cs x.class ≡ true
  -- it has the fields that its class and those above it declare
  pub slots : numbers x.fields ≡ numbers (new_fields cs x.class)
  -- arrays alone have elements
  pub plain : is_array cs x.class ≡ false → length x.elements ≡ 0
  -- and no more of them than a whole number counts
  pub short : nat_lt (length x.elements) (2 ^ 31) ≡ true
  -- each field and each element has a value of its type, and a reference is allocated
  pub fields : (f : ℕ) (v : Value) → field_value x f ≡ Some v → has_type cs s (field_type cs f) v ≡ true
  pub elements : (i : ℕ) (v : Value) → slice_get x.elements i ≡ Some v → has_type cs s (element_type x.class) v ≡ true
  -- the non-null fields of a ready object aren't null
  pub non_null : x.ready ≡ true → (f : ℕ) → field_value x f ≡ Some value.Null → is_non_null (field_type cs f) ≡ false
  -- a field or an element refers to ready objects
  pub ready_fields : (f : ℕ) (v : Value) → field_value x f ≡ Some v → IsReady s v
  pub ready_elements : (i : ℕ) (v : Value) → slice_get x.elements i ≡ Some v → IsReady s v

-- ---- objects

-- `holds s o t` says whether the invariants of the class t hold of the object at o
abbrev pub Invariants : Type 0
Invariants = List Object → ℕ → ℕ → Bool

-- The object x at the position o of the store s.
pub record IsFine (cs : List ClassTree) (holds : Invariants) (s : List Object) (o : ℕ) (x : Object) : Type 0 where
  -- the invariants of each class at which it is packed hold
  pub invariants : (t : ℕ) → packed cs x t ≡ true → holds s o t ≡ true
  -- it is committed at its full level only
  pub full : x.committed ≡ true → x.level ≡ x.class
  -- it is committed exactly where its owner is packed at the owner's class
  pub owned : (p t : ℕ) → x.owner ≡ owned_by p t → (y : Object) → slice_get s p ≡ Some y → x.committed ≡ packed cs y t
  -- a member of a group isn't committed
  pub grouped : (g : ℕ) → x.owner ≡ owner.Group g → x.committed ≡ false
  -- it owns what its rep fields refer to, at the class that declares the field
  pub reps : (f v : ℕ) → field_value x f ≡ Some (value.Obj v) → field_mark cs f ≡ mark.Rep → (y : Object) → slice_get s v ≡ Some y → y.owner ≡ owned_by o (field_class cs f)
  -- what its peer fields refer to has its owner
  pub peers : (f v : ℕ) → field_value x f ≡ Some (value.Obj v) → field_mark cs f ≡ mark.Peer → (y : Object) → slice_get s v ≡ Some y → y.owner ≡ x.owner
  -- its level is a level of its class
  pub level : below cs x.class x.level ≡ true
  -- an array is at its full level
  pub array : is_array cs x.class ≡ true → x.level ≡ x.class
  -- its owner is allocated, and its group has the number of a position
  pub owner_allocated : (p t : ℕ) → x.owner ≡ owned_by p t → p < length s
  pub group_number : (g : ℕ) → x.owner ≡ owner.Group g → g < length s
  pub values : AreValues cs s x

abbrev pub IsGood : List ClassTree → Invariants → List Object → Type 0
IsGood cs holds s = (o : ℕ) (x : Object) → slice_get s o ≡ Some x → IsFine cs holds s o x

-- ---- what the invariants may look at (ECOOP 2004)

-- q is owned by o at a class that t has as level, or by an object inside at a level of its class
pub data Inside (cs : List ClassTree) (s : List Object) (o t : ℕ) : ℕ → Type 0 where
  Direct : {q u : ℕ} {x : Object} → slice_get s q ≡ Some x → x.owner ≡ owned_by o u → below cs t u ≡ true → Inside cs s o t q
  Deeper : {q r u : ℕ} {x y : Object} → Inside cs s o t r → slice_get s r ≡ Some y → below cs y.class u ≡ true → slice_get s q ≡ Some x → x.owner ≡ owned_by r u → Inside cs s o t q

-- What two stores share, as far as the invariants of t may look from o.
pub record LooksSame (cs : List ClassTree) (s s' : List Object) (o t : ℕ) : Type 0 where
  -- each object is still there, with its class and its length
  pub allocated : length s ≤ length s'
  pub class : (q : ℕ) (x x' : Object) → slice_get s q ≡ Some x → slice_get s' q ≡ Some x' → x.class ≡ x'.class
  pub size : (q : ℕ) (x x' : Object) → slice_get s q ≡ Some x → slice_get s' q ≡ Some x' → length x.elements ≡ length x'.elements
  -- the object's own fields that t or a class above it declares
  pub own : (x x' : Object) (f : ℕ) → slice_get s o ≡ Some x → slice_get s' o ≡ Some x' → below cs t (field_class cs f) ≡ true → field_value x f ≡ field_value x' f
  -- the fields and elements of what is inside
  pub inside : (q : ℕ) (x x' : Object) → Inside cs s o t q → slice_get s q ≡ Some x → slice_get s' q ≡ Some x' → (x.fields ≡ x'.fields) × (x.elements ≡ x'.elements)

-- What holds of an object that is there rests on what its invariants may look at.
abbrev pub IsLocal : List ClassTree → Invariants → Type 0
IsLocal cs holds = (s s' : List Object) (o t : ℕ) → o < length s → IsGood cs holds s → LooksSame cs s s' o t → holds s o t ≡ holds s' o t

-- A class that isn't declared has no invariant.
abbrev pub IsFree : List ClassTree → Invariants → Type 0
IsFree cs holds = (s : List Object) (o t : ℕ) → is_declared cs t ≡ false → holds s o t ≡ true
