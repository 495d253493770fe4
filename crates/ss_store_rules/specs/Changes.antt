-- Changes of a store, each with its checks in order: the new store, or the kind of the first check that fails.
use Rattle.std.specs.Prelude.{◌≡◌, ℕ, ℤ, pos, negsuc, List, [], ◌∷◌, ◌++◌, map, length, replicate, Bool, true, false, not, ◌==◌, ◌&&◌, ◌||◌, ◌+◌, ◌-◌, nat_lt, if◌then◌else◌, Option, Some, None, slice_get, slice_set, flat_map, reverse, Result, Ok, Err}
use Rattle.std.specs.List.{list_all}
use Rattle.ss_core.specs.declared.names.Kind.{Kind}
use Rattle.ss_core.specs.declared.names.Kind.TheVariants as kind
use Rattle.ss_core.specs.declared.names.Mark.{Mark}
use Rattle.ss_core.specs.declared.names.Mark.TheVariants as mark
use Rattle.ss_core.specs.declared.names.Ty.{Ty}
use Rattle.ss_core.specs.declared.names.Ty.TheVariants as ty
use Rattle.ss_core.specs.Tree.{ClassTree}
unfoldable pub use Rattle.ss_core.specs.Chain.{below}
pub use Rattle.ss_core.specs.Kinds.{element_type}
use Rattle.ss_core.specs.Chain.{is_declared, above, levels, DeclaredField, all_fields}
use Rattle.ss_store_rules.specs.declared.Value.{Value}
use Rattle.ss_store_rules.specs.declared.Value.TheVariants as value
use Rattle.ss_store_rules.specs.declared.Owner.{Owner}
use Rattle.ss_store_rules.specs.declared.Owner.TheVariants as owner
use Rattle.ss_store_rules.specs.declared.Refused.{Refused}
use Rattle.ss_store_rules.specs.Store.{Slot, Object, default_value}
use Rattle.ss_store_rules.specs.Reads.{same_owner, is_in_group, is_pair}

-- ---- classes and fields

-- `int[]`, `bool[]`, `object[]`, or the array of a declared class
abbrev pub is_array : List ClassTree → ℕ → Bool
is_array cs t = t == 1 || t == 2 || t == 3 || is_declared cs (t - 1)

-- The class that declares a field, its mark and its type. A number of no field counts as a field of `object`.
abbrev pub class_of_field : Option DeclaredField → ℕ
class_of_field None = 0
class_of_field (Some d) = d.class

abbrev pub mark_of_field : Option DeclaredField → Mark
mark_of_field None = mark.Plain
mark_of_field (Some d) = d.field.mark

abbrev pub type_of_field : Option DeclaredField → Ty
type_of_field None = ty.Int
type_of_field (Some d) = d.field.ty

abbrev pub field_class : List ClassTree → ℕ → ℕ
field_class cs f = class_of_field (slice_get (all_fields cs) f)

abbrev pub field_mark : List ClassTree → ℕ → Mark
field_mark cs f = mark_of_field (slice_get (all_fields cs) f)

abbrev pub field_type : List ClassTree → ℕ → Ty
field_type cs f = type_of_field (slice_get (all_fields cs) f)

-- ---- owners and levels

-- the pair of the object at o and the class t
abbrev pub owned_by : ℕ → ℕ → Owner
owned_by o t = owner.Owned o (record { 0 = t })

-- the object is owned by the one at o at the class t
abbrev pub is_owned : ℕ → ℕ → Object → Bool
is_owned o t x = is_pair o t x.owner

-- the level of the object is t or below it (JOT 2004)
abbrev pub packed : List ClassTree → Object → ℕ → Bool
packed cs x t = below cs x.level t

-- ---- what a change is

-- where the condition fails, the check does
abbrev pub check : Bool → Kind → Result (List Object) Kind → Result (List Object) Kind
check condition k r = if condition then r else Err k

-- what is done with an object, where there is one
abbrev pub with_object : (ℕ → Object → Result (List Object) Kind) → ℕ → Option Object → Result (List Object) Kind
with_object change o None = Err kind.Null
with_object change o (Some x) = change o x

-- what is done with the object at this position
abbrev pub at_object : List Object → ℕ → (ℕ → Object → Result (List Object) Kind) → Result (List Object) Kind
at_object s o change = with_object change o (slice_get s o)

-- what is done with the object to which the value refers, which isn't to be null
abbrev pub on_object : List Object → Value → (ℕ → Object → Result (List Object) Kind) → Result (List Object) Kind
on_object s (value.Obj o) change = at_object s o change
on_object s (value.Int n) change = Err kind.Null
on_object s (value.Bool b) change = Err kind.Null
on_object s value.Null change = Err kind.Null

-- each object from the position n on becomes what f makes of it
abbrev pub changed_from : ℕ → (ℕ → Object → Object) → List Object → List Object
changed_from n f [] = []
changed_from n f (x ∷ xs) = f n x ∷ changed_from (n + 1) f xs

abbrev pub changed : (ℕ → Object → Object) → List Object → List Object
changed f s = changed_from 0 f s

-- ---- unpack and pack (JOT 2004)

-- the object at o goes to the level above t, and what it owns at t is no longer committed
abbrev pub unpacked : List ClassTree → ℕ → ℕ → ℕ → Object → Object
unpacked cs o t q x = record x {
  level = if q == o then above cs t else x.level;
  committed = x.committed && not (is_owned o t x);
}

abbrev pub unpacking : List ClassTree → List Object → ℕ → ℕ → Object → Result (List Object) Kind
unpacking cs s t o x =
    check (x.level == t) kind.UnpackLevel
    (check (not x.committed) kind.UnpackCommitted
    (Ok (changed (unpacked cs o t) s)))

abbrev pub unpack_of : List ClassTree → List Object → Value → ℕ → Result (List Object) Kind
unpack_of cs s v t = on_object s v (unpacking cs s t)

-- the object at o goes to the level t, and what it owns at t is committed
abbrev pub repacked : ℕ → ℕ → ℕ → Object → Object
repacked o t q x = record x {
  level = if q == o then t else x.level;
  committed = x.committed || is_owned o t x;
}

-- what is owned is to be at its full level and not committed
abbrev pub may_be_committed : ℕ → ℕ → Object → Bool
may_be_committed o t x = not (is_owned o t x) || x.level == x.class && not x.committed

-- `holds s o t` says whether the invariants of the class t hold of the object at o
abbrev pub packing : List ClassTree → (List Object → ℕ → ℕ → Bool) → List Object → ℕ → ℕ → Object → Result (List Object) Kind
packing cs holds s t o x =
    check (x.level == above cs t) kind.PackLevel
    (check (holds s o t) kind.Invariant
    (check (list_all (may_be_committed o t) s) kind.PackOwned
    (Ok (changed (repacked o t) s))))

abbrev pub pack_of : List ClassTree → (List Object → ℕ → ℕ → Bool) → List Object → Value → ℕ → Result (List Object) Kind
pack_of cs holds s v t = on_object s v (packing cs holds s t)

-- ---- capture and join: a whole group gets an owner

abbrev pub regrouped : ℕ → Owner → ℕ → Object → Object
regrouped g w q x = record x { owner = if is_in_group g x.owner then w else x.owner }

-- what has this owner gets the pair of o and t
abbrev pub captured : List Object → ℕ → ℕ → Owner → Result (List Object) Kind
captured s o t (owner.Group g) = Ok (changed (regrouped g (owned_by o t)) s)
captured s o t (owner.Owned p u) = check (is_pair o t (owner.Owned p u)) kind.RepOwner (Ok s)

abbrev pub capture_of : List Object → ℕ → ℕ → ℕ → Result (List Object) Kind
capture_of s o t e = at_object s e (λ _ y. captured s o t y.owner)

-- the owner of o and that of e, whether e is committed
abbrev pub joined_apart : List Object → Owner → Owner → Bool → Result (List Object) Kind
joined_apart s w (owner.Group g) committed = Ok (changed (regrouped g w) s)
joined_apart s (owner.Group g) (owner.Owned p u) committed = check (not committed) kind.PeerOwner (Ok (changed (regrouped g (owner.Owned p u)) s))
joined_apart s (owner.Owned o t) (owner.Owned p u) committed = Err kind.PeerOwner

abbrev pub joined : List Object → Owner → Owner → Bool → Result (List Object) Kind
joined s w v committed = if same_owner w v then Ok s else joined_apart s w v committed

abbrev pub join_of : List Object → ℕ → ℕ → Result (List Object) Kind
join_of s o e = at_object s o (λ _ x. at_object s e (λ _ y. joined s x.owner y.owner y.committed))

-- ---- writes

-- each slot of the field has the value
abbrev pub with_content : ℕ → Value → Slot → Slot
with_content f v x = record x { content = if x.field == f then v else x.content }

abbrev pub with_field : List Slot → ℕ → Value → List Slot
with_field xs f v = map (with_content f v) xs

abbrev pub written : ℕ → ℕ → Value → ℕ → Object → Object
written o f v q x = record x { fields = if q == o then with_field x.fields f v else x.fields }

-- what the mark of a field asks of the owners, where the object at o points to the one at e; t declares the field
abbrev pub owners_for : Mark → List Object → ℕ → ℕ → ℕ → Result (List Object) Kind
owners_for mark.Plain s o t e = Ok s
owners_for mark.Rep s o t e = capture_of s o t e
owners_for mark.Peer s o t e = join_of s o e

-- a value that refers to nothing has no owner
abbrev pub with_owners : Mark → List Object → ℕ → ℕ → Value → Result (List Object) Kind
with_owners m s o t (value.Obj e) = owners_for m s o t e
with_owners m s o t (value.Int n) = Ok s
with_owners m s o t (value.Bool b) = Ok s
with_owners m s o t value.Null = Ok s

abbrev pub then_written : ℕ → ℕ → Value → Result (List Object) Kind → Result (List Object) Kind
then_written o f v (Ok s) = Ok (changed (written o f v) s)
then_written o f v (Err k) = Err k

abbrev pub writing : List ClassTree → List Object → ℕ → Value → ℕ → Object → Result (List Object) Kind
writing cs s f v o x =
    check (not (packed cs x (field_class cs f))) kind.WriteLevel
    (then_written o f v (with_owners (field_mark cs f) s o (field_class cs f) v))

abbrev pub write_of : List ClassTree → List Object → Value → ℕ → Value → Result (List Object) Kind
write_of cs s w f v = on_object s w (writing cs s f v)

abbrev pub element_written : ℕ → ℕ → Value → ℕ → Object → Object
element_written a i v q x = record x { elements = if q == a then slice_set x.elements i v else x.elements }

abbrev pub writing_element : List Object → ℤ → Value → ℕ → Object → Result (List Object) Kind
writing_element s (pos i) v a x =
    check (nat_lt i (length x.elements)) kind.Index
    (check (not x.committed) kind.WriteCommitted
    (Ok (changed (element_written a i v) s)))
writing_element s (negsuc i) v a x = Err kind.Index

abbrev pub write_element_of : List Object → Value → ℤ → Value → Result (List Object) Kind
write_element_of s a i v = on_object s a (writing_element s i v)

-- ---- new objects

-- slots for those of the fields, which have the numbers from n on, that the class t declares
abbrev pub slots_from : ℕ → ℕ → List DeclaredField → List Slot
slots_from t n [] = []
slots_from t n (d ∷ ds) =
    if d.class == t then record { field = n; content = default_value d.field.ty } ∷ slots_from t (n + 1) ds
    else slots_from t (n + 1) ds

-- the fields of the topmost class, then those of the class below it, and so on down to the class itself: a field has one place in
-- every object
abbrev pub new_fields : List ClassTree → ℕ → List Slot
new_fields cs c = flat_map (λ t. slots_from t 0 (all_fields cs)) (reverse (levels cs c))

-- a new object at this position, in a group of its own
abbrev pub new_object : List ClassTree → ℕ → ℕ → Object
new_object cs c position = record {
  class = c;
  fields = new_fields cs c;
  elements = [];
  level = 0;
  committed = false;
  owner = owner.Group position;
  ready = false;
}

abbrev pub new_object_of : List ClassTree → List Object → ℕ → List Object
new_object_of cs s c = s ++ new_object cs c (length s) ∷ []

-- a new array of n elements, which has no invariant: it is at its full level and ready
abbrev pub new_array : ℕ → ℕ → ℕ → Object
new_array t n position = record {
  class = t;
  fields = [];
  elements = replicate n (default_value (element_type t));
  level = t;
  committed = false;
  owner = owner.Group position;
  ready = true;
}

abbrev pub new_array_of : List Object → ℕ → ℤ → Result (List Object) Kind
new_array_of s t (pos n) = Ok (s ++ new_array t n (length s) ∷ [])
new_array_of s t (negsuc n) = Err kind.NegativeLength

-- ---- ready (OOPSLA 2003)

abbrev pub made_ready : ℕ → ℕ → Object → Object
made_ready o q x = record x { ready = x.ready || q == o }

abbrev pub ready_of : List Object → ℕ → List Object
ready_of s o = changed (made_ready o) s

-- ---- calls

-- what a call did: the new store, or the check that failed and the store as it was
abbrev pub IsChange : List Object → List Object → Result (Unit {0}) Refused → Result (List Object) Kind → Type 0
IsChange old new (Ok u) r = r ≡ Ok new
IsChange old new (Err e) r = (r ≡ Err e.kind) × (new ≡ old)
