-- The store of objects that a store of a structure tables, and when it is good.
use Rattle.std.specs.Prelude.{◌≡◌, ℕ, zero, suc, ◌+◌, ◌-◌, ℤ, pos, List, [], ◌∷◌, map, Bool, true, false, not, ◌==◌, ◌&&◌, ◌||◌, nat_lt, if◌then◌else◌}
use Rattle.ss_core.specs.declared.names.Ty.{Ty}
use Rattle.ss_core.specs.declared.names.Ty.TheVariants as ty
use Rattle.ss_core.specs.Tree.{ClassTree}
use Rattle.ss_core.specs.Chain.{sub}
use Rattle.ss_store_rules.specs.declared.Value.TheVariants as value
use Rattle.ss_store_rules.specs.declared.Value.{Value as ObjectValue}
use Rattle.ss_store_rules.specs.declared.Owner.{Owner}
use Rattle.ss_store_rules.specs.declared.Owner.TheVariants as owner
use Rattle.ss_store_rules.specs.Store.{Slot, Object}
use Rattle.ss_store_rules.specs.Numbers.{fits}
use Rattle.ss_store_rules.specs.Changes.{is_array, element_type, field_type, owned_by, new_fields}
use Rattle.ss_store_rules.specs.Good.{IsGood}
use Rattle.ss_store_rules.specs.Admissible.{invariants_hold}
use Rattle.ss_logic.specs.Values.{Thing, null, reference, class_name, group_number, owner_pair, Cells, Entry, Heap, Table, Value, whole, truth, thing, store}

-- a thing that is no value of a program's reference counts as a number, which stands in no place for references
abbrev pub value_of_thing : Thing → ObjectValue
value_of_thing (reference o) = value.Obj o
value_of_thing null = value.Null
value_of_thing w = value.Int (pos 0)

-- the value of a term as one of a field
abbrev pub object_value : Value → ObjectValue
object_value (whole n) = value.Int n
object_value (truth b) = value.Bool b
object_value (thing w) = value_of_thing w
object_value (store h) = value.Null

-- what stands at this place, of the type
abbrev pub content : {Place : Type 0} → Ty → Cells Place → Place → ObjectValue
content ty.Int c i = value.Int (c.wholes i)
content ty.Bool c i = value.Bool (c.truths i)
content ty.Null c i = value.Null
content (ty.Ref t non_null) c i = value_of_thing (c.things i)

-- an owner that is neither a group nor a pair of an object and a class counts as that of the object at `next`, which no store has
abbrev pub owner_of_thing : ℕ → Thing → Owner
owner_of_thing next (group_number g) = owner.Group g
owner_of_thing next (owner_pair (reference o) (class_name t)) = owned_by o t
owner_of_thing next w = owned_by next 0

-- each field with what the entry has for it
abbrev pub filled : List ClassTree → Entry → Slot → Slot
filled cs x slot = record slot { content = content (field_type cs slot.field) x.fields slot.field }

-- n elements of the type, from the index i on
abbrev pub elements_from : Ty → Entry → ℕ → ℕ → List ObjectValue
elements_from t x i zero = []
elements_from t x i (suc n) = content t x.elements (pos i) ∷ elements_from t x (i + 1) n

-- arrays alone have elements
abbrev pub element_count : List ClassTree → Table → ℕ → ℕ
element_count cs table o = if is_array cs (table.class_of (reference o)) then table.length_of (reference o) else 0

abbrev pub object_from : List ClassTree → Table → Heap → ℕ → Entry → Object
object_from cs table h o x = record {
  class = table.class_of (reference o);
  fields = map (filled cs x) (new_fields cs (table.class_of (reference o)));
  elements = elements_from (element_type (table.class_of (reference o))) x 0 (element_count cs table o);
  level = x.level;
  committed = x.committed;
  owner = owner_of_thing h.next x.owner;
  ready = x.ready;
}

abbrev pub object_in : List ClassTree → Table → Heap → ℕ → Object
object_in cs table h o = object_from cs table h o (h.at (reference o))

-- n objects, from the reference o on
abbrev pub objects_from : List ClassTree → Table → Heap → ℕ → ℕ → List Object
objects_from cs table h o zero = []
objects_from cs table h o (suc n) = object_in cs table h o ∷ objects_from cs table h (o + 1) n

-- the objects below `next`, in order
unfoldable pub objects_of : List ClassTree → Table → Heap → List Object
objects_of cs table h = objects_from cs table h 0 h.next

-- ---- elements. Each array has one at each index, of each sort; a good store asks of all of them what it asks of those within the
-- array's length.

-- `object[]` or the array of a declared class
abbrev pub is_array_of_references : List ClassTree → ℕ → Bool
is_array_of_references cs t = is_array cs t && not (t == 1) && not (t == 2)

-- what the elements of an array of references are of
abbrev pub element_class : ℕ → ℕ
element_class t = if t == 3 then 0 else t - 1

-- null, or an allocated object that is ready and of the class that an array of the class t asks for
abbrev pub is_element_of : List ClassTree → Table → Heap → ℕ → Thing → Bool
is_element_of cs table h t null = true
is_element_of cs table h t (reference o) = nat_lt o h.next && (h.at (reference o)).ready && (not (is_array_of_references cs t) || sub cs (table.class_of (reference o)) (element_class t))
is_element_of cs table h t w = false

-- A store of a structure is good.
pub record IsGoodStore (cs : List ClassTree) (table : Table) (h : Heap) : Type 0 where
  -- the store of its objects is, with the invariants of the program
  pub objects : IsGood cs (invariants_hold cs) (objects_of cs table h)
  -- each element of an allocated object is in range
  pub whole_elements : (o : ℕ) (i : ℤ) → nat_lt o h.next ≡ true → fits ((h.at (reference o)).elements.wholes i) ≡ true
  pub elements : (o : ℕ) (i : ℤ) → nat_lt o h.next ≡ true → is_element_of cs table h (table.class_of (reference o)) ((h.at (reference o)).elements.things i) ≡ true
