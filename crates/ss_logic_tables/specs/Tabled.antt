-- The heap whose objects are those of a list.
use Rattle.std.specs.Prelude.{◌≡◌, ℤ, pos, negsuc, List, length, Bool, Option, Some, None, if◌then◌else◌, slice_get}
use Rattle.ss_core.specs.Tree.{ClassTree}
use Rattle.ss_store_rules.specs.declared.Value.{Value as ObjectValue}
use Rattle.ss_store_rules.specs.declared.Value.TheVariants as value
use Rattle.ss_store_rules.specs.declared.Owner.{Owner}
use Rattle.ss_store_rules.specs.declared.Owner.TheVariants as owner
use Rattle.ss_store_rules.specs.Store.{Object, field_value}
use Rattle.ss_logic.specs.Values.{Thing, null, reference, class_name, group_number, owner_pair, Cells, Entry, Heap, Table, no_entry, is_allocated, IsNumbered}
use Rattle.ss_logic.specs.Objects.{objects_of, IsGoodStore}

-- The heap is good, it is numbered, and these are its objects.
pub record IsStoreOf (cs : List ClassTree) (table : Table) (h : Heap) (s : List Object) : Type 0 where
  pub objects : objects_of cs table h ≡ s
  pub good : IsGoodStore cs table h
  pub numbered : IsNumbered h

-- ---- the value of an object, or else what stood there

abbrev pub whole_or : ℤ → Option ObjectValue → ℤ
whole_or old (Some (value.Int n)) = n
whole_or old v = old

abbrev pub truth_or : Bool → Option ObjectValue → Bool
truth_or old (Some (value.Bool b)) = b
truth_or old v = old

abbrev pub thing_or : Thing → Option ObjectValue → Thing
thing_or old (Some (value.Obj o)) = reference o
thing_or old (Some value.Null) = null
thing_or old v = old

-- each place has the value that is there, in the cells of its sort
abbrev pub overlaid : {Place : Type 0} → (Place → Option ObjectValue) → Cells Place → Cells Place
overlaid values c = record {
  wholes = λ i. whole_or (c.wholes i) (values i);
  truths = λ i. truth_or (c.truths i) (values i);
  things = λ i. thing_or (c.things i) (values i);
}

-- ---- objects

abbrev pub thing_of_owner : Owner → Thing
thing_of_owner (owner.Group g) = group_number g
thing_of_owner (owner.Owned o t) = owner_pair (reference o) (class_name t.0)

abbrev pub element_value : Object → ℤ → Option ObjectValue
element_value x (pos i) = slice_get x.elements i
element_value x (negsuc i) = None

-- the entry of an object, over one of before
abbrev pub entry_of : Object → Entry → Entry
entry_of x old = record {
  fields = overlaid (field_value x) old.fields;
  elements = overlaid (element_value x) old.elements;
  level = x.level;
  committed = x.committed;
  owner = thing_of_owner x.owner;
  ready = x.ready;
}

abbrev pub entry_or_none : Option Object → Entry → Entry
entry_or_none (Some x) old = entry_of x old
entry_or_none None old = no_entry

-- what isn't allocated has no entry
abbrev pub entry_before : Heap → Thing → Entry
entry_before h w = if is_allocated h w then h.at w else no_entry

abbrev pub entry_in : Heap → List Object → Thing → Entry
entry_in h s (reference o) = entry_or_none (slice_get s o) (entry_before h (reference o))
entry_in h s w = no_entry

-- The heap of these objects. Where they have nothing, as in a field that an object doesn't have, it is like the heap h.
abbrev pub tabled : Heap → List Object → Heap
tabled h s = record { at = entry_in h s; next = length s }
