-- What each change of a store does, without its checks. It acts on null and on references that aren't allocated too.
use Rattle.std.specs.Prelude.{ℕ, suc, ℤ, Bool, true, false, not, ◌==◌, ◌&&◌, ◌||◌, if◌then◌else◌}
use Rattle.std.specs.Ordering.{int_eq}
use Rattle.ss_core.specs.Tree.{ClassTree}
use Rattle.ss_core.specs.Chain.{above}
use Rattle.std.specs.Prelude.{List}
use Rattle.ss_logic.specs.Values.{Thing, null, reference, class_name, owner_pair, group_number, same_thing, is_group, Cells, Entry, Heap, Value, whole, truth, thing, store, no_cells}

-- each entry becomes what the change says
abbrev pub changed : (Thing → Entry → Entry) → Heap → Heap
changed change h = record { at = λ w. change w (h.at w); next = h.next }

-- the value in the cells of its sort, at these places
abbrev pub put_cell : {Place : Type 0} → (Place → Bool) → Value → Cells Place → Cells Place
put_cell here (whole n) c = record c { wholes = λ i. if here i then n else c.wholes i }
put_cell here (truth b) c = record c { truths = λ i. if here i then b else c.truths i }
put_cell here (thing w) c = record c { things = λ i. if here i then w else c.things i }
put_cell here (store h) c = c

-- ---- writes

abbrev pub field_set : Thing → ℕ → Value → Thing → Entry → Entry
field_set o f v w x = record x { fields = put_cell (λ g. same_thing w o && g == f) v x.fields }

abbrev pub element_put : Thing → ℤ → Value → Thing → Entry → Entry
element_put a i v w x = record x { elements = put_cell (λ j. same_thing w a && int_eq j i) v x.elements }

-- ---- levels (JOT 2004)

-- the owner is the pair of this object and this class
abbrev pub is_owned : Thing → ℕ → Entry → Bool
is_owned o t x = same_thing x.owner (owner_pair o (class_name t))

-- the object goes to the level above t, and what it owns at t is no longer committed
abbrev pub unpacked : List ClassTree → Thing → ℕ → Thing → Entry → Entry
unpacked cs o t w x = record x {
  level = if same_thing w o then above cs t else x.level;
  committed = x.committed && not (is_owned o t x);
}

-- the object goes to the level t, and what it owns at t is committed
abbrev pub packed : Thing → ℕ → Thing → Entry → Entry
packed o t w x = record x {
  level = if same_thing w o then t else x.level;
  committed = x.committed || is_owned o t x;
}

-- ---- owners

-- the owner of what had this one, where the members of the group get another one
abbrev pub moved : Thing → Thing → Thing → Thing
moved group new owner = if is_group group && same_thing owner group then new else owner

abbrev pub regrouped : Thing → Thing → Thing → Entry → Entry
regrouped group new w x = record x { owner = moved group new x.owner }

-- the owner that e shares with its group; null is in no group
abbrev pub shared_owner : Heap → Thing → Thing
shared_owner h e = if same_thing e null then null else (h.at e).owner

-- the group of e gets the pair of o and t; what is in no group is no member of one
abbrev pub captured : Heap → Thing → ℕ → Thing → Heap
captured h o t e = changed (regrouped (shared_owner h e) (owner_pair o (class_name t))) h

-- the owner of what had this one, where e, of the owner v, joins the owner w: the group of e gets w; where v is no group, the group w
-- gets v; null joins nothing
abbrev pub joined_owner : Thing → Thing → Thing → Thing → Thing
joined_owner e w v owner =
    if same_thing e null then owner
    else if is_group v then moved v w owner
    else moved w v owner

abbrev pub rejoined : Thing → Thing → Thing → Thing → Entry → Entry
rejoined e w v q x = record x { owner = joined_owner e w v x.owner }

abbrev pub joined : Heap → Thing → Thing → Heap
joined h o e = changed (rejoined e (h.at o).owner (h.at e).owner) h

-- ---- new objects

-- one more object, which is the next reference
abbrev pub with_new : Entry → Heap → Heap
with_new new h = record { at = λ w. if same_thing w (reference h.next) then new else h.at w; next = suc h.next }

-- with default fields, at the level `object`, in a group of its own
abbrev pub new_object : ℕ → Entry
new_object position = record { fields = no_cells; elements = no_cells; level = 0; committed = false; owner = group_number position; ready = false }

-- with default elements, at its full level, ready
abbrev pub new_array : ℕ → ℕ → Entry
new_array t position = record { fields = no_cells; elements = no_cells; level = t; committed = false; owner = group_number position; ready = true }

abbrev pub made_ready : Thing → Thing → Entry → Entry
made_ready o w x = record x { ready = x.ready || same_thing w o }
