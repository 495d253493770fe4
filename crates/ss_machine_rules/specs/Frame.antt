-- The frame condition (JOT 2004): between the entry of a body and a later store nothing changes but what is named or free, and what is new
-- or free is at its full level. The locations where that fails are listed; it holds where there is none.
use Rattle.std.specs.Prelude.{ℕ, List, [], ◌∷◌, ◌++◌, length, drop, flat_map, Bool, true, false, not, ◌==◌, ◌&&◌, ◌||◌, ◌+◌, if◌then◌else◌, slice_get, unwrap_or, Ok, Err}
use Rattle.std.specs.Bool.{beq}
use Rattle.std.specs.List.{list_any}
use Rattle.ss_core.specs.Tree.{ClassTree, ExprTree, LocalTree, NamedTree, FieldOf, AllOf, ElementsOf, UptoOf, BodyTree}
use Rattle.ss_core.specs.Chain.{below}
use Rattle.ss_store_rules.specs.declared.Value.{Value}
use Rattle.ss_store_rules.specs.declared.Value.TheVariants as value
use Rattle.ss_store_rules.specs.Store.{Slot, Object}
use Rattle.ss_store_rules.specs.Numbers.{Outcome}
use Rattle.ss_store_rules.specs.Reads.{same_value, is_object_with, same_owner, is_group, is_pair_upto, object_at, is_allocated, field_read, element_read, is_full}
use Rattle.ss_store_rules.specs.Values.{Setting, setting, at_entry, value_of}
use Rattle.ss_store_rules.specs.Changes.{field_class}
use Rattle.ss_store_rules.specs.Locals.{this_types}
use Rattle.ss_machine_rules.specs.declared.Location.{Location}
use Rattle.ss_machine_rules.specs.declared.Location.TheVariants as location
use Rattle.ss_machine_rules.specs.declared.Named.{Named}
use Rattle.ss_machine_rules.specs.declared.Named.TheVariants as named

-- What the frame condition speaks of: a body and its locals, of which the arguments are as at its entry, the store at its entry and that of
-- now, and the objects of enclosing exposes, which are treated apart.
pub record Span : Type 0 where
  pub classes : List ClassTree
  pub body : BodyTree
  pub locals : List Value
  pub entry : List Object
  pub now : List Object
  pub outside : List Value

-- ---- what is named

-- the value of an expression as it was at the entry; one that is undefined counts as null
abbrev pub defined_value : Outcome → Value
defined_value (Ok v) = v
defined_value (Err u) = value.Null

abbrev pub value_at_entry : Span → ExprTree → Value
value_at_entry c e = defined_value (value_of e (at_entry (setting c.classes c.now c.entry c.locals)))

-- what a term names, where its expression refers to the object at o
abbrev pub named_of : NamedTree → ℕ → Named
named_of (FieldOf e f) o = named.Field o (record { 0 = f })
named_of (AllOf e) o = named.All o
named_of (ElementsOf e) o = named.Elements o
named_of (UptoOf e t) o = named.Upto o (record { 0 = t })

abbrev pub subject_of : NamedTree → ExprTree
subject_of (FieldOf e f) = e
subject_of (AllOf e) = e
subject_of (ElementsOf e) = e
subject_of (UptoOf e t) = e

-- a value that refers to nothing names nothing
abbrev pub named_by : NamedTree → Value → List Named
named_by n (value.Obj o) = named_of n o ∷ []
named_by n (value.Int i) = []
named_by n (value.Bool b) = []
named_by n value.Null = []

-- what the `modifies` clause names, by what its terms refer to at the entry
abbrev pub all_named : Span → List Named
all_named c = flat_map (λ n. named_by n (value_at_entry c (subject_of n))) c.body.named

abbrev pub names_field : List ClassTree → ℕ → ℕ → Named → Bool
names_field cs o f (named.Field q g) = q == o && g.0 == f
names_field cs o f (named.All q) = q == o
names_field cs o f (named.Elements q) = false
names_field cs o f (named.Upto q t) = q == o && below cs t.0 (field_class cs f)

abbrev pub names_elements : ℕ → Named → Bool
names_elements o (named.Field q g) = false
names_elements o (named.All q) = false
names_elements o (named.Elements q) = q == o
names_elements o (named.Upto q t) = false

abbrev pub names_level : ℕ → Named → Bool
names_level o (named.Field q g) = false
names_level o (named.All q) = q == o
names_level o (named.Elements q) = false
names_level o (named.Upto q t) = q == o

-- ---- what is free

-- the values of the captured parameters
abbrev pub captured_among : List LocalTree → List Value → List Value
captured_among [] vs = []
captured_among (p ∷ ps) [] = []
captured_among (p ∷ ps) (v ∷ vs) = if p.captured then v ∷ captured_among ps vs else captured_among ps vs

abbrev pub captured_values : Span → List Value
captured_values c = captured_among c.body.params (drop (length (this_types c.body)) c.locals)

-- the object was in the group of what the value refers to
abbrev pub is_in_group_with : Span → Object → Value → Bool
is_in_group_with c x v = is_object_with v (λ e. is_allocated c.entry e && is_group x.owner && same_owner x.owner (object_at c.entry e).owner)

-- the value of a local; one that is missing reads as null
abbrev pub local_at : List Value → ℕ → Value
local_at locals x = unwrap_or (slice_get locals x) value.Null

abbrev pub this_of : List Value → Value
this_of locals = local_at locals 0

-- the object was owned by the `this` of a constructor, at its class or one above
abbrev pub is_owned_by_new : Span → Object → Bool
is_owned_by_new c x = c.body.flags.ctor && is_object_with (this_of c.locals) (λ o. is_pair_upto c.classes o c.body.class x.owner)

-- It was committed at the entry, in the group of a captured argument, or owned by the object that is constructed.
abbrev pub is_free : Span → Object → Bool
is_free c x = x.committed || list_any (is_in_group_with c x) (captured_values c) || is_owned_by_new c x

-- ---- what isn't kept

abbrev pub refers_to : ℕ → Value → Bool
refers_to o v = is_object_with v (λ q. q == o)

abbrev pub is_outside : Span → ℕ → Bool
is_outside c o = list_any (refers_to o) c.outside

-- the location, unless it is kept
abbrev pub unless : Bool → Location → List Location
unless kept l = if kept then [] else l ∷ []

abbrev pub unkept_field : Span → ℕ → Slot → List Location
unkept_field c o y = unless (same_value y.content (field_read (object_at c.entry o) y.field) || list_any (names_field c.classes o y.field) (all_named c)) (location.Field o (record { 0 = y.field }))

-- the elements from the index i on
abbrev pub unkept_elements_from : Span → ℕ → ℕ → List Value → List Location
unkept_elements_from c o i [] = []
unkept_elements_from c o i (v ∷ vs) = unless (same_value v (element_read (object_at c.entry o) i)) (location.Element o i) ++ unkept_elements_from c o (i + 1) vs

abbrev pub unkept_elements : Span → ℕ → List Value → List Location
unkept_elements c o vs = if list_any (names_elements o) (all_named c) then [] else unkept_elements_from c o 0 vs

abbrev pub unkept_level : Span → ℕ → Object → List Location
unkept_level c o y = unless (y.level == (object_at c.entry o).level || list_any (names_level o) (all_named c) || is_outside c o) (location.Level o)

abbrev pub unkept_committed : Span → ℕ → Object → List Location
unkept_committed c o y = unless (beq y.committed (object_at c.entry o).committed) (location.Committed o)

abbrev pub unkept_owner : Span → ℕ → Object → List Location
unkept_owner c o y = unless (same_owner y.owner (object_at c.entry o).owner) (location.OwnerOf o)

-- of an object that was there and isn't free
abbrev pub unkept_of_old : Span → ℕ → Object → List Location
unkept_of_old c o y = flat_map (unkept_field c o) y.fields ++ unkept_elements c o y.elements ++ unkept_level c o y ++ unkept_committed c o y ++ unkept_owner c o y

-- a new or a free object is at its full level
abbrev pub unkept_of_new : Span → ℕ → Object → List Location
unkept_of_new c o y = unless (is_full y || is_outside c o) (location.Level o)

abbrev pub is_old : Span → ℕ → Bool
is_old c o = is_allocated c.entry o && not (is_free c (object_at c.entry o))

abbrev pub unkept_at : Span → ℕ → Object → List Location
unkept_at c o y = if is_old c o then unkept_of_old c o y else unkept_of_new c o y

-- of the objects from the position o on
abbrev pub unkept_from : Span → ℕ → List Object → List Location
unkept_from c o [] = []
unkept_from c o (y ∷ ys) = unkept_at c o y ++ unkept_from c (o + 1) ys

-- the locations that aren't kept, in order of the objects
abbrev pub unkept : Span → List Location
unkept c = unkept_from c 0 c.now

abbrev pub is_empty : List Location → Bool
is_empty [] = true
is_empty (l ∷ ls) = false

abbrev pub is_kept : Span → Bool
is_kept c = is_empty (unkept c)
