-- Tables of the classes and the lengths of a store.
use Rattle.std.proofs.Common.{◌≡◌, ℕ, ◌^◌, List, length, true, Option, Some, None, refl, ◌∙◌, ap}
use Rattle.std.specs.Prelude.{slice_get, nat_lt}
use Rattle.ss_core.specs.Tree.{ClassTree, CoreTree}
use Rattle.ss_store_rules.specs.Store.{Object}
use Rattle.ss_store_rules.specs.Reads.{object_at, no_object}
use Rattle.ss_store_rules.specs.Changes.{is_array}
use Rattle.ss_machine_rules.specs.Good.{IsGoodStore}
use Rattle.ss_logic.specs.Values.{Thing, null, reference, class_name, group_number, owner_pair, Table}
use Rattle.ss_sound_outcomes.specs.Points.{HasGrown, Fits}

pub fits_before : (cs : List ClassTree) (table : Table) (s z : List Object) → HasGrown s z → Fits cs table z → Fits cs table s
fits_before cs table s z grown fits = record {
  class = λ o x e. let r = grown.older o x e in fits.class o r.object r.there ∙ r.class;
  size = λ o x e array. let r = grown.older o x e in fits.size o r.object r.there (ap (is_array cs) r.class ∙ array) ∙ r.size;
}

-- the object at the place of a reference
abbrev object_of : List Object → Thing → Object
object_of s (reference o) = object_at s o
object_of s null = no_object
object_of s (class_name t) = no_object
object_of s (group_number g) = no_object
object_of s (owner_pair p t) = no_object

at_there : (s : List Object) (o : ℕ) (x : Object) → slice_get s o ≡ Some x → object_at s o ≡ x
at_there s o x e = rw e refl

module _ (s : List Object) (short : (o : ℕ) (x : Object) → slice_get s o ≡ Some x → nat_lt (length x.elements) (2 ^ 31) ≡ true) where
  short_at : (o : ℕ) (q : Option Object) → slice_get s o ≡ q → nat_lt (length (object_at s o).elements) (2 ^ 31) ≡ true
  short_at o None e = rw e refl
  short_at o (Some x) e = rw e (short o x e)

  short_of : (w : Thing) → nat_lt (length (object_of s w).elements) (2 ^ 31) ≡ true
  short_of (reference o) = short_at o (slice_get s o) refl
  short_of null = refl
  short_of (class_name t) = refl
  short_of (group_number g) = refl
  short_of (owner_pair p t) = refl

pub short_table : (cs : List ClassTree) (s : List Object) → ((o : ℕ) (x : Object) → slice_get s o ≡ Some x → nat_lt (length x.elements) (2 ^ 31) ≡ true) → (table : Table) × Fits cs table s
short_table cs s short = (
  record { class_of = λ w. (object_of s w).class; length_of = λ w. length (object_of s w).elements; short = short_of s short },
  record {
    class = λ o x e. ap (λ (u : Object). u.class) (at_there s o x e);
    size = λ o x e array. ap (λ (u : Object). length u.elements) (at_there s o x e);
  },
)

pub good_table : (c : CoreTree) (s : List Object) → IsGoodStore c s → (table : Table) × Fits c.classes table s
good_table c s good = short_table c.classes s (λ o x e. (good o x e).values.short)
