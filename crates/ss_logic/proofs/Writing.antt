-- A write of a structure's store is that write of the objects that it tables.
use Rattle.std.proofs.Common.{◌≡◌, ℕ, List, [], ◌∷◌, map, Bool, true, false, ◌&&◌, eqb, refl, sym, ◌∙◌, ap}
use Rattle.std.specs.Prelude.{if◌then◌else◌}
use Rattle.std.proofs.lemmas.Bool.{false≢true, true≢false, eqb-true}
use Rattle.ss_core.specs.declared.names.Ty.{Ty}
use Rattle.ss_core.specs.declared.names.Ty.TheVariants as ty
use Rattle.ss_core.specs.Tree.{ClassTree}
use Rattle.ss_store_rules.specs.declared.Value.{Value as ObjectValue}
use Rattle.ss_store_rules.specs.Store.{Slot, Object}
use Rattle.ss_store_rules.specs.Changes as change
use Rattle.ss_store_rules.specs.Changes.{field_type, new_fields}
use Rattle.ss_logic.specs.Values.{reference, same_thing, Cells, Entry, Heap, Value, whole, truth, thing, sort_of_value, Table}
use Rattle.ss_logic.specs.Changes.{put_cell, changed, field_set}
use Rattle.ss_logic.specs.Terms.{sort_of_type, field_sort}
use Rattle.ss_logic.specs.Objects.{object_value, content, filled, object_from, objects_of}
use Rattle.ss_logic.proofs.Changing.{objects_changed}

pub content_here : {P : Type 0} (t : Ty) (here : P → Bool) (v : Value) (c : Cells P) (i : P) → (t ≡ ty.Null → ⊥) → sort_of_value v ≡ sort_of_type t → here i ≡ true → content t (put_cell here v c) i ≡ object_value v
content_here ty.Int here (whole n) c i k e h = rw h refl
content_here ty.Bool here (truth b) c i k e h = rw h refl
content_here (ty.Ref t n) here (thing w) c i k e h = rw h refl
content_here ty.Null here v c i k e h = absurd (k refl)
content_here ty.Int here v c i k e h = absurd (let no : ⊥ = cc in no)
content_here ty.Bool here v c i k e h = absurd (let no : ⊥ = cc in no)
content_here (ty.Ref t n) here v c i k e h = absurd (let no : ⊥ = cc in no)

pub content_apart : {P : Type 0} (t : Ty) (here : P → Bool) (v : Value) (c : Cells P) (i : P) → here i ≡ false → content t (put_cell here v c) i ≡ content t c i
content_apart ty.Int here (whole n) c i h = rw h refl
content_apart ty.Bool here (truth b) c i h = rw h refl
content_apart (ty.Ref t n) here (thing w) c i h = rw h refl
content_apart t here v c i h = refl

pub and_yes : (a b : Bool) → a ≡ true → b ≡ true → (a && b) ≡ true
and_yes true b p q = q
and_yes false b p q = absurd (false≢true p)

pub and_first : (a b : Bool) → a ≡ false → (a && b) ≡ false
and_first true b p = absurd (true≢false p)
and_first false b p = refl

pub and_second : (a b : Bool) → b ≡ false → (a && b) ≡ false
and_second true b p = p
and_second false b p = refl

slot_with : Slot → ObjectValue → Slot
slot_with y v = record y { content = v }

object_with : Object → List Slot → Object
object_with x ys = record x { fields = ys }

module _ (cs : List ClassTree) (table : Table) (h : Heap) (o f : ℕ) (v : Value) (known : field_type cs f ≡ ty.Null → ⊥) (sorted : sort_of_value v ≡ field_sort cs f) where
  abbrev Written : ℕ → Entry → Entry
  Written q x = field_set (reference o) f v (reference q) x

  -- the content of a slot after the write
  content_written : (q : ℕ) (x : Entry) (g : ℕ) → eqb q o ≡ true → (b : Bool) → eqb g f ≡ b → (b ≡ true → g ≡ f) →
      content (field_type cs g) (Written q x).fields g ≡ (if b then object_value v else content (field_type cs g) x.fields g)
  content_written q x g at true e is =
      let same : g ≡ f = is refl in
      content_here (field_type cs g) (λ j. same_thing (reference q) (reference o) && eqb j f) v x.fields g (λ n. known (ap (field_type cs) (sym same) ∙ n)) (sorted ∙ ap (field_sort cs) (sym same)) (and_yes (eqb q o) (eqb g f) at e)
  content_written q x g at false e is = content_apart (field_type cs g) (λ j. same_thing (reference q) (reference o) && eqb j f) v x.fields g (and_second (eqb q o) (eqb g f) e)

  slots_written : (q : ℕ) (x : Entry) → eqb q o ≡ true → (xs : List Slot) → map (filled cs (Written q x)) xs ≡ change.with_field (map (filled cs x) xs) f (object_value v)
  unfolding slot_with
  slots_written q x at [] = refl
  slots_written q x at (y ∷ ys) =
      ap (λ z. slot_with y z ∷ map (filled cs (Written q x)) ys) (content_written q x y.field at (eqb y.field f) refl (eqb-true y.field f))
      ∙ ap (λ zs. change.with_content f (object_value v) (filled cs x y) ∷ zs) (slots_written q x at ys)

  slots_kept : (q : ℕ) (x : Entry) → eqb q o ≡ false → (xs : List Slot) → map (filled cs (Written q x)) xs ≡ map (filled cs x) xs
  unfolding slot_with
  slots_kept q x at [] = refl
  slots_kept q x at (y ∷ ys) =
      ap (λ z. slot_with y z ∷ map (filled cs (Written q x)) ys) (content_apart (field_type cs y.field) (λ j. same_thing (reference q) (reference o) && eqb j f) v x.fields y.field (and_first (eqb q o) (eqb y.field f) at))
      ∙ ap (λ zs. filled cs x y ∷ zs) (slots_kept q x at ys)

  fields_written : (q : ℕ) (x : Entry) (xs : List Slot) (b : Bool) → eqb q o ≡ b → map (filled cs (Written q x)) xs ≡ (if b then change.with_field (map (filled cs x) xs) f (object_value v) else map (filled cs x) xs)
  fields_written q x xs true e = slots_written q x e xs
  fields_written q x xs false e = slots_kept q x e xs

  pub written_same : objects_of cs table (changed (field_set (reference o) f v) h) ≡ change.changed (change.written o f (object_value v)) (objects_of cs table h)
  unfolding object_with
  written_same =
      objects_changed cs table h (field_set (reference o) f v) (change.written o f (object_value v))
      (λ q x. ap (object_with (object_from cs table h q x)) (fields_written q x (new_fields cs (table.class_of (reference q))) (eqb q o) refl))
