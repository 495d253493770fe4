-- The term of a change stands for the store after it.
use Rattle.std.proofs.Common.{◌≡◌, ℕ, ℤ, List, [], ◌∷◌, length, true, Ok, ◌∙◌, ap}
use Rattle.ss_core.specs.declared.names.Mark.{Mark}
use Rattle.ss_core.specs.declared.names.Mark.TheVariants as mark
use Rattle.ss_core.specs.declared.names.Ty.TheVariants as ty
use Rattle.ss_core.specs.Tree.{ClassTree}
use Rattle.ss_store_rules.specs.declared.Value.{Value as ObjectValue}
use Rattle.ss_store_rules.specs.declared.Value.TheVariants as value
use Rattle.ss_store_rules.specs.Store.{Object}
use Rattle.ss_store_rules.specs.Changes.{field_class, field_mark, field_type, unpack_of, pack_of, write_of, write_element_of, new_object_of, new_array_of}
use Rattle.ss_store_rules.specs.Good.{has_type, Invariants, IsGood}
use Rattle.ss_store_rules.specs.Admissible.{invariants_hold}
use Rattle.ss_machine_rules.specs.Steps.{with_ready}
use Rattle.ss_logic.specs.Values.{reference, Heap, Value, whole, thing, store, as_thing, Structure}
use Rattle.ss_logic.specs.Changes.{changed, field_set, element_put, unpacked, packed, with_new, new_object, new_array, made_ready}
use Rattle.ss_logic.specs.Terms.{Symbol, Set, Put, Unpack, Pack, Capture, Join, New, NewArray, Next, MakeReady, Term, app, applied}
use Rattle.ss_logic.specs.Shapes.{next_of}
use Rattle.ss_logic_means.specs.Means.{standing}
use Rattle.ss_logic_means.proofs.Denoting.{V}
use Rattle.ss_sound_outcomes.specs.Points.{Fits}
use Rattle.ss_logic_tables.specs.Owned.{owned_heap}
use Rattle.ss_logic_tables.proofs.Reading.{next_is}
use Rattle.ss_logic_tables.proofs.Writing.{made_ready_store, unpacked_store, packed_store, written_store, element_store}
use Rattle.ss_logic_tables.proofs.Adding.{new_store, array_store}
use Rattle.ss_vcgen_heaps.specs.Obligations.{owned_store}
use Rattle.ss_vcgen_safe.specs.Done.{StandsFor, HasStore}

module _ (cs : List ClassTree) (m : Structure) where
  -- ---- functions of terms with values

  of_one : (f : Symbol) (s : Term) (a : Value) → StandsFor cs m s a → StandsFor cs m (app f (s ∷ [])) (applied cs m f (a ∷ []))
  of_one f s a x e = ap (λ v. applied cs m f (v ∷ [])) (x e)

  of_two : (f : Symbol) (s o : Term) (a b : Value) → StandsFor cs m s a → StandsFor cs m o b → StandsFor cs m (app f (s ∷ o ∷ [])) (applied cs m f (a ∷ b ∷ []))
  of_two f s o a b x y e = ap (λ v. applied cs m f (v ∷ V cs m e o ∷ [])) (x e) ∙ ap (λ v. applied cs m f (a ∷ v ∷ [])) (y e)

  of_three : (f : Symbol) (s o t : Term) (a b c : Value) → StandsFor cs m s a → StandsFor cs m o b → StandsFor cs m t c → StandsFor cs m (app f (s ∷ o ∷ t ∷ [])) (applied cs m f (a ∷ b ∷ c ∷ []))
  of_three f s o t a b c x y z e =
      ap (λ v. applied cs m f (v ∷ V cs m e o ∷ V cs m e t ∷ [])) (x e) ∙ ap (λ v. applied cs m f (a ∷ v ∷ V cs m e t ∷ [])) (y e) ∙ ap (λ v. applied cs m f (a ∷ b ∷ v ∷ [])) (z e)

  of_four : (f : Symbol) (s o t u : Term) (a b c d : Value) → StandsFor cs m s a → StandsFor cs m o b → StandsFor cs m t c → StandsFor cs m u d → StandsFor cs m (app f (s ∷ o ∷ t ∷ u ∷ [])) (applied cs m f (a ∷ b ∷ c ∷ d ∷ []))
  of_four f s o t u a b c d x y z w e =
      ap (λ v. applied cs m f (v ∷ V cs m e o ∷ V cs m e t ∷ V cs m e u ∷ [])) (x e)
      ∙ ap (λ v. applied cs m f (a ∷ v ∷ V cs m e t ∷ V cs m e u ∷ [])) (y e)
      ∙ ap (λ v. applied cs m f (a ∷ b ∷ v ∷ V cs m e u ∷ [])) (z e)
      ∙ ap (λ v. applied cs m f (a ∷ b ∷ c ∷ v ∷ [])) (w e)

  -- the store with the owners of a write
  of_owned : (k : Mark) (s o v : Term) (t : ℕ) (h : Heap) (a b : Value) → StandsFor cs m s (store h) → StandsFor cs m o a → StandsFor cs m v b → StandsFor cs m (owned_store k s o t v) (store (owned_heap k h (as_thing a) t (as_thing b)))
  of_owned mark.Plain s o v t h a b x y z = x
  of_owned mark.Rep s o v t h a b x y z = of_three (Capture t) s o v (store h) a b x y z
  of_owned mark.Peer s o v t h a b x y z = of_three Join s o v (store h) a b x y z

  -- ---- changes

  module _ (s : Term) (l : List Object) (has : HasStore cs m s l) where
    pub ready_after : (o : Term) (v : ObjectValue) → StandsFor cs m o (standing v) → IsGood cs (invariants_hold cs) (with_ready l v) → HasStore cs m (app MakeReady (s ∷ o ∷ [])) (with_ready l v)
    ready_after o v x good = record {
      heap = changed (made_ready (as_thing (standing v))) has.heap;
      stands = of_two MakeReady s o (store has.heap) (standing v) has.stands x;
      is = made_ready_store cs m.table has.heap l has.is v good;
    }

    pub unpack_after : (o : Term) (v : ObjectValue) (t : ℕ) (z : List Object) → StandsFor cs m o (standing v) → unpack_of cs l v t ≡ Ok z → IsGood cs (invariants_hold cs) z → HasStore cs m (app (Unpack t) (s ∷ o ∷ [])) z
    unpack_after o v t z x e good = record {
      heap = changed (unpacked cs (as_thing (standing v)) t) has.heap;
      stands = of_two (Unpack t) s o (store has.heap) (standing v) has.stands x;
      is = unpacked_store cs m.table has.heap l has.is v t z e good;
    }

    pub pack_after : (holds : Invariants) (o : Term) (v : ObjectValue) (t : ℕ) (z : List Object) → StandsFor cs m o (standing v) → pack_of cs holds l v t ≡ Ok z → IsGood cs (invariants_hold cs) z → HasStore cs m (app (Pack t) (s ∷ o ∷ [])) z
    pack_after holds o v t z x e good = record {
      heap = changed (packed (as_thing (standing v)) t) has.heap;
      stands = of_two (Pack t) s o (store has.heap) (standing v) has.stands x;
      is = packed_store cs m.table has.heap l has.is holds v t z e good;
    }

    pub write_after : (o u : Term) (v : ObjectValue) (f : ℕ) (w : ObjectValue) (z : List Object) → StandsFor cs m o (standing v) → StandsFor cs m u (standing w) → write_of cs l v f w ≡ Ok z → (field_type cs f ≡ ty.Null → ⊥) → has_type cs l (field_type cs f) w ≡ true → IsGood cs (invariants_hold cs) z →
        HasStore cs m (app (Set f) (owned_store (field_mark cs f) s o (field_class cs f) u ∷ o ∷ u ∷ [])) z
    write_after o u v f w z x y e known typed good =
        let h : Heap = owned_heap (field_mark cs f) has.heap (as_thing (standing v)) (field_class cs f) (as_thing (standing w)) in
        record {
          heap = changed (field_set (as_thing (standing v)) f (standing w)) h;
          stands = of_three (Set f) (owned_store (field_mark cs f) s o (field_class cs f) u) o u (store h) (standing v) (standing w)
              (of_owned (field_mark cs f) s o u (field_class cs f) has.heap (standing v) (standing w) has.stands x y) x y;
          is = written_store cs m.table has.heap l has.is v f w z e known typed good;
        }

    pub put_after : (a i u : Term) (v : ObjectValue) (n : ℤ) (w : ObjectValue) (z : List Object) → StandsFor cs m a (standing v) → StandsFor cs m i (whole n) → StandsFor cs m u (standing w) → write_element_of l v n w ≡ Ok z → IsGood cs (invariants_hold cs) z →
        HasStore cs m (app Put (s ∷ a ∷ i ∷ u ∷ [])) z
    put_after a i u v n w z x y q e good = record {
      heap = changed (element_put (as_thing (standing v)) n (standing w)) has.heap;
      stands = of_four Put s a i u (store has.heap) (standing v) (whole n) (standing w) has.stands x y q;
      is = element_store cs m.table has.heap l has.is v n w z e good;
    }

    -- ---- new objects

    pub next_stands : StandsFor cs m (next_of s) (standing (value.Obj (length l)))
    next_stands e = ap (λ v. applied cs m Next (v ∷ [])) (has.stands e) ∙ ap (λ n. thing (reference n)) (next_is cs m.table has.heap l has.is)

    pub new_after : (t : ℕ) → Fits cs m.table (new_object_of cs l t) → IsGood cs (invariants_hold cs) (new_object_of cs l t) → HasStore cs m (app (New t) (s ∷ [])) (new_object_of cs l t)
    new_after t fits good = record {
      heap = with_new (new_object has.heap.next) has.heap;
      stands = of_one (New t) s (store has.heap) has.stands;
      is = new_store cs m.table has.heap l has.is t fits good;
    }

    pub array_after : (i : Term) (t : ℕ) (n : ℤ) (z : List Object) → StandsFor cs m i (whole n) → new_array_of l t n ≡ Ok z → Fits cs m.table z → IsGood cs (invariants_hold cs) z → HasStore cs m (app (NewArray t) (s ∷ i ∷ [])) z
    array_after i t n z x e fits good = record {
      heap = with_new (new_array t has.heap.next) has.heap;
      stands = of_two (NewArray t) s i (store has.heap) (whole n) has.stands x;
      is = array_store cs m.table has.heap l has.is t n z e fits good;
    }
