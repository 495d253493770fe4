-- A change of a structure's store is that change of the objects that it tables.
use Rattle.std.proofs.Common.{◌≡◌, ℕ, zero, suc, ◌+◌, ◌<◌, List, ◌∷◌, Bool, true, false, not, ◌&&◌, ◌||◌, eqb, refl, sym, ◌∙◌, ap, arith}
use Rattle.std.specs.Prelude.{if◌then◌else◌}
use Rattle.std.proofs.lemmas.Bool.{ne_eqb}
use Rattle.ss_core.specs.Tree.{ClassTree}
use Rattle.ss_store_rules.specs.declared.Owner.{Owner}
use Rattle.ss_store_rules.specs.Store.{Object}
use Rattle.ss_store_rules.specs.Reads.{is_pair, is_in_group}
use Rattle.ss_store_rules.specs.Changes as store
use Rattle.ss_logic.specs.Values.{Thing, null, reference, class_name, group_number, owner_pair, same_thing, Entry, Heap, Table}
use Rattle.ss_logic.specs.Changes.{changed, unpacked, packed, moved, regrouped, made_ready}
use Rattle.ss_logic.specs.Objects.{owner_of_thing, object_from, objects_from, objects_of}

and_no : (b : Bool) → (b && false) ≡ false
and_no true = refl
and_no false = refl

module _ (cs : List ClassTree) (table : Table) (h : Heap) where
  -- each object changes as its entry does
  changed_from : (change : Thing → Entry → Entry) (g : ℕ → Object → Object) →
      ((q : ℕ) (x : Entry) → object_from cs table h q (change (reference q) x) ≡ g q (object_from cs table h q x)) →
      (o n : ℕ) → objects_from cs table (changed change h) o n ≡ store.changed_from o g (objects_from cs table h o n)
  changed_from change g each o zero = refl
  changed_from change g each o (suc n) =
      ap (λ x. x ∷ objects_from cs table (changed change h) (o + 1) n) (each o (h.at (reference o)))
      ∙ ap (λ xs. g o (object_from cs table h o (h.at (reference o))) ∷ xs) (changed_from change g each (o + 1) n)

  pub objects_changed : (change : Thing → Entry → Entry) (g : ℕ → Object → Object) →
      ((q : ℕ) (x : Entry) → object_from cs table h q (change (reference q) x) ≡ g q (object_from cs table h q x)) →
      objects_of cs table (changed change h) ≡ store.changed g (objects_of cs table h)
  unfolding objects_of
  objects_changed change g each = changed_from change g each 0 h.next

  with_committed : Object → Bool → Object
  with_committed x b = record x { committed = b }

  with_owner : Object → Owner → Object
  with_owner x w = record x { owner = w }

  -- what is owned by an allocated object in the structure is owned in the store
  apart : (o t : ℕ) → o < h.next → (eqb h.next o && eqb 0 t) ≡ false
  apart o t l = rw (ne_eqb h.next o (λ e. omega (arith, e, l))) refl

  owned_same : (o t : ℕ) → o < h.next → (w : Thing) → same_thing w (owner_pair (reference o) (class_name t)) ≡ is_pair o t (owner_of_thing h.next w)
  owned_same o t l (owner_pair (reference a) (class_name u)) = refl
  owned_same o t l (group_number g) = refl
  owned_same o t l null = sym (apart o t l)
  owned_same o t l (reference a) = sym (apart o t l)
  owned_same o t l (class_name a) = sym (apart o t l)
  owned_same o t l (owner_pair null v) = sym (apart o t l)
  owned_same o t l (owner_pair (class_name a) v) = sym (apart o t l)
  owned_same o t l (owner_pair (group_number a) v) = sym (apart o t l)
  owned_same o t l (owner_pair (owner_pair a b) v) = sym (apart o t l)
  owned_same o t l (owner_pair (reference a) null) = and_no (eqb a o) ∙ sym (apart o t l)
  owned_same o t l (owner_pair (reference a) (reference b)) = and_no (eqb a o) ∙ sym (apart o t l)
  owned_same o t l (owner_pair (reference a) (group_number b)) = and_no (eqb a o) ∙ sym (apart o t l)
  owned_same o t l (owner_pair (reference a) (owner_pair b d)) = and_no (eqb a o) ∙ sym (apart o t l)

  pub unpacked_same : (o t : ℕ) → o < h.next → objects_of cs table (changed (unpacked cs (reference o) t) h) ≡ store.changed (store.unpacked cs o t) (objects_of cs table h)
  unfolding with_committed
  unpacked_same o t l = objects_changed (unpacked cs (reference o) t) (store.unpacked cs o t) (λ q x. ap (λ b. with_committed (object_from cs table h q (unpacked cs (reference o) t (reference q) x)) (x.committed && not b)) (owned_same o t l x.owner))

  pub packed_same : (o t : ℕ) → o < h.next → objects_of cs table (changed (packed (reference o) t) h) ≡ store.changed (store.repacked o t) (objects_of cs table h)
  unfolding with_committed
  packed_same o t l = objects_changed (packed (reference o) t) (store.repacked o t) (λ q x. ap (λ b. with_committed (object_from cs table h q (packed (reference o) t (reference q) x)) (x.committed || b)) (owned_same o t l x.owner))

  pub ready_same : (o : ℕ) → objects_of cs table (changed (made_ready (reference o)) h) ≡ store.changed (store.made_ready o) (objects_of cs table h)
  ready_same o = objects_changed (made_ready (reference o)) (store.made_ready o) (λ q x. refl)

  group_same : (g : ℕ) (new w : Thing) → owner_of_thing h.next (moved (group_number g) new w) ≡ (if is_in_group g (owner_of_thing h.next w) then owner_of_thing h.next new else owner_of_thing h.next w)
  group_same g new (group_number k) = by (eqb k g)
    where
      by : (b : Bool) → owner_of_thing h.next (if b then new else group_number k) ≡ (if b then owner_of_thing h.next new else owner_of_thing h.next (group_number k))
      by true = refl
      by false = refl
  group_same g new (owner_pair (reference a) (class_name u)) = refl
  group_same g new w = refl

  -- a group that gets another owner
  pub regrouped_same : (g : ℕ) (new : Thing) → objects_of cs table (changed (regrouped (group_number g) new) h) ≡ store.changed (store.regrouped g (owner_of_thing h.next new)) (objects_of cs table h)
  unfolding with_owner
  regrouped_same g new = objects_changed (regrouped (group_number g) new) (store.regrouped g (owner_of_thing h.next new)) (λ q x. ap (with_owner (object_from cs table h q x)) (group_same g new x.owner))
