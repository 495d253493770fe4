-- What is checked of a change of a store is true only where the change's own checks hold.
use Rattle.std.proofs.Common.{◌≡◌, ℕ, ◌<◌, ℤ, pos, negsuc, List, [], ◌∷◌, length, ◌++◌, Bool, true, false, not, ◌&&◌, ◌||◌, ◌==◌, Some, refl, sym, ◌∙◌, ap, subst}
use Rattle.std.specs.Prelude.{if◌then◌else◌, slice_get, nat_lt, int_le, int_lt, Result, Ok, Err}
use Rattle.std.specs.List.{list_all}
use Rattle.std.proofs.lemmas.Bool.{false≢true, and_parts}
use Rattle.ss_core.specs.declared.names.Kind.{Kind}
use Rattle.ss_core.specs.declared.names.Kind.TheVariants as kind
use Rattle.ss_core.specs.declared.names.Mark.TheVariants as mark
use Rattle.ss_core.specs.Tree.{ClassTree}
use Rattle.ss_core.specs.Chain.{above, sub, NoAlso}
use Rattle.ss_core.proofs.Chains.{sub-below}
use Rattle.ss_store_rules.specs.declared.Value.{Value as ObjectValue}
use Rattle.ss_store_rules.specs.declared.Value.TheVariants as value
use Rattle.ss_store_rules.specs.declared.Owner.{Owner}
use Rattle.ss_store_rules.specs.declared.Owner.TheVariants as owner
use Rattle.ss_store_rules.specs.Store.{Object}
use Rattle.ss_store_rules.specs.Reads.{is_pair, same_owner, object_at}
use Rattle.ss_store_rules.specs.Reads as reads
use Rattle.ss_store_rules.specs.Changes.{is_array, field_class, field_mark}
use Rattle.ss_store_rules.specs.Changes as change
use Rattle.ss_store_rules.specs.Admissible.{invariants_hold}
use Rattle.ss_logic.specs.Values.{reference, is_group, Heap, Value, whole, thing, store, as_thing, Structure}
use Rattle.ss_logic.specs.Terms.{Length, Term, Bound, app}
use Rattle.ss_logic.specs.Formulas.{Formula, neg}
use Rattle.ss_logic.specs.Objects.{objects_of}
use Rattle.ss_logic.proofs.Tabled.{there, count}
use Rattle.ss_logic.specs.Shapes.{number, null_term, class_term, level_of, owner_of, pair_of, equal, differ, at_most, sub_atom, allocated, committed, group}
use Rattle.ss_logic.specs.Express.{and_of, or_of, is_full, less}
use Rattle.ss_logic_means.specs.Means.{standing}
use Rattle.ss_logic_means.proofs.Denoting.{T, V, M, and_means, or_means, neg_means}
use Rattle.ss_logic_means.proofs.Operations.{at_most_means, less_means}
use Rattle.ss_logic_means.proofs.Classes.{object_known, null_means}
use Rattle.ss_logic_means.proofs.Reading.{length_known}
use Rattle.ss_logic_means.proofs.States.{allocated_means, committed_means, level_means, consistent_means, packed_means}
use Rattle.ss_logic_means.proofs.Owners.{HasOwners, owner_stands, same_owner_means, owned_at_means}
use Rattle.ss_logic_means.proofs.Listed.{or_more, objects_mean}
use Rattle.ss_logic_tables.specs.Tabled.{IsStoreOf}
use Rattle.ss_logic_tables.proofs.Listing.{if_yes}
use Rattle.ss_logic_tables.proofs.Staying.{allocated_at}
use Rattle.ss_logic_tables.proofs.Owning.{owner_is_group}
use Rattle.ss_vcgen_heaps.specs.Obligations.{may_be_owned, may_be_joined, is_index, owned_are_full}
use Rattle.ss_vcgen_safe.specs.Done.{IsDone, StandsFor, HasStore}

check_yes : (b : Bool) (k : Kind) (r : Result (List Object) Kind) → b ≡ true → change.check b k r ≡ r
check_yes true k r e = refl
check_yes false k r e = absurd (false≢true e)

done_by : (q r : Result (List Object) Kind) → q ≡ r → IsDone r → IsDone q
done_by q r e d = (d.0, e ∙ d.1)

-- ---- owners

captured_done : (s : List Object) (o t : ℕ) (w : Owner) → (reads.is_group w || is_pair o t w) ≡ true → IsDone (change.captured s o t w)
captured_done s o t (owner.Group g) e = (change.changed (change.regrouped g (change.owned_by o t)) s, refl)
captured_done s o t (owner.Owned p u) e = (s, check_yes (is_pair o t (owner.Owned p u)) kind.RepOwner (Ok s) e)

either_done : (b : Bool) (s z : List Object) → IsDone (if b then Ok s else Ok z)
either_done true s z = (s, refl)
either_done false s z = (z, refl)

or_none : (b c : Bool) → (b || (false || (false && c))) ≡ true → b ≡ true
or_none true c e = refl
or_none false c e = absurd (false≢true e)

joined_done : (s : List Object) (w v : Owner) (committed : Bool) → (same_owner w v || (reads.is_group v || (reads.is_group w && not committed))) ≡ true → IsDone (change.joined s w v committed)
joined_done s w (owner.Group g) committed e = either_done (same_owner w (owner.Group g)) s (change.changed (change.regrouped g w) s)
joined_done s (owner.Group g) (owner.Owned p u) committed e =
    (change.changed (change.regrouped g (owner.Owned p u)) s, check_yes (not committed) kind.PeerOwner (Ok (change.changed (change.regrouped g (owner.Owned p u)) s)) e)
joined_done s (owner.Owned o t) (owner.Owned p u) committed e =
    (s, if_yes (same_owner (owner.Owned o t) (owner.Owned p u)) (Ok s) (Err kind.PeerOwner) (or_none (same_owner (owner.Owned o t) (owner.Owned p u)) (not committed) e))

-- ---- in a store that a term stands for
module _ (cs : List ClassTree) (m : Structure) (h : Heap) (l : List Object) (is : IsStoreOf cs m.table h l) (s : Term) (stands : StandsFor cs m s (store h)) where
  abbrev There : List Object
  There = objects_of cs m.table h

  abbrev At : ℕ → Object
  At q = object_at There q

  -- the term stands for the object at q
  abbrev IsAt : Term → ℕ → Type 0
  IsAt o q = StandsFor cs m o (thing (reference q))

  at_there : (q : ℕ) (f : ℕ → Object → Result (List Object) Kind) → nat_lt q h.next ≡ true → change.at_object There q f ≡ f q (At q)
  at_there q f low = ap (change.with_object f q) (there cs m.table h q low ∙ ap Some (sym (object_known cs m [] h q low)))

  at_level : (o : Term) (q t : ℕ) → nat_lt q h.next ≡ true → IsAt o q → T cs m [] (equal (level_of s o) (class_term t)) → ((At q).level == t) ≡ true
  at_level o q t low at x = (level_means cs m [] h s (stands []) o q low (at []) t).0 x

  not_committed : (o : Term) (q : ℕ) → nat_lt q h.next ≡ true → IsAt o q → T cs m [] (neg (committed s o)) → not (At q).committed ≡ true
  not_committed o q low at x = (neg_means cs m [] (committed s o) (At q).committed (committed_means cs m [] h s (stands []) o q low (at []))).0 x

  -- ---- levels

  unpack_there : (o : Term) (q t : ℕ) → nat_lt q h.next ≡ true → IsAt o q → T cs m [] (equal (level_of s o) (class_term t)) → T cs m [] (neg (committed s o)) → IsDone (change.unpack_of cs There (value.Obj q) t)
  unpack_there o q t low at level free =
      let z : List Object = change.changed (change.unpacked cs q t) There in (
        z,
        at_there q (change.unpacking cs There t) low
            ∙ check_yes ((At q).level == t) kind.UnpackLevel (change.check (not (At q).committed) kind.UnpackCommitted (Ok z)) (at_level o q t low at level)
            ∙ check_yes (not (At q).committed) kind.UnpackCommitted (Ok z) (not_committed o q low at free),
      )

  unpack_in : (o : Term) (q t : ℕ) → nat_lt q h.next ≡ true → IsAt o q → T cs m [] (equal (level_of s o) (class_term t)) → T cs m [] (neg (committed s o)) → IsDone (change.unpack_of cs l (value.Obj q) t)
  unpack_in o q t low at level free = subst (λ z. IsDone (change.unpack_of cs z (value.Obj q) t)) is.objects (unpack_there o q t low at level free)

  -- one object of what is owned
  owned_means : (o : Term) (q t : ℕ) → nat_lt q h.next ≡ true → IsAt o q → (p : ℕ) → nat_lt p h.next ≡ true →
      M cs m (thing (reference p) ∷ []) (or_of (neg (allocated s (Bound 0)) ∷ differ (owner_of s (Bound 0)) (pair_of o (class_term t)) ∷ and_of (is_full s (Bound 0) ∷ neg (committed s (Bound 0)) ∷ []) ∷ [])) (change.may_be_committed q t (At p))
  owned_means o q t low at p k =
      let e : List Value = thing (reference p) ∷ [] in
      let v : Term = Bound 0 in
      let owned : Formula = equal (owner_of s v) (pair_of o (class_term t)) in
      let full : Formula = and_of (is_full s v ∷ neg (committed s v) ∷ []) in
      let there_not : M cs m e (neg (allocated s v)) false =
      subst (λ b. M cs m e (neg (allocated s v)) (not b)) k (neg_means cs m e (allocated s v) (nat_lt p h.next) (allocated_means cs m e h s (stands e) v p refl)) in
      or_more cs m e (neg (allocated s v)) (neg owned ∷ full ∷ []) false (not (is_pair q t (At p).owner) || ((At p).level == (At p).class && not (At p).committed)) there_not
      (or_means cs m e (neg owned) full (not (is_pair q t (At p).owner)) ((At p).level == (At p).class && not (At p).committed)
      (neg_means cs m e owned (is_pair q t (At p).owner) (owned_at_means cs m e h s (stands e) v o t p q k low refl (at e)))
      (consistent_means cs m e h s (stands e) v p k refl))

  all_owned : (o : Term) (q t : ℕ) → nat_lt q h.next ≡ true → IsAt o q → T cs m [] (owned_are_full s o t) → list_all (change.may_be_committed q t) There ≡ true
  all_owned o q t low at x =
      (objects_mean cs m [] h s stands 0 refl (differ (owner_of s (Bound 0)) (pair_of o (class_term t)) ∷ and_of (is_full s (Bound 0) ∷ neg (committed s (Bound 0)) ∷ []) ∷ []) (change.may_be_committed q t)
      (λ p k. subst (λ y. M cs m (thing (reference p) ∷ []) (or_of (neg (allocated s (Bound 0)) ∷ differ (owner_of s (Bound 0)) (pair_of o (class_term t)) ∷ and_of (is_full s (Bound 0) ∷ neg (committed s (Bound 0)) ∷ []) ∷ [])) (change.may_be_committed q t y))
      (object_known cs m [] h p k) (owned_means o q t low at p k))).0 x

  pack_there : (o : Term) (q t : ℕ) → nat_lt q h.next ≡ true → IsAt o q → T cs m [] (equal (level_of s o) (class_term (above cs t))) → invariants_hold cs There q t ≡ true → T cs m [] (owned_are_full s o t) → IsDone (change.pack_of cs (invariants_hold cs) There (value.Obj q) t)
  pack_there o q t low at level holds owned =
      let z : List Object = change.changed (change.repacked q t) There in
      let last : Result (List Object) Kind = change.check (list_all (change.may_be_committed q t) There) kind.PackOwned (Ok z) in (
        z,
        at_there q (change.packing cs (invariants_hold cs) There t) low
            ∙ check_yes ((At q).level == above cs t) kind.PackLevel (change.check (invariants_hold cs There q t) kind.Invariant last) (at_level o q (above cs t) low at level)
            ∙ check_yes (invariants_hold cs There q t) kind.Invariant last holds
            ∙ check_yes (list_all (change.may_be_committed q t) There) kind.PackOwned (Ok z) (all_owned o q t low at owned),
      )

  pack_in : (o : Term) (q t : ℕ) → nat_lt q h.next ≡ true → IsAt o q → T cs m [] (equal (level_of s o) (class_term (above cs t))) → invariants_hold cs l q t ≡ true → T cs m [] (owned_are_full s o t) → IsDone (change.pack_of cs (invariants_hold cs) l (value.Obj q) t)
  pack_in o q t low at level holds owned =
      subst (λ z. IsDone (change.pack_of cs (invariants_hold cs) z (value.Obj q) t)) is.objects
      (pack_there o q t low at level (subst (λ z. invariants_hold cs z q t ≡ true) (sym is.objects) holds) owned)

  -- ---- owners

  owners_there : HasOwners h
  owners_there o low p t e =
      subst (λ n. p < n) (count cs m.table h) ((is.good.objects o (At o) (there cs m.table h o low ∙ ap Some (sym (object_known cs m [] h o low)))).owner_allocated p t (ap (λ x. x.owner) (object_known cs m [] h o low) ∙ e))

  group_means : (v : Term) (e : ℕ) → nat_lt e h.next ≡ true → V cs m [] v ≡ thing (reference e) → M cs m [] (group (owner_of s v)) (reads.is_group (At e).owner)
  group_means v e low at =
      let same : is_group (as_thing (V cs m [] (owner_of s v))) ≡ reads.is_group (At e).owner =
      ap (λ x. is_group (as_thing x)) (owner_stands cs m [] h s (stands []) v e at) ∙ sym (owner_is_group h.next (h.at (reference e)).owner) ∙ ap (λ x. reads.is_group x.owner) (sym (object_known cs m [] h e low)) in
      (λ x. sym same ∙ x, λ x. same ∙ x)

  rep_there : (o v : Term) (q t : ℕ) (w : ObjectValue) → nat_lt q h.next ≡ true → IsAt o q → ((e : ℕ) → w ≡ value.Obj e → nat_lt e h.next ≡ true) → V cs m [] v ≡ standing w → T cs m [] (may_be_owned s o t v) → IsDone (change.with_owners mark.Rep There q t w)
  rep_there o v q t (value.Obj e) low at allocated_ is_v x =
      let k : nat_lt e h.next ≡ true = allocated_ e refl in
      let b : Bool = reads.is_group (At e).owner in
      let c : Bool = is_pair q t (At e).owner in
      let means : M cs m [] (may_be_owned s o t v) (b || c) =
      or_more cs m [] (equal v null_term) (group (owner_of s v) ∷ equal (owner_of s v) (pair_of o (class_term t)) ∷ []) false (b || c) (null_means cs m [] h v (value.Obj e) k is_v)
      (or_means cs m [] (group (owner_of s v)) (equal (owner_of s v) (pair_of o (class_term t))) b c (group_means v e k is_v) (owned_at_means cs m [] h s (stands []) v o t e q k low is_v (at []))) in
      done_by (change.capture_of There q t e) (change.captured There q t (At e).owner) (at_there e (λ _ y. change.captured There q t y.owner) k) (captured_done There q t (At e).owner (means.0 x))
  rep_there o v q t value.Null low at k is_v x = (There, refl)
  rep_there o v q t (value.Int n) low at k is_v x = (There, refl)
  rep_there o v q t (value.Bool b) low at k is_v x = (There, refl)

  peer_there : (o v : Term) (q t : ℕ) (w : ObjectValue) → nat_lt q h.next ≡ true → IsAt o q → ((e : ℕ) → w ≡ value.Obj e → nat_lt e h.next ≡ true) → V cs m [] v ≡ standing w → T cs m [] (may_be_joined s o v) → IsDone (change.with_owners mark.Peer There q t w)
  peer_there o v q t (value.Obj e) low at allocated_ is_v x =
      let k : nat_lt e h.next ≡ true = allocated_ e refl in
      let same : Bool = same_owner (At q).owner (At e).owner in
      let b : Bool = reads.is_group (At e).owner in
      let c : Bool = reads.is_group (At q).owner && not (At e).committed in
      let last : Formula = and_of (group (owner_of s o) ∷ neg (committed s v) ∷ []) in
      let means : M cs m [] (may_be_joined s o v) (same || (b || c)) =
      or_more cs m [] (equal v null_term) (equal (owner_of s o) (owner_of s v) ∷ group (owner_of s v) ∷ last ∷ []) false (same || (b || c)) (null_means cs m [] h v (value.Obj e) k is_v)
      (or_more cs m [] (equal (owner_of s o) (owner_of s v)) (group (owner_of s v) ∷ last ∷ []) same (b || c) (same_owner_means cs m [] h s (stands []) owners_there o v q e low k (at []) is_v)
      (or_means cs m [] (group (owner_of s v)) last b c (group_means v e k is_v)
      (and_means cs m [] (group (owner_of s o)) (neg (committed s v)) (reads.is_group (At q).owner) (not (At e).committed) (group_means o q low (at []))
      (neg_means cs m [] (committed s v) (At e).committed (committed_means cs m [] h s (stands []) v e k is_v))))) in
      done_by (change.join_of There q e) (change.joined There (At q).owner (At e).owner (At e).committed)
      (at_there q (λ _ y. change.at_object There e (λ _ z. change.joined There y.owner z.owner z.committed)) low ∙ at_there e (λ _ z. change.joined There (At q).owner z.owner z.committed) k)
      (joined_done There (At q).owner (At e).owner (At e).committed (means.0 x))
  peer_there o v q t value.Null low at k is_v x = (There, refl)
  peer_there o v q t (value.Int n) low at k is_v x = (There, refl)
  peer_there o v q t (value.Bool b) low at k is_v x = (There, refl)

  rep_in : (o v : Term) (q t : ℕ) (w : ObjectValue) → nat_lt q h.next ≡ true → IsAt o q → ((e : ℕ) → w ≡ value.Obj e → nat_lt e h.next ≡ true) → V cs m [] v ≡ standing w → T cs m [] (may_be_owned s o t v) → IsDone (change.with_owners mark.Rep l q t w)
  rep_in o v q t w low at k is_v x = subst (λ z. IsDone (change.with_owners mark.Rep z q t w)) is.objects (rep_there o v q t w low at k is_v x)

  peer_in : (o v : Term) (q t : ℕ) (w : ObjectValue) → nat_lt q h.next ≡ true → IsAt o q → ((e : ℕ) → w ≡ value.Obj e → nat_lt e h.next ≡ true) → V cs m [] v ≡ standing w → T cs m [] (may_be_joined s o v) → IsDone (change.with_owners mark.Peer l q t w)
  peer_in o v q t w low at k is_v x = subst (λ z. IsDone (change.with_owners mark.Peer z q t w)) is.objects (peer_there o v q t w low at k is_v x)

  -- ---- writes

  write_there : NoAlso cs → (o : Term) (q f : ℕ) (w : ObjectValue) → nat_lt q h.next ≡ true → IsAt o q → T cs m [] (neg (sub_atom (level_of s o) (class_term (field_class cs f)))) → IsDone (change.with_owners (field_mark cs f) There q (field_class cs f) w) →
      IsDone (change.write_of cs There (value.Obj q) f w)
  write_there none o q f w low at x owners =
      let t : ℕ = field_class cs f in
      let open_ : not (change.packed cs (At q) t) ≡ true =
      ap not (sym (sub-below cs none (At q).level t)) ∙ (neg_means cs m [] (sub_atom (level_of s o) (class_term t)) (sub cs (At q).level t) (packed_means cs m [] h s (stands []) o q low (at []) t)).0 x in (
        change.changed (change.written q f w) owners.0,
        at_there q (change.writing cs There f w) low
            ∙ check_yes (not (change.packed cs (At q) t)) kind.WriteLevel (change.then_written q f w (change.with_owners (field_mark cs f) There q t w)) open_
            ∙ ap (change.then_written q f w) owners.1,
      )

  write_in : NoAlso cs → (o : Term) (q f : ℕ) (w : ObjectValue) → nat_lt q h.next ≡ true → IsAt o q → T cs m [] (neg (sub_atom (level_of s o) (class_term (field_class cs f)))) → IsDone (change.with_owners (field_mark cs f) l q (field_class cs f) w) →
      IsDone (change.write_of cs l (value.Obj q) f w)
  write_in none o q f w low at x owners =
      subst (λ z. IsDone (change.write_of cs z (value.Obj q) f w)) is.objects
      (write_there none o q f w low at x (subst (λ z. IsDone (change.with_owners (field_mark cs f) z q (field_class cs f) w)) (sym is.objects) owners))

  -- ---- elements

  length_stands : (a : Term) (q : ℕ) → IsAt a q → V cs m [] (app Length (a ∷ [])) ≡ whole (pos (m.table.length_of (reference q)))
  length_stands a q at = ap (λ v. whole (pos (m.table.length_of (as_thing v)))) (at [])

  below_length : (k n : ℕ) → int_lt (pos k) (pos n) ≡ true → nat_lt k n ≡ true
  below_length k n e = e

  element_at : (a : Term) (q : ℕ) (n : ℤ) (w : ObjectValue) → nat_lt q h.next ≡ true → IsAt a q → is_array cs (m.table.class_of (reference q)) ≡ true → (int_le (pos 0) n && int_lt n (pos (m.table.length_of (reference q)))) ≡ true →
      T cs m [] (neg (committed s a)) → IsDone (change.writing_element There n w q (At q))
  element_at a q (negsuc k) w low at array within free = absurd (false≢true (and_parts (int_le (pos 0) (negsuc k)) (int_lt (negsuc k) (pos (m.table.length_of (reference q)))) within).0)
  element_at a q (pos k) w low at array within free =
      let z : List Object = change.changed (change.element_written q k w) There in
      let below : nat_lt k (length (At q).elements) ≡ true =
      ap (nat_lt k) (length_known cs m [] h q low array) ∙ below_length k (m.table.length_of (reference q)) (and_parts (int_le (pos 0) (pos k)) (int_lt (pos k) (pos (m.table.length_of (reference q)))) within).1 in (
        z,
        check_yes (nat_lt k (length (At q).elements)) kind.Index (change.check (not (At q).committed) kind.WriteCommitted (Ok z)) below
            ∙ check_yes (not (At q).committed) kind.WriteCommitted (Ok z) (not_committed a q low at free),
      )

  element_in : (a i : Term) (q : ℕ) (n : ℤ) (w : ObjectValue) → nat_lt q h.next ≡ true → IsAt a q → is_array cs (m.table.class_of (reference q)) ≡ true → V cs m [] i ≡ whole n → T cs m [] (is_index a i) → T cs m [] (neg (committed s a)) →
      IsDone (change.write_element_of l (value.Obj q) n w)
  element_in a i q n w low at array index x free =
      let size : ℤ = pos (m.table.length_of (reference q)) in
      let within : (int_le (pos 0) n && int_lt n size) ≡ true =
      (and_means cs m [] (at_most (number (pos 0)) i) (less i (app Length (a ∷ []))) (int_le (pos 0) n) (int_lt n size) (at_most_means cs m [] (number (pos 0)) i (pos 0) n refl index)
      (less_means cs m [] i (app Length (a ∷ [])) n size index (length_stands a q at))).0 x in
      subst (λ z. IsDone (change.write_element_of z (value.Obj q) n w)) is.objects
      (done_by (change.write_element_of There (value.Obj q) n w) (change.writing_element There n w q (At q)) (at_there q (change.writing_element There n w) low) (element_at a q n w low at array within free))

  -- ---- arrays

  array_at : (t : ℕ) (n : ℤ) → int_le (pos 0) n ≡ true → IsDone (change.new_array_of l t n)
  array_at t (pos n) e = (l ++ change.new_array t n (length l) ∷ [], refl)
  array_at t (negsuc n) e = absurd (false≢true e)

  array_in : (i : Term) (t : ℕ) (n : ℤ) → V cs m [] i ≡ whole n → T cs m [] (at_most (number (pos 0)) i) → IsDone (change.new_array_of l t n)
  array_in i t n index x = array_at t n ((at_most_means cs m [] (number (pos 0)) i (pos 0) n refl index).0 x)

-- ---- where an object is one of the list

module _ (cs : List ClassTree) (m : Structure) (s : Term) (l : List Object) (has : HasStore cs m s l) where
  low_at : (q : ℕ) (x : Object) → slice_get l q ≡ Some x → nat_lt q has.heap.next ≡ true
  low_at q x e = (allocated_at cs m.table has.heap l has.is.objects q x e).0

  module _ (o : Term) (q : ℕ) (x : Object) (e : slice_get l q ≡ Some x) (at : StandsFor cs m o (standing (value.Obj q))) where
    pub unpack_done : (t : ℕ) → T cs m [] (equal (level_of s o) (class_term t)) → T cs m [] (neg (committed s o)) → IsDone (change.unpack_of cs l (value.Obj q) t)
    unpack_done t level free = unpack_in cs m has.heap l has.is s has.stands o q t (low_at q x e) at level free

    pub pack_done : (t : ℕ) → T cs m [] (equal (level_of s o) (class_term (above cs t))) → invariants_hold cs l q t ≡ true → T cs m [] (owned_are_full s o t) → IsDone (change.pack_of cs (invariants_hold cs) l (value.Obj q) t)
    pack_done t level holds owned = pack_in cs m has.heap l has.is s has.stands o q t (low_at q x e) at level holds owned

    -- what a value refers to is an object of the list
    abbrev IsThere : ObjectValue → Type 0
    IsThere w = (i : ℕ) → w ≡ value.Obj i → (y : Object) × (slice_get l i ≡ Some y)

    low_value : (w : ObjectValue) → IsThere w → (i : ℕ) → w ≡ value.Obj i → nat_lt i has.heap.next ≡ true
    low_value w k i is = let y = k i is in low_at i y.0 y.1

    pub rep_done : (v : Term) (t : ℕ) (w : ObjectValue) → ((i : ℕ) → w ≡ value.Obj i → (y : Object) × (slice_get l i ≡ Some y)) → StandsFor cs m v (standing w) → T cs m [] (may_be_owned s o t v) → IsDone (change.with_owners mark.Rep l q t w)
    rep_done v t w k is_v may = rep_in cs m has.heap l has.is s has.stands o v q t w (low_at q x e) at (low_value w k) (is_v []) may

    pub peer_done : (v : Term) (t : ℕ) (w : ObjectValue) → ((i : ℕ) → w ≡ value.Obj i → (y : Object) × (slice_get l i ≡ Some y)) → StandsFor cs m v (standing w) → T cs m [] (may_be_joined s o v) → IsDone (change.with_owners mark.Peer l q t w)
    peer_done v t w k is_v may = peer_in cs m has.heap l has.is s has.stands o v q t w (low_at q x e) at (low_value w k) (is_v []) may

    pub write_done : NoAlso cs → (f : ℕ) (w : ObjectValue) → T cs m [] (neg (sub_atom (level_of s o) (class_term (field_class cs f)))) → IsDone (change.with_owners (field_mark cs f) l q (field_class cs f) w) → IsDone (change.write_of cs l (value.Obj q) f w)
    write_done none f w open_ owners = write_in cs m has.heap l has.is s has.stands none o q f w (low_at q x e) at open_ owners

    pub element_done : (i : Term) (n : ℤ) (w : ObjectValue) → is_array cs x.class ≡ true → StandsFor cs m i (whole n) → T cs m [] (is_index o i) → T cs m [] (neg (committed s o)) → IsDone (change.write_element_of l (value.Obj q) n w)
    element_done i n w array index within free =
        let class : m.table.class_of (reference q) ≡ x.class = ap (λ y. y.class) (allocated_at cs m.table has.heap l has.is.objects q x e).1 in
        element_in cs m has.heap l has.is s has.stands o i q n w (low_at q x e) at (ap (is_array cs) class ∙ array) (index []) within free

  pub array_done : (i : Term) (t : ℕ) (n : ℤ) → StandsFor cs m i (whole n) → T cs m [] (at_most (number (pos 0)) i) → IsDone (change.new_array_of l t n)
  array_done i t n index positive = array_in cs m has.heap l has.is s has.stands i t n (index []) positive
