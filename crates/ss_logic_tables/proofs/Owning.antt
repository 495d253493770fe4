-- What a capture or a join of a heap does to its objects, and that groups stay numbered.
use Rattle.std.proofs.Common.{◌≡◌, ℕ, ◌+◌, pos, List, [], ◌∷◌, Bool, true, false, not, ◌&&◌, eqb, refl, sym, ◌∙◌, ap}
use Rattle.std.specs.Prelude.{if◌then◌else◌, Result, Ok, Err}
use Rattle.std.proofs.lemmas.Bool.{false≢true, true≢false, and_parts, eqb-true}
use Rattle.ss_core.specs.declared.names.Kind.{Kind}
use Rattle.ss_core.specs.declared.names.Kind.TheVariants as kind
use Rattle.ss_core.specs.declared.names.Mark.{Mark}
use Rattle.ss_core.specs.declared.names.Mark.TheVariants as mark
use Rattle.ss_core.specs.Tree.{ClassTree}
use Rattle.ss_store_rules.specs.declared.Value.{Value as ObjectValue}
use Rattle.ss_store_rules.specs.declared.Value.TheVariants as value
use Rattle.ss_store_rules.specs.declared.Owner.{Owner}
use Rattle.ss_store_rules.specs.declared.Owner.TheVariants as owner
use Rattle.ss_store_rules.specs.Store.{Object}
use Rattle.ss_store_rules.specs.Reads.{is_pair, is_in_group, same_owner}
use Rattle.ss_store_rules.specs.Reads as reads
use Rattle.ss_store_rules.specs.Changes as store
use Rattle.ss_store_rules.proofs.Owners.{check_ok, at_object_ok}
use Rattle.ss_logic.specs.declared.Sort.TheVariants as sort
use Rattle.ss_logic.specs.Values.{Thing, null, reference, class_name, group_number, owner_pair, is_group, same_thing, Entry, Heap, Table, as_thing, IsNumbered, Structure}
use Rattle.ss_logic.specs.Changes.{changed, moved, regrouped, rejoined, joined, captured, with_new, new_object, new_array}
use Rattle.ss_logic.specs.Terms.{Constant, Capture, Join, New, NewArray, Term, app}
use Rattle.ss_logic.specs.Objects.{owner_of_thing, object_from, objects_of}
use Rattle.ss_logic.proofs.Changing.{objects_changed, regrouped_same}
use Rattle.ss_logic.proofs.Numbered.{store_numbered}
use Rattle.ss_logic_means.specs.Means.{standing}
use Rattle.ss_logic_tables.specs.Owned.{owned_heap}
use Rattle.ss_logic_tables.proofs.Listing.{by_test, if_yes, if_no}
use Rattle.ss_logic_tables.proofs.Staying.{allocated_at}

abbrev IsOk : Result (List Object) Kind → List Object → Type 0
IsOk r z = r ≡ Ok z

pub ok_same : (s z : List Object) → IsOk (Ok s) z → s ≡ z
ok_same s z e = cc

-- ---- changes that leave all objects

unchanged_from : (n : ℕ) (f : ℕ → Object → Object) → ((q : ℕ) (x : Object) → f q x ≡ x) → (s : List Object) → store.changed_from n f s ≡ s
unchanged_from n f same [] = refl
unchanged_from n f same (x ∷ s) = ap (λ y. y ∷ store.changed_from (n + 1) f s) (same n x) ∙ ap (λ ys. x ∷ ys) (unchanged_from (n + 1) f same s)

pub unchanged : (f : ℕ → Object → Object) → ((q : ℕ) (x : Object) → f q x ≡ x) → (s : List Object) → store.changed f s ≡ s
unchanged f same s = unchanged_from 0 f same s

pub objects_unchanged : (cs : List ClassTree) (table : Table) (h : Heap) (change : Thing → Entry → Entry) → ((q : ℕ) (x : Entry) → change (reference q) x ≡ x) → objects_of cs table (changed change h) ≡ objects_of cs table h
objects_unchanged cs table h change same =
    objects_changed cs table h change (λ q x. x) (λ q x. ap (object_from cs table h q) (same q x))
    ∙ unchanged (λ q x. x) (λ q x. refl) (objects_of cs table h)

-- ---- owners

pub owner_is_group : (next : ℕ) (v : Thing) → reads.is_group (owner_of_thing next v) ≡ is_group v
owner_is_group next (group_number g) = refl
owner_is_group next (owner_pair (reference o) (class_name t)) = refl
owner_is_group next v = refl

entry_with : Entry → Thing → Entry
entry_with x w = record x { owner = w }

-- what is in no group keeps its owner
moved_none : (v new w : Thing) → is_group v ≡ false → moved v new w ≡ w
moved_none v new w n = by (is_group v) n
  where
    by : (b : Bool) → b ≡ false → (if b && same_thing w v then new else w) ≡ w
    by true e = absurd (true≢false e)
    by false e = refl

not_regrouped : (cs : List ClassTree) (table : Table) (h : Heap) (v new : Thing) → is_group v ≡ false → objects_of cs table (changed (regrouped v new) h) ≡ objects_of cs table h
unfolding entry_with
not_regrouped cs table h v new n = objects_unchanged cs table h (regrouped v new) (λ q x. ap (entry_with x) (moved_none v new x.owner n))

object_with : Object → Owner → Object
object_with x w = record x { owner = w }

-- a group that gets its own number stays
group_stays : (g : ℕ) (s : List Object) → store.changed (store.regrouped g (owner.Group g)) s ≡ s
unfolding object_with
group_stays g s = unchanged (store.regrouped g (owner.Group g)) (λ q x. ap (object_with x) (same x.owner)) s
  where
    same : (w : Owner) → (if is_in_group g w then owner.Group g else w) ≡ w
    same (owner.Group k) = by_test (eqb k g) (λ t. if_yes (eqb k g) (owner.Group g) (owner.Group k) t ∙ ap owner.Group (sym (eqb-true k g t))) (λ f. if_no (eqb k g) (owner.Group g) (owner.Group k) f)
    same (owner.Owned o t) = refl

same_owner_is : (w v : Owner) → same_owner w v ≡ true → w ≡ v
same_owner_is (owner.Group g) (owner.Group h) e = ap owner.Group (eqb-true g h e)
same_owner_is (owner.Owned o t) (owner.Owned p u) e =
    let b = and_parts (eqb o p) (eqb t.0 u.0) e in
    ap (λ n. owner.Owned n t) (eqb-true o p b.0) ∙ ap (store.owned_by p) (eqb-true t.0 u.0 b.1)
same_owner_is (owner.Group g) (owner.Owned p u) e = absurd (false≢true e)
same_owner_is (owner.Owned o t) (owner.Group h) e = absurd (false≢true e)

module _ (s z : List Object) where
  -- ---- lists

  captured_none : (o t : ℕ) (w : Owner) → reads.is_group w ≡ false → store.captured s o t w ≡ Ok z → s ≡ z
  captured_none o t (owner.Group g) n e = absurd (true≢false n)
  captured_none o t (owner.Owned p u) n e = ok_same s z (check_ok (is_pair o t (owner.Owned p u)) kind.RepOwner (Ok s) z e).1

  either_way : {P : Type 0} (b : Bool) (r : Result (List Object) Kind) → (if b then Ok s else r) ≡ Ok z → (b ≡ true → s ≡ z → P) → (b ≡ false → r ≡ Ok z → P) → P
  either_way true r e same apart = same refl (ok_same s z e)
  either_way false r e same apart = apart refl e

  -- the group of the second gets the owner of the first
  joined_second : (w : Owner) (g : ℕ) (committed : Bool) → store.joined s w (owner.Group g) committed ≡ Ok z → store.changed (store.regrouped g w) s ≡ z
  joined_second w g committed e =
      either_way (same_owner w (owner.Group g)) (store.joined_apart s w (owner.Group g) committed) e
      (λ t same. ap (λ v. store.changed (store.regrouped g v) s) (same_owner_is w (owner.Group g) t) ∙ group_stays g s ∙ same)
      (λ f is. ok_same (store.changed (store.regrouped g w) s) z is)

  -- the group of the first gets the owner of the second
  joined_first : (g : ℕ) (v : Owner) (committed : Bool) → reads.is_group v ≡ false → store.joined s (owner.Group g) v committed ≡ Ok z → store.changed (store.regrouped g v) s ≡ z
  joined_first g (owner.Group k) committed n e = absurd (true≢false n)
  joined_first g (owner.Owned p u) committed n e =
      ok_same (store.changed (store.regrouped g (owner.Owned p u)) s) z (check_ok (not committed) kind.PeerOwner (Ok (store.changed (store.regrouped g (owner.Owned p u)) s)) z e).1

  -- neither is in a group
  joined_none : (w v : Owner) (committed : Bool) → reads.is_group w ≡ false → reads.is_group v ≡ false → store.joined s w v committed ≡ Ok z → s ≡ z
  joined_none (owner.Group k) v committed m n e = absurd (true≢false m)
  joined_none (owner.Owned o t) (owner.Group k) committed m n e = absurd (true≢false n)
  joined_none (owner.Owned o t) (owner.Owned p u) committed m n e =
      either_way (same_owner (owner.Owned o t) (owner.Owned p u)) (Err kind.PeerOwner) e (λ _ same. same) (λ _ is. absurd (let no : ⊥ = cc in no))

  -- ---- heaps

  module _ (cs : List ClassTree) (table : Table) (h : Heap) (objects : objects_of cs table h ≡ s) where
    captured_thing : (o t : ℕ) (v : Thing) → store.captured s o t (owner_of_thing h.next v) ≡ Ok z → objects_of cs table (changed (regrouped v (owner_pair (reference o) (class_name t))) h) ≡ z
    captured_thing o t (group_number g) e =
        regrouped_same cs table h g (owner_pair (reference o) (class_name t)) ∙ ap (store.changed (store.regrouped g (store.owned_by o t))) objects ∙ ok_same (store.changed (store.regrouped g (store.owned_by o t)) s) z e
    captured_thing o t v e = not_regrouped cs table h v (owner_pair (reference o) (class_name t)) refl ∙ objects ∙ captured_none o t (owner_of_thing h.next v) (owner_is_group h.next v) e

    pub captured_objects : (o t e : ℕ) → store.capture_of s o t e ≡ Ok z → objects_of cs table (captured h (reference o) t (reference e)) ≡ z
    captured_objects o t e is =
        let r = at_object_ok s e (λ _ y. store.captured s o t y.owner) z is in
        let a = allocated_at cs table h s objects e r.0 r.1 in
        captured_thing o t (h.at (reference e)).owner (ap (λ y. store.captured s o t y.owner) a.1 ∙ r.2)

    joined_thing : (e : ℕ) (w v : Thing) (committed : Bool) → store.joined s (owner_of_thing h.next w) (owner_of_thing h.next v) committed ≡ Ok z → objects_of cs table (changed (rejoined (reference e) w v) h) ≡ z
    joined_thing e w (group_number g) committed is =
        regrouped_same cs table h g w ∙ ap (store.changed (store.regrouped g (owner_of_thing h.next w))) objects ∙ joined_second (owner_of_thing h.next w) g committed is
    joined_thing e (group_number g) v committed is =
        regrouped_same cs table h g v ∙ ap (store.changed (store.regrouped g (owner_of_thing h.next v))) objects ∙ joined_first g (owner_of_thing h.next v) committed (owner_is_group h.next v) is
    joined_thing e w v committed is =
        not_regrouped cs table h w v refl ∙ objects ∙ joined_none (owner_of_thing h.next w) (owner_of_thing h.next v) committed (owner_is_group h.next w) (owner_is_group h.next v) is

    pub joined_objects : (o e : ℕ) → store.join_of s o e ≡ Ok z → objects_of cs table (joined h (reference o) (reference e)) ≡ z
    joined_objects o e is =
        let r = at_object_ok s o (λ _ x. store.at_object s e (λ _ y. store.joined s x.owner y.owner y.committed)) z is in
        let q = at_object_ok s e (λ _ y. store.joined s r.0.owner y.owner y.committed) z r.2 in
        let a = allocated_at cs table h s objects o r.0 r.1 in
        let b = allocated_at cs table h s objects e q.0 q.1 in
        joined_thing e (h.at (reference o)).owner (h.at (reference e)).owner q.0.committed
        (ap (λ x. store.joined s x.owner (owner_of_thing h.next (h.at (reference e)).owner) q.0.committed) a.1 ∙ ap (λ y. store.joined s r.0.owner y.owner q.0.committed) b.1 ∙ q.2)

    -- what refers to nothing is in no group
    captured_nothing : (o : Thing) (t : ℕ) → objects_of cs table (captured h o t null) ≡ s
    captured_nothing o t = not_regrouped cs table h null (owner_pair o (class_name t)) refl ∙ objects

    joined_nothing : (o : Thing) → objects_of cs table (joined h o null) ≡ s
    joined_nothing o = objects_unchanged cs table h (rejoined null (h.at o).owner (h.at null).owner) (λ q x. refl) ∙ objects

    pub owned_objects : (m : Mark) (o t : ℕ) (w : ObjectValue) → store.with_owners m s o t w ≡ Ok z → objects_of cs table (owned_heap m h (reference o) t (as_thing (standing w))) ≡ z
    owned_objects mark.Plain o t (value.Obj e) is = objects ∙ ok_same s z is
    owned_objects mark.Rep o t (value.Obj e) is = captured_objects o t e is
    owned_objects mark.Peer o t (value.Obj e) is = joined_objects o e is
    owned_objects mark.Plain o t (value.Int n) is = objects ∙ ok_same s z is
    owned_objects mark.Plain o t (value.Bool b) is = objects ∙ ok_same s z is
    owned_objects mark.Plain o t value.Null is = objects ∙ ok_same s z is
    owned_objects mark.Rep o t (value.Int n) is = captured_nothing (reference o) t ∙ ok_same s z is
    owned_objects mark.Rep o t (value.Bool b) is = captured_nothing (reference o) t ∙ ok_same s z is
    owned_objects mark.Rep o t value.Null is = captured_nothing (reference o) t ∙ ok_same s z is
    owned_objects mark.Peer o t (value.Int n) is = joined_nothing (reference o) ∙ ok_same s z is
    owned_objects mark.Peer o t (value.Bool b) is = joined_nothing (reference o) ∙ ok_same s z is
    owned_objects mark.Peer o t value.Null is = joined_nothing (reference o) ∙ ok_same s z is

-- ---- groups stay numbered

module _ (cs : List ClassTree) (table : Table) (h : Heap) (numbered : IsNumbered h) where
  -- a structure in which one constant is the heap, and two are these things
  with_things : Thing → Thing → Structure
  with_things o e = record { stores = λ k. h; wholes = λ k. pos 0; truths = λ k. false; things = λ k. if eqb k 0 then o else e; table = table; numbered = λ k. numbered }

  the_store : Term
  the_store = app (Constant sort.Store 0) []

  the_thing : ℕ → Term
  the_thing k = app (Constant sort.Rest k) []

  captured_numbered : (o : Thing) (t : ℕ) (e : Thing) → IsNumbered (captured h o t e)
  unfolding with_things the_store the_thing
  captured_numbered o t e = store_numbered cs (with_things o e) (app (Capture t) (the_store ∷ the_thing 0 ∷ the_thing 1 ∷ []))

  joined_numbered : (o e : Thing) → IsNumbered (joined h o e)
  unfolding with_things the_store the_thing
  joined_numbered o e = store_numbered cs (with_things o e) (app Join (the_store ∷ the_thing 0 ∷ the_thing 1 ∷ []))

  pub owned_numbered : (m : Mark) (o : Thing) (t : ℕ) (e : Thing) → IsNumbered (owned_heap m h o t e)
  owned_numbered mark.Plain o t e = numbered
  owned_numbered mark.Rep o t e = captured_numbered o t e
  owned_numbered mark.Peer o t e = joined_numbered o e

  pub new_numbered : IsNumbered (with_new (new_object h.next) h)
  unfolding with_things the_store
  new_numbered = store_numbered cs (with_things null null) (app (New 0) (the_store ∷ []))

  pub array_numbered : (t : ℕ) → IsNumbered (with_new (new_array t h.next) h)
  unfolding with_things the_store the_thing
  array_numbered t = store_numbered cs (with_things null null) (app (NewArray t) (the_store ∷ the_thing 0 ∷ []))
