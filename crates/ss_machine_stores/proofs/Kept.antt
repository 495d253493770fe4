-- What a change keeps: the stores at entries, and what holds of the stores of a run.
use Rattle.std.proofs.Common.{◌≡◌, ℕ, ℤ, pos, negsuc, ◌+◌, List, [], ◌∷◌, length, Bool, true, false, not, ◌&&◌, Option, Some, None, Result, Ok, Err, refl, sym, ◌∙◌, ap, subst, inl, inr, ◌⊎◌, ⊎_elim}
use Rattle.std.specs.Prelude.{◌==◌, nat_lt, if◌then◌else◌, slice_get, unwrap_or, option_map}
use Rattle.std.specs.List.{list_all}
use Rattle.std.proofs.lemmas.Bool.{eqb-true, and_parts}
use Rattle.std.proofs.Math.Bool.{and-true, or-false}
use Rattle.ss_core.specs.declared.names.Kind.{Kind}
use Rattle.ss_core.specs.declared.names.Kind.TheVariants as kind
use Rattle.ss_core.specs.declared.names.Mark.{Mark}
use Rattle.ss_core.specs.declared.names.Mark.TheVariants as mark
use Rattle.ss_core.specs.Tree.{ClassTree}
use Rattle.ss_core.specs.Chain.{above}
use Rattle.ss_store_rules.specs.declared.Value.{Value}
use Rattle.ss_store_rules.specs.declared.Value.TheVariants as value
use Rattle.ss_store_rules.specs.declared.Owner.{Owner}
use Rattle.ss_store_rules.specs.declared.Owner.TheVariants as owner
use Rattle.ss_store_rules.specs.declared.Refused.{Refused}
use Rattle.ss_store_rules.specs.Store.{Slot, Object, slot_value}
use Rattle.ss_store_rules.specs.Reads.{is_pair, is_in_group, same_owner, no_object, object_at, is_full}
use Rattle.ss_store_rules.specs.Changes.{packed, is_owned, owned_by, at_object, changed_from, changed, field_class, field_mark, unpacked, unpacking, unpack_of, repacked, may_be_committed, packing, pack_of, regrouped, captured, joined, joined_apart, with_owners, with_field, written, then_written, writing, write_of, element_written, writing_element, write_element_of, made_ready, ready_of, IsChange}
use Rattle.ss_store_rules.proofs.Objects.{length-changed, each_changed}
use Rattle.ss_store_rules.proofs.Owners.{check_ok, at_object_ok, on_object_ok}
use Rattle.ss_journal.specs.Shapes.{Segment}
use Rattle.ss_journal.specs.Undo.{entries_of}
use Rattle.ss_journal.specs.Saved.{has_header, has_content, counts, HasMore}
use Rattle.ss_journal.proofs.Undo.{IsOfHeaders, IsOfContents, entries_stay, entries_stay_too}
use Rattle.ss_machine_saves.specs.Whole.{agrees_with, agrees, is_listed, HasMoreListed, AreCounted, AreWhole}
use Rattle.ss_machine_saves.specs.Moved.{group_joined, group_captured, group_for, moved_group, HasContent, IsGroupSaved, IsReadyForLevel, IsReadyForWrite}
use Rattle.ss_machine_stores.specs.Stops.{answer_of, IsMade}
use Rattle.ss_machine_stores.proofs.Untouched.{same_self}

either : (b : Bool) → (b ≡ true) ⊎ (b ≡ false)
either true = inl refl
either false = inr refl

both : (a b : Bool) → a ≡ true → b ≡ true → (a && b) ≡ true
both true b e f = f
both false b e f = cc

-- the entries are as before, and the stores are those of a run
pub record AreKept (s t : List Object) (gs hs : List Segment) (us : List ℕ) : Type 0 where
  pub entries : entries_of hs t ≡ entries_of gs s
  pub whole : AreWhole t hs us

pub whole_more : (s : List Object) (gs hs : List Segment) (us vs : List ℕ) → HasMore s gs hs → HasMoreListed us vs → AreWhole s gs us → AreWhole s hs vs
whole_more s gs hs us vs m l w = record {
  counted = subst (λ ns. AreCounted ns (length s)) (sym m.counts) w.counted;
  agree = w.agree;
  listed = λ q x e n. l q (w.listed q x e n);
}

agree_changed_from : (n : ℕ) (f : ℕ → Object → Object) (s : List Object) → ((q : ℕ) (x : Object) → agrees x ≡ true → agrees (f q x) ≡ true) → list_all agrees s ≡ true → list_all agrees (changed_from n f s) ≡ true
agree_changed_from n f [] h a = refl
agree_changed_from n f (x ∷ xs) h a =
    let b = and_parts (agrees x) (list_all agrees xs) a in
    both (agrees (f n x)) (list_all agrees (changed_from (n + 1) f xs)) (h n x b.0) (agree_changed_from (n + 1) f xs h b.1)

agrees_same : (y x : Object) → y.fields ≡ x.fields → agrees x ≡ true → agrees y ≡ true
agrees_same y x e a = ap (λ fs. list_all (λ z. agrees_with (slot_value fs z.field) z.content) fs) e ∙ a

whole_changed : (f : ℕ → Object → Object) (s : List Object) (gs : List Segment) (us : List ℕ) → AreWhole s gs us → ((q : ℕ) (x : Object) → agrees x ≡ true → agrees (f q x) ≡ true) → ((q : ℕ) (x : Object) → is_full (f q x) ≡ false → (is_full x ≡ false) ⊎ (is_listed us q ≡ true)) → AreWhole (changed f s) gs us
whole_changed f s gs us w agree levels = record {
  counted = subst (AreCounted (counts gs)) (sym (length-changed f s)) w.counted;
  agree = agree_changed_from 0 f s agree w.agree;
  listed = each_changed f s (λ q y. is_full y ≡ false → is_listed us q ≡ true) (λ q x e n. ⊎_elim (λ old. w.listed q x e old) (λ l. l) (levels q x n));
}

kept_by_headers : (f : ℕ → Object → Object) (s : List Object) (gs : List Segment) (us : List ℕ) → AreWhole s gs us → IsOfHeaders f → ((q : ℕ) (x : Object) → (f q x).fields ≡ x.fields) → ((q : ℕ) (x : Object) → slice_get s q ≡ Some x → (f q x ≡ x) ⊎ (has_header gs q ≡ true)) → ((q : ℕ) (x : Object) → is_full (f q x) ≡ false → (is_full x ≡ false) ⊎ (is_listed us q ≡ true)) → AreKept s (changed f s) gs gs us
kept_by_headers f s gs us w of fields why levels = record {
  entries = entries_stay gs f s of why;
  whole = whole_changed f s gs us w (λ q x a. agrees_same (f q x) x (fields q x) a) levels;
}

kept_by_contents : (f : ℕ → Object → Object) (s : List Object) (gs : List Segment) (us : List ℕ) → AreWhole s gs us → IsOfContents f → ((q : ℕ) (x : Object) → slice_get s q ≡ Some x → (f q x ≡ x) ⊎ (has_content gs q ≡ true)) → ((q : ℕ) (x : Object) → agrees x ≡ true → agrees (f q x) ≡ true) → ((q : ℕ) (x : Object) → is_full (f q x) ≡ false → is_full x ≡ false) → AreKept s (changed f s) gs gs us
kept_by_contents f s gs us w of why agree levels = record {
  entries = entries_stay_too gs f s of why;
  whole = whole_changed f s gs us w agree (λ q x n. inl (levels q x n));
}

kept_again : (s t r : List Object) (gs : List Segment) (us : List ℕ) → AreKept s t gs gs us → AreKept t r gs gs us → AreKept s r gs gs us
kept_again s t r gs us one two = record { entries = two.entries ∙ one.entries; whole = two.whole }

-- the store made the change or refused it
pub made_kept : (s t : List Object) (gs hs : List Segment) (us vs : List ℕ) (r : Result (Unit {0}) Refused) (d : Result (List Object) Kind) → AreWhole s gs us → HasMore s gs hs → HasMoreListed us vs → IsChange s t r d → ((t : List Object) → AreWhole s hs vs → d ≡ Ok t → AreKept s t hs hs vs) → AreKept s t gs hs vs
made_kept s t gs hs us vs (Ok u) d w m l is k = let x = k t (whole_more s gs hs us vs m l w) is in record { entries = x.entries ∙ m.entries; whole = x.whole }
made_kept s t gs hs us vs (Err e) d w m l is k = subst (λ r. AreKept s r gs hs vs) (sym is.1) (record { entries = m.entries; whole = whole_more s gs hs us vs m l w })

pub made_is : (s t : List Object) (r : Result (Unit {0}) Refused) (d : Result (List Object) Kind) → IsChange s t r d → IsMade s t (answer_of r) d
made_is s t (Ok u) d is = is
made_is s t (Err e) d is = is

-- ---- levels

unpacked_same : (cs : List ClassTree) (o t q : ℕ) (x : Object) → (q == o) ≡ false → is_owned o t x ≡ false → unpacked cs o t q x ≡ x
unpacked_same cs o t q x e n = rw (e, n, and-true x.committed) refl

repacked_same : (o t q : ℕ) (x : Object) → (q == o) ≡ false → is_owned o t x ≡ false → repacked o t q x ≡ x
repacked_same o t q x e n = rw (e, n, or-false x.committed) refl

level_or : (b : Bool) (l m c : ℕ) → ((if b then l else m) == c) ≡ false → ((m == c) ≡ false) ⊎ (b ≡ true)
level_or true l m c n = inr refl
level_or false l m c n = inl n

-- an object that changes its header, or what it owns, is logged
why_level : (s : List Object) (gs : List Segment) (us : List ℕ) (o t : ℕ) (f : ℕ → Object → Object) → IsReadyForLevel s gs us (value.Obj o) t → ((q : ℕ) (x : Object) → (q == o) ≡ false → is_owned o t x ≡ false → f q x ≡ x) → (q : ℕ) (x : Object) → slice_get s q ≡ Some x → (f q x ≡ x) ⊎ (has_header gs q ≡ true)
why_level s gs us o t f r same q x e =
    ⊎_elim
    (λ here. inr (subst (λ i. has_header gs i ≡ true) (sym (eqb-true q o here)) (r.object o refl)))
    (λ other. ⊎_elim
    (λ owned. inr (r.owned o refl q x e owned))
    (λ not_owned. inl (same q x other not_owned))
    (either (is_owned o t x)))
    (either (q == o))

full_level : (us : List ℕ) (o l q : ℕ) (x : Object) → is_listed us o ≡ true → ((if q == o then l else x.level) == x.class) ≡ false → (is_full x ≡ false) ⊎ (is_listed us q ≡ true)
full_level us o l q x listed n =
    ⊎_elim inl (λ here. inr (subst (λ i. is_listed us i ≡ true) (sym (eqb-true q o here)) listed)) (level_or (q == o) l x.level x.class n)

pub unpack_kept : (cs : List ClassTree) (s : List Object) (gs : List Segment) (us : List ℕ) (v : Value) (t : ℕ) → IsReadyForLevel s gs us v t → (r : List Object) → AreWhole s gs us → unpack_of cs s v t ≡ Ok r → AreKept s r gs gs us
unpack_kept cs s gs us v t ready r w h =
    let on = on_object_ok s v (unpacking cs s t) r h in
    let o = on.0 in
    let x = on.2.0 in
    let a = check_ok (x.level == t) kind.UnpackLevel _ r on.2.2 in
    let b = check_ok (not x.committed) kind.UnpackCommitted _ r a.1 in
    let is : changed (unpacked cs o t) s ≡ r = let e = b.1 in cc in
    let ready_o = subst (λ u. IsReadyForLevel s gs us u t) on.1 ready in
    subst (λ z. AreKept s z gs gs us) is
    (kept_by_headers (unpacked cs o t) s gs us w (λ q y k. refl) (λ q y. refl)
    (why_level s gs us o t (unpacked cs o t) ready_o (unpacked_same cs o t))
    (λ q y n. full_level us o (above cs t) q y (ready_o.listed o refl) n))

pub pack_kept : (cs : List ClassTree) (holds : List Object → ℕ → ℕ → Bool) (s : List Object) (gs : List Segment) (us : List ℕ) (v : Value) (t : ℕ) → IsReadyForLevel s gs us v t → (r : List Object) → AreWhole s gs us → pack_of cs holds s v t ≡ Ok r → AreKept s r gs gs us
pack_kept cs holds s gs us v t ready r w h =
    let on = on_object_ok s v (packing cs holds s t) r h in
    let o = on.0 in
    let x = on.2.0 in
    let a = check_ok (x.level == above cs t) kind.PackLevel _ r on.2.2 in
    let b = check_ok (holds s o t) kind.Invariant _ r a.1 in
    let d = check_ok (list_all (may_be_committed o t) s) kind.PackOwned _ r b.1 in
    let is : changed (repacked o t) s ≡ r = let e = d.1 in cc in
    let ready_o = subst (λ u. IsReadyForLevel s gs us u t) on.1 ready in
    subst (λ z. AreKept s z gs gs us) is
    (kept_by_headers (repacked o t) s gs us w (λ q y k. refl) (λ q y. refl)
    (why_level s gs us o t (repacked o t) ready_o (repacked_same o t))
    (λ q y n. full_level us o t q y (ready_o.listed o refl) n))

-- ---- ready

ready_same : (o q : ℕ) (x : Object) → (q == o) ≡ false → made_ready o q x ≡ x
ready_same o q x e = rw (e, or-false x.ready) refl

pub ready_kept : (s : List Object) (gs : List Segment) (us : List ℕ) (o : ℕ) → has_header gs o ≡ true → AreWhole s gs us → AreKept s (ready_of s o) gs gs us
ready_kept s gs us o has w =
    kept_by_headers (made_ready o) s gs us w (λ q y k. refl) (λ q y. refl)
    (λ q x e. ⊎_elim
    (λ here. inr (subst (λ i. has_header gs i ≡ true) (sym (eqb-true q o here)) has))
    (λ other. inl (ready_same o q x other))
    (either (q == o)))
    (λ q y n. inl n)

-- ---- elements

element_same : (a i : ℕ) (v : Value) (q : ℕ) (x : Object) → (q == a) ≡ false → element_written a i v q x ≡ x
element_same a i v q x e = rw e refl

content_refl : (a i : ℕ) (v : Value) → IsOfContents (element_written a i v)
content_refl a i v q x None c = refl
content_refl a i v q x (Some h) c = refl

pub element_kept : (s : List Object) (gs : List Segment) (us : List ℕ) (w : Value) (i : ℤ) (v : Value) → HasContent gs w → (r : List Object) → AreWhole s gs us → write_element_of s w i v ≡ Ok r → AreKept s r gs gs us
element_kept s gs us w (negsuc i) v has r whole h = let on = on_object_ok s w (writing_element s (negsuc i) v) r h in let e = on.2.2 in cc
element_kept s gs us w (pos i) v has r whole h =
    let on = on_object_ok s w (writing_element s (pos i) v) r h in
    let a = on.0 in
    let x = on.2.0 in
    let l = check_ok (nat_lt i (length x.elements)) kind.Index _ r on.2.2 in
    let d = check_ok (not x.committed) kind.WriteCommitted _ r l.1 in
    let is : changed (element_written a i v) s ≡ r = let e = d.1 in cc in
    subst (λ z. AreKept s z gs gs us) is
    (kept_by_contents (element_written a i v) s gs us whole (content_refl a i v)
    (λ q x e. ⊎_elim
    (λ here. inr (subst (λ j. has_content gs j ≡ true) (sym (eqb-true q a here)) (has a on.1)))
    (λ other. inl (element_same a i v q x other))
    (either (q == a)))
    (λ q x e. e)
    (λ q x n. n))

-- ---- fields

slot_written : (xs : List Slot) (f : ℕ) (v : Value) (g : ℕ) → slot_value (with_field xs f v) g ≡ option_map (λ w. if g == f then v else w) (slot_value xs g)
slot_written [] f v g = refl
slot_written (x ∷ xs) f v g =
    ⊎_elim
    (λ here. let is = eqb-true x.field g here in rw (here, is) refl)
    (λ other. rw other (slot_written xs f v g))
    (either (x.field == g))

slot_agrees : (b : Bool) (r : Option Value) (u v : Value) → agrees_with r u ≡ true → agrees_with (option_map (λ w. if b then v else w) r) (if b then v else u) ≡ true
slot_agrees b None u v e = cc
slot_agrees true (Some w) u v e = same_self v
slot_agrees false (Some w) u v e = e

fields_agree : (all xs : List Slot) (f : ℕ) (v : Value) → list_all (λ y. agrees_with (slot_value all y.field) y.content) xs ≡ true → list_all (λ y. agrees_with (slot_value (with_field all f v) y.field) y.content) (with_field xs f v) ≡ true
fields_agree all [] f v a = refl
fields_agree all (x ∷ xs) f v a =
    let b = and_parts (agrees_with (slot_value all x.field) x.content) (list_all (λ y. agrees_with (slot_value all y.field) y.content) xs) a in
    let here = ap (λ r. agrees_with r (if x.field == f then v else x.content)) (slot_written all f v x.field) ∙ slot_agrees (x.field == f) (slot_value all x.field) x.content v b.0 in
    both _ _ here (fields_agree all xs f v b.1)

written_agrees : (b : Bool) (f : ℕ) (v : Value) (x : Object) → agrees x ≡ true → agrees (record x { fields = if b then with_field x.fields f v else x.fields }) ≡ true
written_agrees true f v x a = fields_agree x.fields x.fields f v a
written_agrees false f v x a = a

field_refl : (o f : ℕ) (v : Value) → IsOfContents (written o f v)
field_refl o f v q x None c = refl
field_refl o f v q x (Some h) c = refl

written_kept : (s : List Object) (gs : List Segment) (us : List ℕ) (o f : ℕ) (v : Value) → has_content gs o ≡ true → AreWhole s gs us → AreKept s (changed (written o f v) s) gs gs us
written_kept s gs us o f v has w =
    kept_by_contents (written o f v) s gs us w (field_refl o f v)
    (λ q x e. ⊎_elim
    (λ here. inr (subst (λ j. has_content gs j ≡ true) (sym (eqb-true q o here)) has))
    (λ other. let same : written o f v q x ≡ x = rw other refl in inl same)
    (either (q == o)))
    (λ q x a. written_agrees (q == o) f v x a)
    (λ q x n. n)

-- ---- owners

-- nothing changes, or this group gets another owner
abbrev pub IsMoved : Option ℕ → List Object → List Object → Type 0
IsMoved group s t = (t ≡ s) ⊎ ((g : ℕ) × (w : Owner) × (group ≡ Some g) × (t ≡ changed (regrouped g w) s))

captured_moved : (s : List Object) (o t : ℕ) (w : Owner) (r : List Object) → captured s o t w ≡ Ok r → IsMoved (group_captured w) s r
captured_moved s o t (owner.Group g) r h = let is : r ≡ changed (regrouped g (owned_by o t)) s = cc in inr (g, owned_by o t, refl, is)
captured_moved s o t (owner.Owned p u) r h = let c = (check_ok (is_pair o t (owner.Owned p u)) kind.RepOwner (Ok s) r h).1 in let is : r ≡ s = cc in inl is

apart_moved : (s : List Object) (w v : Owner) (b : Bool) (r : List Object) → joined_apart s w v b ≡ Ok r → IsMoved (group_joined w v) s r
apart_moved s w (owner.Group g) b r h = let is : r ≡ changed (regrouped g w) s = cc in inr (g, w, refl, is)
apart_moved s (owner.Group g) (owner.Owned p u) b r h = let c = (check_ok (not b) kind.PeerOwner _ r h).1 in let is : r ≡ changed (regrouped g (owner.Owned p u)) s = cc in inr (g, owner.Owned p u, refl, is)
apart_moved s (owner.Owned o t) (owner.Owned p u) b r h = cc

joined_moved : (s : List Object) (same : Bool) (w v : Owner) (b : Bool) (r : List Object) → (if same then Ok s else joined_apart s w v b) ≡ Ok r → IsMoved (if same then None else group_joined w v) s r
joined_moved s true w v b r h = let is : r ≡ s = cc in inl is
joined_moved s false w v b r h = apart_moved s w v b r h

object_there : (s : List Object) (o : ℕ) (x : Object) → slice_get s o ≡ Some x → x ≡ object_at s o
object_there s o x e = sym (ap (λ z. unwrap_or z no_object) e)

owners_moved : (m : Mark) (s : List Object) (o t : ℕ) (v : Value) (r : List Object) → with_owners m s o t v ≡ Ok r → IsMoved (moved_group m s o v) s r
owners_moved m s o t (value.Int n) r h = let is : r ≡ s = cc in inl is
owners_moved m s o t (value.Bool b) r h = let is : r ≡ s = cc in inl is
owners_moved m s o t value.Null r h = let is : r ≡ s = cc in inl is
owners_moved mark.Plain s o t (value.Obj e) r h = let is : r ≡ s = cc in inl is
owners_moved mark.Rep s o t (value.Obj e) r h =
    let at = at_object_ok s e (λ _ y. captured s o t y.owner) r h in
    subst (λ (y : Object). IsMoved (group_captured y.owner) s r) (object_there s e at.0 at.1) (captured_moved s o t (at.0).owner r at.2)
owners_moved mark.Peer s o t (value.Obj e) r h =
    let one = at_object_ok s o (λ _ x. at_object s e (λ _ y. joined s x.owner y.owner y.committed)) r h in
    let two = at_object_ok s e (λ _ y. joined s (one.0).owner y.owner y.committed) r one.2 in
    let x = one.0 in
    let y = two.0 in
    subst (λ (z : Object). IsMoved (group_for mark.Peer z.owner (object_at s e).owner) s r) (object_there s o x one.1)
    (subst (λ (z : Object). IsMoved (group_for mark.Peer x.owner z.owner) s r) (object_there s e y two.1)
    (joined_moved s (same_owner x.owner y.owner) x.owner y.owner y.committed r two.2))

regrouped_same : (g : ℕ) (w : Owner) (q : ℕ) (x : Object) → is_in_group g x.owner ≡ false → regrouped g w q x ≡ x
regrouped_same g w q x e = rw e refl

moved_kept : (group : Option ℕ) (s t : List Object) (gs : List Segment) (us : List ℕ) → IsGroupSaved group s gs → AreWhole s gs us → IsMoved group s t → AreKept s t gs gs us
moved_kept group s t gs us saved w moved =
    ⊎_elim
    (λ same. subst (λ z. AreKept s z gs gs us) (sym same) (record { entries = refl; whole = w }))
    (λ m. subst (λ z. AreKept s z gs gs us) (sym m.3)
    (kept_by_headers (regrouped m.0 m.1) s gs us w (λ q y k. refl) (λ q y. refl)
    (λ q x e. ⊎_elim
    (λ member. inr (saved m.0 m.2 q x e member))
    (λ other. inl (regrouped_same m.0 m.1 q x other))
    (either (is_in_group m.0 x.owner)))
    (λ q y n. inl n)))
    moved

then_ok : (o f : ℕ) (v : Value) (r : Result (List Object) Kind) (t : List Object) → then_written o f v r ≡ Ok t → (s : List Object) × (r ≡ Ok s) × (changed (written o f v) s ≡ t)
then_ok o f v (Ok s) t h = (s, refl, cc)
then_ok o f v (Err k) t h = cc

pub write_kept : (cs : List ClassTree) (s : List Object) (gs : List Segment) (us : List ℕ) (w : Value) (f : ℕ) (v : Value) → IsReadyForWrite s gs (field_mark cs f) w v → (r : List Object) → AreWhole s gs us → write_of cs s w f v ≡ Ok r → AreKept s r gs gs us
write_kept cs s gs us w f v ready r whole h =
    let on = on_object_ok s w (writing cs s f v) r h in
    let o = on.0 in
    let x = on.2.0 in
    let a = check_ok (not (packed cs x (field_class cs f))) kind.WriteLevel _ r on.2.2 in
    let b = then_ok o f v (with_owners (field_mark cs f) s o (field_class cs f) v) r a.1 in
    let moved = moved_kept (moved_group (field_mark cs f) s o v) s b.0 gs us (ready.group o on.1) whole (owners_moved (field_mark cs f) s o (field_class cs f) v b.0 b.1) in
    subst (λ z. AreKept s z gs gs us) b.2
    (kept_again s b.0 (changed (written o f v) b.0) gs us moved (written_kept b.0 gs us o f v (ready.object o on.1) moved.whole))
