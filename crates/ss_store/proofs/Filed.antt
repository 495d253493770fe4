-- What is listed of a store after a change.
use Rattle.std.proofs.Common.{◌≡◌, ◌≢◌, ◌⊎◌, inl, inr, ⊎_elim, ℕ, zero, suc, ◌+◌, ◌<◌, List, [], ◌∷◌, ◌++◌, length, drop, get_or, Bool, true, false, not, ◌==◌, ◌&&◌, ◌||◌, Option, Some, None, refl, sym, ◌∙◌, ap, subst}
use Rattle.std.specs.Prelude.{slice_get, if◌then◌else◌}
use Rattle.std.specs.List.{list_all}
use Rattle.std.proofs.lemmas.Bool.{eqb-true, eq-eqb}
use Rattle.std.proofs.lemmas.List.{drop_more}
use Rattle.ss_core.specs.Tree.{ClassTree}
use Rattle.ss_core.specs.Chain.{sub}
use Rattle.ss_store_rules.specs.declared.Owner.{Owner}
use Rattle.ss_store_rules.specs.declared.Owner.TheVariants as owner
use Rattle.ss_store_rules.specs.Store.{Object}
use Rattle.ss_store_rules.specs.Reads.{is_full, is_in_group, is_pair_upto}
use Rattle.ss_store_rules.specs.Changes.{changed, is_owned, may_be_committed, regrouped, unpacked, repacked, new_object, new_array}
use Rattle.ss_store_rules.proofs.Objects.{each_changed, each_pushed}
use Rattle.ss_store_lists.specs.Listing.{is_listed, is_held, HasMore, IsTaken}
use Rattle.ss_store.specs.Listed.{holder, holds_of, holds_at, AreListed, AreFiledBut, IsMoved}
use Rattle.ss_core.specs.View.{classes}
use Rattle.ss_store.specs.Full.{is_full_among, holder_of}
use Rattle.ss_store.specs.declared.defaults.Those.{Those}
use Rattle.ss_store.specs.declared.defaults.Those.TheVariants as those
use Rattle.ss_store.proofs.Undergone.{either, group_holder, pair_holder}

no : {P : Type 0} (b : Bool) → b ≡ true → b ≡ false → P
no true e f = absurd (let g : true ≡ false = f in cc)
no false e f = absurd (let g : false ≡ true = e in cc)

-- ---- changes that keep owners

pub same_listed : (f : ℕ → Object → Object) (s : List Object) (l : Option (List (List ℕ))) → ((q : ℕ) (x : Object) → (f q x).owner ≡ x.owner) → AreListed s l → AreListed (changed f s) l
same_listed f s l owners a = each_changed f s (λ q y. is_held l (holder y.owner) q ≡ true) (λ q x e. ap (λ w. is_held l (holder w) q) (owners q x) ∙ a q x e)

pub unpacked_listed : (cs : List ClassTree) (o t : ℕ) (s : List Object) (l : Option (List (List ℕ))) → AreListed s l → AreListed (changed (unpacked cs o t) s) l
unpacked_listed cs o t s l a = same_listed (unpacked cs o t) s l (λ q x. refl) a

pub repacked_listed : (o t : ℕ) (s : List Object) (l : Option (List (List ℕ))) → AreListed s l → AreListed (changed (repacked o t) s) l
repacked_listed o t s l a = same_listed (repacked o t) s l (λ q x. refl) a

-- ---- a group gets an owner

pub regrouped_moved : (g : ℕ) (w : Owner) (s : List Object) (l : Option (List (List ℕ))) → AreListed s l → IsMoved (changed (regrouped g w) s) l g
regrouped_moved g w s l a = each_changed (regrouped g w) s (λ q y. (is_held l (holder y.owner) q ≡ true) ⊎ (is_held l g q ≡ true)) (λ q x e. moved q x (a q x e))
  where
    moved : (q : ℕ) (x : Object) → is_held l (holder x.owner) q ≡ true → (is_held l (holder (if is_in_group g x.owner then w else x.owner)) q ≡ true) ⊎ (is_held l g q ≡ true)
    moved q x h = ⊎_elim
        (λ member. inr (subst (λ k. is_held l k q ≡ true) (group_holder g x.owner member) h))
        (λ other. inl (ap (λ b. is_held l (holder (if b then w else x.owner)) q) other ∙ h))
        (either (is_in_group g x.owner))

-- what the object at g held is filed anew, itself first
pub refiled : (s : List Object) (l0 l1 l2 : Option (List (List ℕ))) (g : ℕ) (members : List ℕ) → IsMoved s l0 g → ((h q : ℕ) → h ≢ g → is_held l0 h q ≡ true → is_held l1 h q ≡ true) → ((q : ℕ) → is_held l0 g q ≡ true → IsTaken l1 g members q) → HasMore l1 l2 → ((x : Object) → slice_get s g ≡ Some x → is_held l2 (holder x.owner) g ≡ true) → AreFiledBut s l2 members
refiled s l0 l1 l2 g members moved others taken more filed q x e = ⊎_elim (λ own. at_holder own (either (holder x.owner == g))) (λ of_g. from_taken l1 (more (holder x.owner) q) (taken q of_g)) (moved q x e)
  where
    from_taken : (k : Option (List (List ℕ))) → (is_held k (holder x.owner) q ≡ true → is_held l2 (holder x.owner) q ≡ true) → IsTaken k g members q → (is_held l2 (holder x.owner) q ≡ true) ⊎ (is_listed members q ≡ true)
    from_taken None up t = inl (up refl)
    from_taken (Some k) up t = ⊎_elim (λ same. inl (subst (λ i. slice_get s i ≡ Some x → is_held l2 (holder x.owner) i ≡ true) (sym same) (filed x) e)) (λ member. inr member) t

    at_holder : is_held l0 (holder x.owner) q ≡ true → ((holder x.owner == g) ≡ true) ⊎ ((holder x.owner == g) ≡ false) → (is_held l2 (holder x.owner) q ≡ true) ⊎ (is_listed members q ≡ true)
    at_holder own (inl same) = from_taken l1 (more (holder x.owner) q) (taken q (subst (λ k. is_held l0 k q ≡ true) (eqb-true (holder x.owner) g same) own))
    at_holder own (inr other) = inl (more (holder x.owner) q (others (holder x.owner) q (λ same. no (holder x.owner == g) (eq-eqb (holder x.owner) g same) other) own))

-- one more is filed
pub filed_more : (s : List Object) (l l' : Option (List (List ℕ))) (ps : List ℕ) (i : ℕ) (d : ℕ) → i < length ps → AreFiledBut s l (drop i ps) → HasMore l l' → ((x : Object) → slice_get s (get_or ps i d) ≡ Some x → is_held l' (holder x.owner) (get_or ps i d) ≡ true) → AreFiledBut s l' (drop (i + 1) ps)
filed_more s l l' ps i d lt a more filed q x e = ⊎_elim (λ own. inl (more (holder x.owner) q own)) (λ left. one (ap (λ r. is_listed r q) (sym (drop_more ps i d lt)) ∙ left)) (a q x e)
  where
    one : ((get_or ps i d == q) || is_listed (drop (i + 1) ps) q) ≡ true → (is_held l' (holder x.owner) q ≡ true) ⊎ (is_listed (drop (i + 1) ps) q ≡ true)
    one h = ⊎_elim
        (λ here. inl (subst (λ k. slice_get s k ≡ Some x → is_held l' (holder x.owner) k ≡ true) (eqb-true (get_or ps i d) q here) (filed x) e))
        (λ other. inr (let f : is_listed (drop (i + 1) ps) q ≡ true = rw other at h in f))
        (either (get_or ps i d == q))

pub filed_all : (s : List Object) (l : Option (List (List ℕ))) (ps : List ℕ) → ps ≡ [] → AreFiledBut s l ps → AreListed s l
filed_all s l ps none a q x e = ⊎_elim (λ own. own) (λ left. absurd (let f : false ≡ true = sym (ap (λ r. is_listed r q) none) ∙ left in cc)) (a q x e)

-- ---- one object more

held_itself : (l : Option (List (List ℕ))) (q : ℕ) → is_held l q q ≡ true
held_itself None q = refl
held_itself (Some held) q = rw (eq-eqb q q refl) refl

pub object_listed : (cs : List ClassTree) (s : List Object) (t : ℕ) (l l' : Option (List (List ℕ))) → HasMore l l' → AreListed s l → AreListed (s ++ new_object cs t (length s) ∷ []) l'
object_listed cs s t l l' more a = each_pushed s (new_object cs t (length s)) (λ q y. is_held l' (holder y.owner) q ≡ true) (λ q x e. more (holder x.owner) q (a q x e)) (held_itself l' (length s))

pub array_listed : (s : List Object) (t n : ℕ) (l l' : Option (List (List ℕ))) → HasMore l l' → AreListed s l → AreListed (s ++ new_array t n (length s) ∷ []) l'
array_listed s t n l l' more a = each_pushed s (new_array t n (length s)) (λ q y. is_held l' (holder y.owner) q ≡ true) (λ q x e. more (holder x.owner) q (a q x e)) (held_itself l' (length s))

-- ---- a test of each object is one of those that are listed

all_or : (p : Object → Bool) (x : Object) (s : List Object) → p x ≡ false → list_all p (x ∷ s) ≡ false
all_or p x s e = rw e refl

fails_at : (p : Object → Bool) (s : List Object) (q : ℕ) → holds_at p s q ≡ false → list_all p s ≡ false
fails_at p [] q e = absurd (let f : true ≡ false = e in cc)
fails_at p (x ∷ s) zero e = all_or p x s e
fails_at p (x ∷ s) (suc q) e = ap (λ b. p x && b) (fails_at p s q e) ∙ and_false (p x)
  where
    and_false : (b : Bool) → (b && false) ≡ false
    and_false true = refl
    and_false false = refl

all_hold : (p : Object → Bool) (s : List Object) → ((q : ℕ) (x : Object) → slice_get s q ≡ Some x → p x ≡ true) → list_all p s ≡ true
all_hold p [] h = refl
all_hold p (x ∷ s) h = ap (λ b. b && list_all p s) (h 0 x refl) ∙ all_hold p s (λ q y e. h (suc q) y e)

one_fails : (p : Object → Bool) (s : List Object) (ps : List ℕ) → list_all (holds_at p s) ps ≡ false → list_all p s ≡ false
one_fails p s [] e = absurd (let f : true ≡ false = e in cc)
one_fails p s (q ∷ ps) e = ⊎_elim (λ here. one_fails p s ps (let f : list_all (holds_at p s) ps ≡ false = rw here at e in f)) (λ fails. fails_at p s q fails) (either (holds_at p s q))

listed_holds : (t : ℕ → Bool) (ps : List ℕ) (q : ℕ) → list_all t ps ≡ true → is_listed ps q ≡ true → t q ≡ true
listed_holds t [] q all listed = absurd (let f : false ≡ true = listed in cc)
listed_holds t (p ∷ ps) q all listed = ⊎_elim
    (λ here. subst (λ k. t k ≡ true) (eqb-true p q here) (left (t p) (list_all t ps) all))
    (λ other. listed_holds t ps q (right (t p) (list_all t ps) all) (let f : is_listed ps q ≡ true = rw other at listed in f))
    (either (p == q))
  where
    left : (a b : Bool) → (a && b) ≡ true → a ≡ true
    left true b e = refl
    left false b e = e

    right : (a b : Bool) → (a && b) ≡ true → b ≡ true
    right true b e = e
    right false b e = absurd (let f : false ≡ true = e in cc)

-- where all that fail are listed
pub all_among : (p : Object → Bool) (s : List Object) (ps : List ℕ) → ((q : ℕ) (x : Object) → slice_get s q ≡ Some x → p x ≡ false → is_listed ps q ≡ true) → list_all (holds_at p s) ps ≡ list_all p s
all_among p s ps listed = ⊎_elim
    (λ all. all ∙ sym (all_hold p s (λ q x e. ⊎_elim (λ yes. yes) (λ fails. sym (ap (holds_of p) e) ∙ listed_holds (holds_at p s) ps q all (listed q x e fails)) (either (p x)))))
    (λ fails. fails ∙ sym (one_fails p s ps fails))
    (either (list_all (holds_at p s) ps))

-- ---- what an object owns, and what isn't at its full level

owned_fails : (a b : Bool) → (not a || b) ≡ false → a ≡ true
owned_fails true b e = refl
owned_fails false b e = absurd (let f : true ≡ false = e in cc)

both_first : (a b : Bool) → (a && b) ≡ true → a ≡ true
both_first true b e = refl
both_first false b e = e

upto_holder : (cs : List ClassTree) (o t : ℕ) (w : Owner) → is_pair_upto cs o t w ≡ true → holder w ≡ o
upto_holder cs o t (owner.Group g) e = absurd (let f : false ≡ true = e in cc)
upto_holder cs o t (owner.Owned q u) e = eqb-true q o (both_first (q == o) (sub cs t u.0) e)

owned_listed : (o t : ℕ) (s : List Object) (l : Option (List (List ℕ))) (ps : List ℕ) → AreListed s l → ((q : ℕ) → is_held l o q ≡ true → q ≢ o → is_listed ps q ≡ true) → (q : ℕ) (x : Object) → slice_get s q ≡ Some x → may_be_committed o t x ≡ false → is_listed (o ∷ ps) q ≡ true
owned_listed o t s l ps a reached q x e fails = ⊎_elim
    (λ here. rw here refl)
    (λ other. ap (λ b. b || is_listed ps q) other ∙ reached q (subst (λ k. is_held l k q ≡ true) (pair_holder o t x.owner (owned_fails (is_owned o t x) (x.level == x.class && not x.committed) fails)) (a q x e)) (λ same. no (o == q) (eq-eqb o q (sym same)) other))
    (either (o == q))

pub commits_then : (o t : ℕ) (s : List Object) (l : Option (List (List ℕ))) (ps : List ℕ) → AreListed s l → ((q : ℕ) → is_held l o q ≡ true → q ≢ o → is_listed ps q ≡ true) → holds_at (may_be_committed o t) s o ≡ true → list_all (holds_at (may_be_committed o t) s) ps ≡ list_all (may_be_committed o t) s
commits_then o t s l ps a reached own = sym (ap (λ b. b && list_all (holds_at (may_be_committed o t) s) ps) own) ∙ all_among (may_be_committed o t) s (o ∷ ps) (owned_listed o t s l ps a reached)

pub commits_else : (o t : ℕ) (s : List Object) → holds_at (may_be_committed o t) s o ≡ false → false ≡ list_all (may_be_committed o t) s
commits_else o t s own = sym (fails_at (may_be_committed o t) s o own)

full_holder : (those : Those) (x : Object) → is_full_among those x ≡ false → holder x.owner ≡ holder_of those
full_holder (those.OwnedUpto table o t) x e = upto_holder (classes table.now) o t.0 x.owner (owned_fails (is_pair_upto (classes table.now) o t.0 x.owner) (is_full x) e)
full_holder (those.Members g) x e = group_holder g x.owner (owned_fails (is_in_group g x.owner) (is_full x) e)

full_listed : (those : Those) (s : List Object) (l : Option (List (List ℕ))) (ps : List ℕ) → AreListed s l → ((q : ℕ) → is_held l (holder_of those) q ≡ true → q ≢ holder_of those → is_listed ps q ≡ true) → (q : ℕ) (x : Object) → slice_get s q ≡ Some x → is_full_among those x ≡ false → is_listed (holder_of those ∷ ps) q ≡ true
full_listed those s l ps a reached q x e fails = ⊎_elim
    (λ here. rw here refl)
    (λ other. ap (λ b. b || is_listed ps q) other ∙ reached q (subst (λ k. is_held l k q ≡ true) (full_holder those x fails) (a q x e)) (λ same. no (holder_of those == q) (eq-eqb (holder_of those) q (sym same)) other))
    (either (holder_of those == q))

pub full_then : (those : Those) (s : List Object) (l : Option (List (List ℕ))) (ps : List ℕ) → AreListed s l → ((q : ℕ) → is_held l (holder_of those) q ≡ true → q ≢ holder_of those → is_listed ps q ≡ true) → holds_at (is_full_among those) s (holder_of those) ≡ true → list_all (holds_at (is_full_among those) s) ps ≡ list_all (is_full_among those) s
full_then those s l ps a reached own = sym (ap (λ b. b && list_all (holds_at (is_full_among those) s) ps) own) ∙ all_among (is_full_among those) s (holder_of those ∷ ps) (full_listed those s l ps a reached)

pub full_else : (those : Those) (s : List Object) → holds_at (is_full_among those) s (holder_of those) ≡ false → false ≡ list_all (is_full_among those) s
full_else those s own = sym (fails_at (is_full_among those) s (holder_of those) own)
