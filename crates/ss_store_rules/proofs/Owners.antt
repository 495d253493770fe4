-- What a capture and a join leave: a good store in which owners alone changed.
use Rattle.std.proofs.Common.{◌≡◌, ℕ, ◌<◌, List, length, Bool, true, false, not, Option, Some, None, eqb, refl, sym, ◌∙◌, ap, subst}
use Rattle.std.specs.Prelude.{if◌then◌else◌, slice_get, Result, Ok}
use Rattle.std.proofs.lemmas.Option.{slice_get_within}
use Rattle.std.proofs.lemmas.Bool.{eq-eqb, eqb-true, and_parts, false≢true}
use Rattle.ss_core.specs.declared.names.Kind.{Kind}
use Rattle.ss_core.specs.declared.names.Kind.TheVariants as kind
use Rattle.ss_core.specs.declared.names.Ty.{Ty}
use Rattle.ss_core.specs.Tree.{ClassTree}
use Rattle.ss_store_rules.specs.declared.Value.{Value}
use Rattle.ss_store_rules.specs.declared.Owner.{Owner}
use Rattle.ss_store_rules.specs.declared.Owner.TheVariants as owner
use Rattle.ss_store_rules.specs.Store.{Object}
use Rattle.ss_store_rules.specs.Changes.{packed, owned_by, check, with_object, at_object, on_object, changed, regrouped, captured, capture_of, joined, joined_apart, join_of}
use Rattle.ss_store_rules.specs.Reads.{is_pair, is_in_group, same_owner}
use Rattle.ss_store_rules.specs.declared.Value.TheVariants as value
use Rattle.ss_store_rules.specs.Good.{has_type, IsReady, Invariants, IsGood, IsLocal}
use Rattle.ss_store_rules.proofs.Objects.{was, becomes, same_at, same_object}
use Rattle.ss_store_rules.proofs.Typed.{has_type-changed, IsReady-changed}
use Rattle.ss_store_rules.proofs.Regroup.{MayOwn, IsGood-regrouped}

-- ---- a change that came out

pub check_ok : (b : Bool) (k : Kind) (r : Result (List Object) Kind) (s : List Object) → check b k r ≡ Ok s → (b ≡ true) × (r ≡ Ok s)
check_ok true k r s h = (refl, h)
check_ok false k r s h = cc

pub not_true : (b : Bool) → not b ≡ true → b ≡ false
not_true true h = absurd (false≢true h)
not_true false h = refl

with_object_ok : (change : ℕ → Object → Result (List Object) Kind) (o : ℕ) (x : Option Object) (s : List Object) → with_object change o x ≡ Ok s → (y : Object) × (x ≡ Some y) × (change o y ≡ Ok s)
with_object_ok change o None s h = cc
with_object_ok change o (Some x) s h = (x, refl, h)

pub at_object_ok : (s : List Object) (o : ℕ) (change : ℕ → Object → Result (List Object) Kind) (s' : List Object) → at_object s o change ≡ Ok s' → (x : Object) × (slice_get s o ≡ Some x) × (change o x ≡ Ok s')
at_object_ok s o change s' h = with_object_ok change o (slice_get s o) s' h

pub on_object_ok : (s : List Object) (v : Value) (change : ℕ → Object → Result (List Object) Kind) (s' : List Object) → on_object s v change ≡ Ok s' → (o : ℕ) × (v ≡ value.Obj o) × ((x : Object) × (slice_get s o ≡ Some x) × (change o x ≡ Ok s'))
on_object_ok s (value.Obj o) change s' h = (o, refl, at_object_ok s o change s' h)
on_object_ok s (value.Int n) change s' h = cc
on_object_ok s (value.Bool b) change s' h = cc
on_object_ok s value.Null change s' h = cc

-- ---- owners

pair_is : (o t : ℕ) (w : Owner) → is_pair o t w ≡ true → w ≡ owned_by o t
pair_is o t (owner.Group g) h = absurd (false≢true h)
pair_is o t (owner.Owned p u) h =
    let b = and_parts (eqb p o) (eqb u.0 t) h in
    let po = eqb-true p o b.0 in
    let ut = eqb-true u.0 t b.1 in
    ap (λ n. owner.Owned n u) po ∙ ap (λ n. owned_by o n) ut

same_owner_is : (w v : Owner) → same_owner w v ≡ true → v ≡ w
same_owner_is (owner.Group g) (owner.Group h) e = ap owner.Group (sym (eqb-true g h e))
same_owner_is (owner.Owned o t) (owner.Owned p u) e =
    let b = and_parts (eqb o p) (eqb t.0 u.0) e in
    ap (λ n. owner.Owned n u) (sym (eqb-true o p b.0)) ∙ ap (λ n. owned_by o n) (sym (eqb-true t.0 u.0 b.1))
same_owner_is (owner.Group g) (owner.Owned p u) e = absurd (false≢true e)
same_owner_is (owner.Owned o t) (owner.Group h) e = absurd (false≢true e)

-- a member of the group has the new owner
member_owner : (g : ℕ) (w v : Owner) → v ≡ owner.Group g → (if is_in_group g v then w else v) ≡ w
member_owner g w v e = rw (e, eq-eqb g g refl) refl

-- who has the new owner keeps it
kept_owner : (b : Bool) (w : Owner) → (if b then w else w) ≡ w
kept_owner true w = refl
kept_owner false w = refl

-- A good store s', which has the objects of s with other owners.
pub record HasOwners (cs : List ClassTree) (holds : Invariants) (s s' : List Object) : Type 0 where
  pub good : IsGood cs holds s'
  pub typed : (t : Ty) (v : Value) → has_type cs s' t v ≡ has_type cs s t v
  pub ready : (v : Value) → IsReady s v → IsReady s' v
  pub object : (q : ℕ) (x : Object) → slice_get s q ≡ Some x → (x' : Object) × (slice_get s' q ≡ Some x') × (x'.class ≡ x.class) × (x'.level ≡ x.level)

module _ (cs : List ClassTree) (holds : Invariants) (local : IsLocal cs holds) (s : List Object) (good : IsGood cs holds s) where
  pub HasOwners-same : HasOwners cs holds s s
  HasOwners-same = record {
    good = good;
    typed = λ t v. refl;
    ready = λ v r. r;
    object = λ q x e. (x, e, refl, refl);
  }

  HasOwners-regrouped : (g : ℕ) (w : Owner) → MayOwn cs s w → HasOwners cs holds s (changed (regrouped g w) s)
  HasOwners-regrouped g w may = record {
    good = IsGood-regrouped cs holds local s good g w may;
    typed = λ t v. has_type-changed cs (regrouped g w) (λ q z. refl) s t v;
    ready = λ v r. IsReady-changed (regrouped g w) (λ q z e. e) s v r;
    object = λ q x e. (regrouped g w q x, becomes (regrouped g w) s q x e, refl, refl);
  }

  -- what an object was before owners changed
  owner_now : (g : ℕ) (w : Owner) (q : ℕ) (x x' : Object) → slice_get s q ≡ Some x → slice_get (changed (regrouped g w) s) q ≡ Some x' → x'.owner ≡ (if is_in_group g x.owner then w else x.owner)
  owner_now g w q x x' e e' =
      let z = was (regrouped g w) s q x' e' in
      sym (ap (λ y. y.owner) z.2) ∙ ap (λ y. if is_in_group g y.owner then w else y.owner) (same_object s q z.0 x z.1 e)

  -- ---- capture

  -- the pair of an object that isn't packed at the class
  MayOwn-pair : (o t : ℕ) (x : Object) → slice_get s o ≡ Some x → packed cs x t ≡ false → MayOwn cs s (owned_by o t)
  MayOwn-pair o t x ex unpacked = record {
    group_number = λ g e. cc;
    owner_allocated = λ p u e. let is : o ≡ p = cc in subst (λ n. n < length s) is (slice_get_within s o x ex);
    unpacked = λ p u e y ey.
        let is : o ≡ p = cc in
        let tu : t ≡ u = pair_class o p t u e in
        subst (λ n. packed cs y n ≡ false) tu (subst (λ n. packed cs n t ≡ false) (same_at s o p x y is ex ey) unpacked);
  }
    where
      pair_class : (o p t u : ℕ) → owned_by o t ≡ owned_by p u → t ≡ u
      pair_class o p t u e = ap class_in e
        where
          class_in : Owner → ℕ
          class_in (owner.Group g) = 0
          class_in (owner.Owned q v) = v.0

  captured_ok : (o t : ℕ) (x : Object) → slice_get s o ≡ Some x → packed cs x t ≡ false → (e : ℕ) (y : Object) → slice_get s e ≡ Some y → (w : Owner) → y.owner ≡ w → (s' : List Object) → captured s o t w ≡ Ok s' →
      HasOwners cs holds s s' × ((y' : Object) → slice_get s' e ≡ Some y' → y'.owner ≡ owned_by o t)
  captured_ok o t x ex unpacked e y ey (owner.Group g) is s' h =
      let same : changed (regrouped g (owned_by o t)) s ≡ s' = cc in
      subst (λ z. HasOwners cs holds s z × ((y' : Object) → slice_get z e ≡ Some y' → y'.owner ≡ owned_by o t)) same
      (HasOwners-regrouped g (owned_by o t) (MayOwn-pair o t x ex unpacked), λ y' ey'. owner_now g (owned_by o t) e y y' ey ey' ∙ member_owner g (owned_by o t) y.owner is)
  captured_ok o t x ex unpacked e y ey (owner.Owned p u) is s' h =
      let c = check_ok (is_pair o t (owner.Owned p u)) kind.RepOwner (Ok s) s' h in
      let same : s ≡ s' = cc in
      subst (λ z. HasOwners cs holds s z × ((y' : Object) → slice_get z e ≡ Some y' → y'.owner ≡ owned_by o t)) same
      (HasOwners-same, λ y' ey'. ap (λ n. n.owner) (same_object s e y' y ey' ey) ∙ is ∙ pair_is o t (owner.Owned p u) c.0)

  -- a capture for an object that isn't packed at the class
  pub capture_ok : (o t : ℕ) (x : Object) → slice_get s o ≡ Some x → packed cs x t ≡ false → (e : ℕ) (s' : List Object) → capture_of s o t e ≡ Ok s' →
      HasOwners cs holds s s' × ((y' : Object) → slice_get s' e ≡ Some y' → y'.owner ≡ owned_by o t)
  capture_ok o t x ex unpacked e s' h = let r = at_object_ok s e (λ _ y. captured s o t y.owner) s' h in captured_ok o t x ex unpacked e r.0 r.1 r.0.owner refl s' r.2

  -- ---- join

  -- the owner of an object that isn't committed
  MayOwn-owner : (q : ℕ) (x : Object) → slice_get s q ≡ Some x → x.committed ≡ false → MayOwn cs s x.owner
  MayOwn-owner q x ex uncommitted = record {
    group_number = λ g e. (good q x ex).group_number g e;
    owner_allocated = λ p t e. (good q x ex).owner_allocated p t e;
    unpacked = λ p t e y ey. sym ((good q x ex).owned p t e y ey) ∙ uncommitted;
  }

  joined_apart_ok : (o e : ℕ) (x y : Object) → slice_get s o ≡ Some x → x.committed ≡ false → slice_get s e ≡ Some y → (w v : Owner) → x.owner ≡ w → y.owner ≡ v → (s' : List Object) → joined_apart s w v y.committed ≡ Ok s' →
      HasOwners cs holds s s' × ((x' y' : Object) → slice_get s' o ≡ Some x' → slice_get s' e ≡ Some y' → y'.owner ≡ x'.owner)
  joined_apart_ok o e x y ex uncommitted ey w (owner.Group g) wx vy s' h =
      let same : changed (regrouped g w) s ≡ s' = cc in
      subst (λ z. HasOwners cs holds s z × ((x' y' : Object) → slice_get z o ≡ Some x' → slice_get z e ≡ Some y' → y'.owner ≡ x'.owner)) same (
        HasOwners-regrouped g w (subst (MayOwn cs s) wx (MayOwn-owner o x ex uncommitted)),
        λ x' y' ex' ey'. owner_now g w e y y' ey ey' ∙ member_owner g w y.owner vy
            ∙ sym (owner_now g w o x x' ex ex' ∙ ap (λ n. if is_in_group g n then w else n) wx ∙ kept_owner (is_in_group g w) w),
      )
  joined_apart_ok o e x y ex uncommitted ey (owner.Group g) (owner.Owned p u) wx vy s' h =
      let c = check_ok (not y.committed) kind.PeerOwner (Ok (changed (regrouped g (owner.Owned p u)) s)) s' h in
      let same : changed (regrouped g (owner.Owned p u)) s ≡ s' = cc in
      subst (λ z. HasOwners cs holds s z × ((x' y' : Object) → slice_get z o ≡ Some x' → slice_get z e ≡ Some y' → y'.owner ≡ x'.owner)) same (
        HasOwners-regrouped g (owner.Owned p u) (subst (MayOwn cs s) vy (MayOwn-owner e y ey (not_true y.committed c.0))),
        λ x' y' ex' ey'. owner_now g (owner.Owned p u) e y y' ey ey' ∙ ap (λ n. if is_in_group g n then owner.Owned p u else n) vy
            ∙ sym (owner_now g (owner.Owned p u) o x x' ex ex' ∙ member_owner g (owner.Owned p u) x.owner wx),
      )
  joined_apart_ok o e x y ex uncommitted ey (owner.Owned q t) (owner.Owned p u) wx vy s' h = cc

  joined_ok : (o e : ℕ) (x y : Object) → slice_get s o ≡ Some x → x.committed ≡ false → slice_get s e ≡ Some y → (b : Bool) → same_owner x.owner y.owner ≡ b → (s' : List Object) →
      (if b then Ok s else joined_apart s x.owner y.owner y.committed) ≡ Ok s' →
      HasOwners cs holds s s' × ((x' y' : Object) → slice_get s' o ≡ Some x' → slice_get s' e ≡ Some y' → y'.owner ≡ x'.owner)
  joined_ok o e x y ex uncommitted ey true is s' h =
      let same : s ≡ s' = cc in
      subst (λ z. HasOwners cs holds s z × ((x' y' : Object) → slice_get z o ≡ Some x' → slice_get z e ≡ Some y' → y'.owner ≡ x'.owner)) same
      (HasOwners-same, λ x' y' ex' ey'. ap (λ n. n.owner) (same_object s e y' y ey' ey) ∙ same_owner_is x.owner y.owner is ∙ ap (λ n. n.owner) (same_object s o x x' ex ex'))
  joined_ok o e x y ex uncommitted ey false is s' h = joined_apart_ok o e x y ex uncommitted ey x.owner y.owner refl refl s' h

  -- a join with an object that isn't committed
  pub join_ok : (o e : ℕ) (x : Object) → slice_get s o ≡ Some x → x.committed ≡ false → (s' : List Object) → join_of s o e ≡ Ok s' →
      HasOwners cs holds s s' × ((x' y' : Object) → slice_get s' o ≡ Some x' → slice_get s' e ≡ Some y' → y'.owner ≡ x'.owner)
  join_ok o e x ex uncommitted s' h =
      let r = at_object_ok s o (λ _ x. at_object s e (λ _ y. joined s x.owner y.owner y.committed)) s' h in
      let q = at_object_ok s e (λ _ y. joined s r.0.owner y.owner y.committed) s' r.2 in
      let same = same_object s o x r.0 ex r.1 in
      joined_ok o e r.0 q.0 r.1 (sym (ap (λ n. n.committed) same) ∙ uncommitted) q.1 (same_owner r.0.owner q.0.owner) refl s' q.2
