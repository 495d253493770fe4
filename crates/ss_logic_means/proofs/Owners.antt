-- Questions on the owners of two objects: equal owners of a good store come from one thing.
use Rattle.std.proofs.Common.{◌≡◌, ℕ, ◌<◌, List, [], ◌++◌, Bool, true, eqb, refl, sym, ◌∙◌, ap, subst, append_assoc, append-nil, arith}
use Rattle.std.specs.Prelude.{nat_lt, if◌then◌else◌}
use Rattle.std.proofs.lemmas.Bool.{false≢true, and_parts, and_from, eqb-true, eq-eqb, ltb-true}
use Rattle.ss_core.specs.declared.names.Place.{Place}
use Rattle.ss_core.specs.Tree.{ClassTree}
use Rattle.ss_store_rules.specs.declared.Owner.{Owner}
use Rattle.ss_store_rules.specs.declared.Owner.TheVariants as owner
use Rattle.ss_store_rules.specs.Store.{Object}
use Rattle.ss_store_rules.specs.Numbers.{Outcome}
use Rattle.ss_store_rules.specs.Changes.{owned_by}
use Rattle.ss_store_rules.specs.Reads.{object_at, same_owner, is_pair}
use Rattle.ss_store_rules.specs.Values as run
use Rattle.ss_logic.specs.Values.{reference, class_name, group_number, owner_pair, Thing, Heap, Value, thing, store, as_thing, as_store, Structure}
use Rattle.ss_logic.specs.Terms.{Term}
use Rattle.ss_logic.specs.Formulas.{Formula}
use Rattle.ss_logic.specs.Objects.{owner_of_thing, objects_of}
use Rattle.ss_logic.specs.Shapes.{class_term, owner_of, pair_of, equal}
use Rattle.ss_logic.specs.Express.{Meant, Says, over_two}
use Rattle.ss_logic_means.specs.Means.{standing}
use Rattle.ss_logic_means.proofs.Denoting.{V, M, D, R, says_denotes, over_two_means}
use Rattle.ss_logic_means.proofs.Operations.{Gives}
use Rattle.ss_logic_means.proofs.Arithmetic.{three_read}
use Rattle.ss_logic_means.proofs.Classes.{IsReferenceOf, object_known}
use Rattle.ss_logic_means.proofs.States.{parts_of, readable, readable_then}

-- ---- owners of things

-- the pair of an allocated object comes from the pair alone
pub pair_back : (next : ℕ) (w : Thing) (q t : ℕ) → q < next → is_pair q t (owner_of_thing next w) ≡ true → w ≡ owner_pair (reference q) (class_name t)
pair_back next (owner_pair (reference p) (class_name u)) q t l h =
    let both = and_parts (eqb p q) (eqb u t) h in
    ap (λ x. owner_pair (reference x) (class_name u)) (eqb-true p q both.0) ∙ ap (λ x. owner_pair (reference q) (class_name x)) (eqb-true u t both.1)
pair_back next (group_number g) q t l h = absurd (false≢true h)
pair_back next w q t l h = absurd (let same = eqb-true next q (and_parts (eqb next q) (eqb 0 t) h).0 in omega (arith, same, l))

pub pair_self : (next : ℕ) (w : Thing) (q t : ℕ) → w ≡ owner_pair (reference q) (class_name t) → is_pair q t (owner_of_thing next w) ≡ true
pair_self next w q t e = subst (λ x. is_pair q t (owner_of_thing next x) ≡ true) (sym e) (and_from (eqb q q) (eqb t t) (eq-eqb q q refl) (eq-eqb t t refl))

group_back : (next : ℕ) (w : Thing) (g : ℕ) → same_owner (owner_of_thing next w) (owner.Group g) ≡ true → w ≡ group_number g
group_back next (group_number k) g h = ap group_number (eqb-true k g h)
group_back next (owner_pair (reference p) (class_name t)) g h = absurd (false≢true h)
group_back next w g h = absurd (false≢true h)

same_pair : (x : Owner) (p t : ℕ) → same_owner x (owned_by p t) ≡ is_pair p t x
same_pair (owner.Group g) p t = refl
same_pair (owner.Owned o u) p t = refl

-- equal owners, of which the second is that of no object that isn't allocated, come from one thing
same_back : (next : ℕ) (v w : Thing) → ((p t : ℕ) → owner_of_thing next w ≡ owned_by p t → p < next) → same_owner (owner_of_thing next v) (owner_of_thing next w) ≡ true → v ≡ w
same_back next v (group_number g) low h = group_back next v g h
same_back next v (owner_pair (reference p) (class_name t)) low h = pair_back next v p t (low p t refl) (sym (same_pair (owner_of_thing next v) p t) ∙ h)
same_back next v w low h = absurd (let l = low next 0 refl in omega (arith, l))

same_self : (x : Owner) → same_owner x x ≡ true
same_self (owner.Group g) = eq-eqb g g refl
same_self (owner.Owned o t) = and_from (eqb o o) (eqb t.0 t.0) (eq-eqb o o refl) (eq-eqb t.0 t.0 refl)

-- the owner of an allocated object is a group or the pair of an allocated object and a class
abbrev pub HasOwners : Heap → Type 0
HasOwners h = (o : ℕ) → nat_lt o h.next ≡ true → (p t : ℕ) → owner_of_thing h.next (h.at (reference o)).owner ≡ owned_by p t → p < h.next

thing_same : (v w : Thing) → thing v ≡ thing w → v ≡ w
thing_same v w h = ap as_thing h

-- ---- in a store that a term stands for
module _ (cs : List ClassTree) (m : Structure) (e : List Value) (h : Heap) (s : Term) (is_store : V cs m e s ≡ store h) where
  abbrev There : List Object
  There = objects_of cs m.table h

  pub owner_stands : (t : Term) (o : ℕ) → V cs m e t ≡ thing (reference o) → V cs m e (owner_of s t) ≡ thing (h.at (reference o)).owner
  owner_stands t o p = ap (λ v. thing ((as_store v).at (as_thing (V cs m e t))).owner) is_store ∙ ap (λ v. thing (h.at (as_thing v)).owner) p

  owner_known : (o : ℕ) → nat_lt o h.next ≡ true → (object_at There o).owner ≡ owner_of_thing h.next (h.at (reference o)).owner
  owner_known o l = ap (λ x. x.owner) (object_known cs m e h o l)

  -- two objects have one owner
  pub same_owner_means : HasOwners h → (t u : Term) (o q : ℕ) → nat_lt o h.next ≡ true → nat_lt q h.next ≡ true → V cs m e t ≡ thing (reference o) → V cs m e u ≡ thing (reference q) →
      M cs m e (equal (owner_of s t) (owner_of s u)) (same_owner (object_at There o).owner (object_at There q).owner)
  same_owner_means owned t u o q l k p r =
      let v = (h.at (reference o)).owner in
      let w = (h.at (reference q)).owner in
      let known : same_owner (object_at There o).owner (object_at There q).owner ≡ same_owner (owner_of_thing h.next v) (owner_of_thing h.next w) =
      ap (λ x. same_owner x (object_at There q).owner) (owner_known o l) ∙ ap (same_owner (owner_of_thing h.next v)) (owner_known q k) in (
        λ f. known ∙ subst (λ x. same_owner (owner_of_thing h.next v) (owner_of_thing h.next x) ≡ true) (thing_same v w (sym (owner_stands t o p) ∙ f ∙ owner_stands u q r)) (same_self (owner_of_thing h.next v)),
        λ f. owner_stands t o p ∙ ap thing (same_back h.next v w (owned q k) (sym known ∙ f)) ∙ sym (owner_stands u q r),
      )

  -- the owner of an object is the pair of another one and a class
  pub owned_at_means : (t u : Term) (k o q : ℕ) → nat_lt o h.next ≡ true → nat_lt q h.next ≡ true → V cs m e t ≡ thing (reference o) → V cs m e u ≡ thing (reference q) →
      M cs m e (equal (owner_of s t) (pair_of u (class_term k))) (is_pair q k (object_at There o).owner)
  owned_at_means t u k o q l i p r =
      let v = (h.at (reference o)).owner in
      let known : is_pair q k (object_at There o).owner ≡ is_pair q k (owner_of_thing h.next v) = ap (is_pair q k) (owner_known o l) in
      let pair : V cs m e (pair_of u (class_term k)) ≡ thing (owner_pair (reference q) (class_name k)) = ap (λ x. thing (owner_pair (as_thing x) (class_name k))) r in (
        λ f. known ∙ pair_self h.next v q k (thing_same v (owner_pair (reference q) (class_name k)) (sym (owner_stands t o p) ∙ f ∙ pair)),
        λ f. owner_stands t o p ∙ ap thing (pair_back h.next v q k (ltb-true q h.next i) (sym known ∙ f)) ∙ sym pair,
      )

-- ---- reads now and at the entry
module _ (cs : List ClassTree) (m : Structure) (e : List Value) (now entry : Heap) (s0 : Term) (is_entry : V cs m e s0 ≡ store entry) where
  -- a question on two objects whose state may be read
  pub owners_read : (old : Bool) (p : Place) (ps qs : List Formula) (x y : Meant) (a b : Outcome) → Gives (IsReferenceOf now) a → Gives (IsReferenceOf now) b → R cs m e ps x a → R cs m e qs y b →
      (f : Term → Term → Formula) (k : ℕ → ℕ → Bool) →
      ((t u : Term) (o q : ℕ) → nat_lt o (if old then entry else now).next ≡ true → nat_lt q (if old then entry else now).next ≡ true → V cs m e t ≡ thing (reference o) → V cs m e u ≡ thing (reference q) → M cs m e (f t u) (k o q)) →
      R cs m e (ps ++ qs ++ parts_of cs m e now entry s0 is_entry old x ++ parts_of cs m e now entry s0 is_entry old y) (Says (over_two x y f))
      (run.and_then a (λ v. run.and_then b (λ w. run.and_then (readable cs m e now entry s0 is_entry old p v) (λ o. run.and_then (readable cs m e now entry s0 is_entry old p w) (λ q. run.truth (k o q))))))
  owners_read old p ps qs x y a b ga gb ra rb f k h =
      let xs = parts_of cs m e now entry s0 is_entry old x in
      let ys = parts_of cs m e now entry s0 is_entry old y in
      let can = readable cs m e now entry s0 is_entry old p in
      subst (λ parts. R cs m e parts (Says (over_two x y f)) (run.and_then a (λ v. run.and_then b (λ w. run.and_then (can v) (λ o. run.and_then (can w) (λ q. run.truth (k o q))))))) (sym (append_assoc (ps ++ qs) xs ys))
      (three_read cs m e ps qs x y a b ra rb (xs ++ ys) (Says (over_two x y f)) (λ v w. run.and_then (can v) (λ o. run.and_then (can w) (λ q. run.truth (k o q)))) (λ u w is it d r.
      readable_then cs m e now entry s0 is_entry old p x u (ga u is) d ys (Says (over_two x y f)) (λ o. run.and_then (can w) (λ q. run.truth (k o q))) (λ o first l.
      subst (λ parts. R cs m e parts (Says (over_two x y f)) (run.and_then (can w) (λ q. run.truth (k o q)))) (append-nil ys)
      (readable_then cs m e now entry s0 is_entry old p y w (gb w it) r [] (Says (over_two x y f)) (λ q. run.truth (k o q)) (λ q second j. (
        tt,
        says_denotes cs m e (over_two x y f) (k o q) (over_two_means cs m e x y f (thing (reference o)) (thing (reference q)) (k o q)
            (subst (λ v. D cs m e x (standing v)) first d) (subst (λ v. D cs m e y (standing v)) second r) (λ t i n z. h t i o q l j n z)),
      ))))))
