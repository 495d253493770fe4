-- What an effect does to the objects that it concerns, and to no others.
use Rattle.std.proofs.Common.{◌≡◌, ◌≢◌, ◌⊎◌, inl, inr, ⊎_elim, ℕ, suc, ◌+◌, ◌<◌, ◌≤◌, List, [], ◌∷◌, ◌++◌, length, set, get_or, Bool, true, false, not, ◌==◌, ◌&&◌, ◌||◌, Option, Some, refl, sym, ◌∙◌, ap, subst, arith}
use Rattle.std.specs.Prelude.{slice_get, if◌then◌else◌}
use Rattle.std.proofs.lemmas.Bool.{eqb-true, eq-eqb, ne_eqb}
use Rattle.ss_store_rules.specs.declared.Owner.{Owner}
use Rattle.ss_store_rules.specs.declared.Owner.TheVariants as owner
use Rattle.ss_store_rules.specs.Store.{Object}
use Rattle.ss_store_rules.specs.Reads.{is_in_group, is_pair}
use Rattle.ss_store_rules.specs.Changes.{is_owned, changed_from, changed}
use Rattle.ss_store_lists.specs.Listing.{is_listed, is_held}
use Rattle.ss_store.specs.Effects.{effect, reach, among}
use Rattle.ss_store.specs.Listed.{holder, AreListed}
use Rattle.ss_store.specs.declared.effects.Effect.{Effect}
use Rattle.ss_store.specs.declared.effects.Effect.TheVariants as variant
use Rattle.ss_store.proofs.Loops.{changed_one, changed_none}

pub either : (b : Bool) → (b ≡ true) ⊎ (b ≡ false)
either true = inl refl
either false = inr refl

not_both : {P : Type 0} (b : Bool) → b ≡ true → b ≡ false → P
not_both true e f = absurd (let g : true ≡ false = f in cc)
not_both false e f = absurd (let g : false ≡ true = e in cc)

-- ---- twice is once

if_twice : {A : Type 0} (b : Bool) (a c : A) → (if b then a else (if b then a else c)) ≡ (if b then a else c)
if_twice true a c = refl
if_twice false a c = refl

and_twice : (a b : Bool) → ((a && b) && b) ≡ (a && b)
and_twice true true = refl
and_twice true false = refl
and_twice false b = refl

or_twice : (a b : Bool) → ((a || b) || b) ≡ (a || b)
or_twice true b = refl
or_twice false true = refl
or_twice false false = refl

regroup_twice : (g : ℕ) (w v : Owner) → (if is_in_group g (if is_in_group g v then w else v) then w else (if is_in_group g v then w else v)) ≡ (if is_in_group g v then w else v)
regroup_twice g w v = ⊎_elim (λ e. rw e (same (is_in_group g w))) (λ e. rw e (rw e refl)) (either (is_in_group g v))
  where
    same : (b : Bool) → (if b then w else w) ≡ w
    same true = refl
    same false = refl

pub effect_twice : (e : Effect) (q : ℕ) (x : Object) → effect e q (effect e q x) ≡ effect e q x
effect_twice (variant.Unpack o t above) q x = rw (if_twice (q == o) above.0 x.level, and_twice x.committed (not (is_owned o t.0 x))) refl
effect_twice (variant.Pack o t) q x = rw (if_twice (q == o) t.0 x.level, or_twice x.committed (is_owned o t.0 x)) refl
effect_twice (variant.Regroup g w) q x = rw (regroup_twice g w x.owner) refl

-- ---- what isn't concerned

both_left : (a b : Bool) → (a && b) ≡ true → a ≡ true
both_left true b e = refl
both_left false b e = e

pub pair_holder : (o t : ℕ) (w : Owner) → is_pair o t w ≡ true → holder w ≡ o
pair_holder o t (owner.Group g) e = absurd (let f : false ≡ true = e in cc)
pair_holder o t (owner.Owned q u) e = eqb-true q o (both_left (q == o) (u.0 == t) e)

pub group_holder : (g : ℕ) (w : Owner) → is_in_group g w ≡ true → holder w ≡ g
group_holder g (owner.Group h) e = eqb-true h g e
group_holder g (owner.Owned o t) e = absurd (let f : false ≡ true = e in cc)

not_true : (b : Bool) → (b ≡ true → ⊥) → b ≡ false
not_true true n = absurd (n refl)
not_true false n = refl

pub effect_apart : (e : Effect) (q : ℕ) (x : Object) → q ≢ reach e → holder x.owner ≢ reach e → effect e q x ≡ x
effect_apart (variant.Unpack o t above) q x n h = rw (not_true (q == o) (λ e. n (eqb-true q o e)), not_true (is_owned o t.0 x) (λ e. h (pair_holder o t.0 x.owner e)), and_true x.committed) refl
  where
    and_true : (b : Bool) → (b && true) ≡ b
    and_true true = refl
    and_true false = refl
effect_apart (variant.Pack o t) q x n h = rw (not_true (q == o) (λ e. n (eqb-true q o e)), not_true (is_owned o t.0 x) (λ e. h (pair_holder o t.0 x.owner e)), or_false x.committed) refl
  where
    or_false : (b : Bool) → (b || false) ≡ b
    or_false true = refl
    or_false false = refl
effect_apart (variant.Regroup g w) q x n h = rw (not_true (is_in_group g x.owner) (λ e. h (group_holder g x.owner e))) refl

-- ---- some positions

if_true : {A : Type 0} (b : Bool) (x y : A) → b ≡ true → (if b then x else y) ≡ x
if_true true x y e = refl
if_true false x y e = absurd (let f : false ≡ true = e in cc)

if_false : {A : Type 0} (b : Bool) (x y : A) → b ≡ false → (if b then x else y) ≡ y
if_false true x y e = absurd (let f : true ≡ false = e in cc)
if_false false x y e = refl

or_false : (b : Bool) → (b || false) ≡ b
or_false true = refl
or_false false = refl

one_listed : (q : ℕ) → is_listed (q ∷ []) q ≡ true
one_listed q = or_false (q == q) ∙ eq-eqb q q refl

one_other : (p q : ℕ) → q ≢ p → is_listed (p ∷ []) q ≡ false
one_other p q n = or_false (p == q) ∙ ne_eqb p q (λ e. n (sym e))

pub undergone_one : (e : Effect) (q : ℕ) (s : List Object) (d : Object) → q < length s → changed (among (q ∷ []) (effect e)) s ≡ set s q (effect e q (get_or s q d))
undergone_one e q s d l =
    changed_one q (among (q ∷ []) (effect e)) s d (λ p x n. if_false (is_listed (q ∷ []) p) (effect e p x) x (one_other q p n)) l
    ∙ ap (set s q) (if_true (is_listed (q ∷ []) q) (effect e q (get_or s q d)) (get_or s q d) (one_listed q))

pub undergone_none : (e : Effect) (q : ℕ) (s : List Object) → length s ≤ q → changed (among (q ∷ []) (effect e)) s ≡ s
undergone_none e q s l = changed_none (among (q ∷ []) (effect e)) s (λ p x b. if_false (is_listed (q ∷ []) p) (effect e p x) x (one_other q p (λ same. absurd (omega (arith, l, b, same)))))

-- one change after another
changed_from-after : (n : ℕ) (f g : ℕ → Object → Object) (s : List Object) → changed_from n g (changed_from n f s) ≡ changed_from n (λ q x. g q (f q x)) s
changed_from-after n f g [] = refl
changed_from-after n f g (x ∷ s) = ap (λ r. g n (f n x) ∷ r) (changed_from-after (n + 1) f g s)

changed_from-same : (n : ℕ) (f g : ℕ → Object → Object) (s : List Object) → ((q : ℕ) (x : Object) → slice_get s q ≡ Some x → f (n + q) x ≡ g (n + q) x) → changed_from n f s ≡ changed_from n g s
changed_from-same n f g [] h = refl
changed_from-same n f g (x ∷ s) h =
    let z : n + 0 ≡ n = omega arith in
    let first : f n x ≡ g n x = rw z at (h 0 x refl) in
    let rest = changed_from-same (n + 1) f g s (λ q y e. let m : n + suc q ≡ n + 1 + q = omega arith in rw m at (h (suc q) y e)) in
    ap (λ y. y ∷ changed_from (n + 1) f s) first ∙ ap (λ r. g n x ∷ r) rest

pub changed_same : (f g : ℕ → Object → Object) (s : List Object) → ((q : ℕ) (x : Object) → slice_get s q ≡ Some x → f q x ≡ g q x) → changed f s ≡ changed g s
changed_same f g s h = changed_from-same 0 f g s (λ q x e. let z : 0 + q ≡ q = omega arith in rw z (h q x e))

listed_append : (ps : List ℕ) (p q : ℕ) → is_listed (ps ++ p ∷ []) q ≡ (is_listed ps q || (p == q))
listed_append [] p q = or_false (p == q)
listed_append (r ∷ ps) p q = ap (λ b. (r == q) || b) (listed_append ps p q) ∙ assoc (r == q) (is_listed ps q) (p == q)
  where
    assoc : (a b c : Bool) → (a || (b || c)) ≡ ((a || b) || c)
    assoc true b c = refl
    assoc false b c = refl

among_more : (e : Effect) (ps : List ℕ) (p q : ℕ) (x : Object) → among (p ∷ []) (effect e) q (among ps (effect e) q x) ≡ among (ps ++ p ∷ []) (effect e) q x
among_more e ps p q x =
    ap (λ b. if b then effect e q (among ps (effect e) q x) else among ps (effect e) q x) (or_false (p == q))
    ∙ go (p == q) (is_listed ps q)
    ∙ ap (λ b. if b then effect e q x else x) (sym (listed_append ps p q))
  where
    go : (a b : Bool) → (if a then effect e q (if b then effect e q x else x) else (if b then effect e q x else x)) ≡ (if (b || a) then effect e q x else x)
    go true true = effect_twice e q x
    go true false = refl
    go false true = refl
    go false false = refl

pub undergone_more : (e : Effect) (ps : List ℕ) (p : ℕ) (s : List Object) → changed (among (p ∷ []) (effect e)) (changed (among ps (effect e)) s) ≡ changed (among (ps ++ p ∷ []) (effect e)) s
undergone_more e ps p s =
    changed_from-after 0 (among ps (effect e)) (among (p ∷ []) (effect e)) s
    ∙ changed_same (λ q x. among (p ∷ []) (effect e) q (among ps (effect e) q x)) (among (ps ++ p ∷ []) (effect e)) s (λ q x is. among_more e ps p q x)

-- so an effect on what is listed is one on all
pub undergone_all : (e : Effect) (l : Option (List (List ℕ))) (ps : List ℕ) (s : List Object) → AreListed s l → ((q : ℕ) → is_held l (reach e) q ≡ true → q ≢ reach e → is_listed ps q ≡ true) → changed (among ps (effect e)) (changed (among (reach e ∷ []) (effect e)) s) ≡ changed (effect e) s
undergone_all e l ps s listed reached =
    changed_from-after 0 (among (reach e ∷ []) (effect e)) (among ps (effect e)) s
    ∙ changed_same (λ q x. among ps (effect e) q (among (reach e ∷ []) (effect e) q x)) (effect e) s one
  where
    at_reach : (b : Bool) (q : ℕ) (x : Object) → (if b then effect e q (effect e q x) else effect e q x) ≡ effect e q x
    at_reach true q x = effect_twice e q x
    at_reach false q x = refl

    apart : (q : ℕ) (x : Object) → slice_get s q ≡ Some x → q ≢ reach e → is_listed ps q ≡ false → effect e q x ≡ x
    apart q x is n not_listed = effect_apart e q x n (λ h. not_both (is_listed ps q) (reached q (subst (λ k. is_held l k q ≡ true) h (listed q x is)) n) not_listed)

    one : (q : ℕ) (x : Object) → slice_get s q ≡ Some x → among ps (effect e) q (among (reach e ∷ []) (effect e) q x) ≡ effect e q x
    one q x is = ⊎_elim
        (λ here. let same : reach e ≡ q = sym (eqb-true q (reach e) here) in ap (among ps (effect e) q) (if_true (is_listed (reach e ∷ []) q) (effect e q x) x (or_false (reach e == q) ∙ eq-eqb (reach e) q same)) ∙ at_reach (is_listed ps q) q x)
        (λ other. let n : q ≢ reach e = (λ same. not_both (q == reach e) (eq-eqb q (reach e) same) other) in
        ap (among ps (effect e) q) (if_false (is_listed (reach e ∷ []) q) (effect e q x) x (one_other (reach e) q n))
        ∙ ⊎_elim
        (λ y. if_true (is_listed ps q) (effect e q x) x y)
        (λ no. if_false (is_listed ps q) (effect e q x) x no ∙ sym (apart q x is n no))
        (either (is_listed ps q)))
        (either (q == reach e))
