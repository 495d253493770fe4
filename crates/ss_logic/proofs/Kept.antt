-- The formulas are true exactly where the stores are so.
use Rattle.std.proofs.Common.{◌≡◌, ℕ, zero, suc, ◌+◌, ◌<◌, ◌≤◌, ℤ, List, [], ◌∷◌, ◌++◌, length, map, Bool, true, false, eqb, refl, sym, ◌∙◌, ap, subst, arith, ⊎_elim}
use Rattle.std.specs.Prelude.{if◌then◌else◌}
use Rattle.std.specs.List.{list_all}
use Rattle.std.proofs.lemmas.Bool.{false≢true, and_parts, eqb-true, eq-eqb, lt-ltb, ltb-true, cases_eq}
use Rattle.ss_core.specs.Tree.{ClassTree}
use Rattle.ss_core.specs.Chain.{sub, all_fields}
use Rattle.ss_store_rules.specs.Changes.{field_class}
use Rattle.ss_logic.specs.declared.Sort.{Sort}
use Rattle.ss_logic.specs.declared.Sort.TheVariants as sort
use Rattle.ss_logic.specs.Values.{Thing, class_name, owner_pair, is_group, Heap, Value, whole, truth, thing, store, sort_of_value, as_thing, as_whole, as_truth, as_store, is_allocated, Structure}
use Rattle.ss_logic.specs.Terms.{Field, Element, Term, app, field_sort, have_sorts, cell, value_of}
use Rattle.ss_logic.specs.Formulas.{Formula, formulas_from, is_well_formed, AreOf, True, AllTrue, NoneTrue, neg}
use Rattle.ss_logic.proofs.Stable.{bool_stable}
use Rattle.ss_logic.proofs.Truth.{not_both, neg_true, formula_stable, closed_value, AllClosed-sorts, AreOf-values}
use Rattle.ss_logic.specs.Shapes.{level_of, owner_of, type_of, equal, allocated, committed, ready, group}
use Rattle.ss_logic.specs.Frames.{NamedTerm, NamesField, NamesAll, NamesUpto, NamesElements, OwnerTerm, CallTerms, unless, iff, the_object, in_group_of, owned_by, is_free, is_outside, is_named, names_field, names_level, names_elements, all_named, field_kept, fields_kept, element_kept, object_kept, array_kept, kept, object_grown, grown}
use Rattle.ss_logic.specs.Express.{and_of}
use Rattle.ss_logic.specs.FrameMeans.{IsGrown, Each, thing_of, store_of, IsNamed, NamesNoField, NamesNoLevel, NamesNoElement, IsBound, IsKept}
use Rattle.ss_logic.specs.Sorted.{is_object, is_name, AreSorted}
use Rattle.ss_logic.proofs.Lifting.{True-lifted}

into : {X Y : Type 0} → X ≡ Y → X → Y
into e x = subst (λ (Z : Type 0). Z) e x

class_number : (c t : ℕ) → thing (class_name c) ≡ thing (class_name t) → c ≡ t
class_number c t e = cc

thing_value : (v : Value) → sort_of_value v ≡ sort.Rest → v ≡ thing (as_thing v)
thing_value (thing w) e = refl
thing_value (whole n) e = absurd (let no : ⊥ = cc in no)
thing_value (truth n) e = absurd (let no : ⊥ = cc in no)
thing_value (store n) e = absurd (let no : ⊥ = cc in no)

-- one value of the rest
one_thing : (P : List Value → Type 0) → ((w : Thing) → P (thing w ∷ [])) → (vs : List Value) → AreOf (sort.Rest ∷ []) vs → P vs
one_thing P h [] o = absurd o
one_thing P h (thing w ∷ []) o = h w
one_thing P h (whole n ∷ []) o = absurd (let e = o.0 in let no : ⊥ = cc in no)
one_thing P h (truth n ∷ []) o = absurd (let e = o.0 in let no : ⊥ = cc in no)
one_thing P h (store n ∷ []) o = absurd (let e = o.0 in let no : ⊥ = cc in no)
one_thing P h (v ∷ u ∷ vs) o = absurd o.1

one_whole : (P : List Value → Type 0) → ((i : ℤ) → P (whole i ∷ [])) → (vs : List Value) → AreOf (sort.Whole ∷ []) vs → P vs
one_whole P h [] o = absurd o
one_whole P h (whole i ∷ []) o = h i
one_whole P h (thing n ∷ []) o = absurd (let e = o.0 in let no : ⊥ = cc in no)
one_whole P h (truth n ∷ []) o = absurd (let e = o.0 in let no : ⊥ = cc in no)
one_whole P h (store n ∷ []) o = absurd (let e = o.0 in let no : ⊥ = cc in no)
one_whole P h (v ∷ u ∷ vs) o = absurd o.1

-- one of the rest, and a whole number
thing_and_whole : (P : List Value → Type 0) → ((w : Thing) (i : ℤ) → P (thing w ∷ whole i ∷ [])) → (vs : List Value) → AreOf (sort.Rest ∷ sort.Whole ∷ []) vs → P vs
thing_and_whole P h [] o = absurd o
thing_and_whole P h (thing w ∷ vs) o = one_whole (λ us. P (thing w ∷ us)) (h w) vs o.1
thing_and_whole P h (whole n ∷ vs) o = absurd (let e = o.0 in let no : ⊥ = cc in no)
thing_and_whole P h (truth n ∷ vs) o = absurd (let e = o.0 in let no : ⊥ = cc in no)
thing_and_whole P h (store n ∷ vs) o = absurd (let e = o.0 in let no : ⊥ = cc in no)

module _ (cs : List ClassTree) (m : Structure) where
  abbrev None : List Value → List Formula → Type 0
  None e fs = NoneTrue cs m e (formulas_from fs)

  abbrev All : List Value → List Formula → Type 0
  All e fs = AllTrue cs m e (formulas_from fs)

  none_both : (e : List Value) (xs ys : List Formula) → None e xs → None e ys → None e (xs ++ ys)
  none_both e [] ys n k = k
  none_both e (x ∷ xs) ys n k = (n.0, none_both e xs ys n.1 k)

  none_parts : (e : List Value) (xs ys : List Formula) → None e (xs ++ ys) → None e xs × None e ys
  none_parts e [] ys n = (tt, n)
  none_parts e (x ∷ xs) ys n = let p = none_parts e xs ys n.1 in ((n.0, p.0), p.1)

  -- `unless` says that the formula is true where none of the others is
  unless_from : (e : List Value) (fs : List Formula) (f : Formula) → (None e fs → True cs m e f) → True cs m e (unless fs f)
  unless_from e [] f h = h tt
  unless_from e (g ∷ gs) f h = λ n. let p = none_parts e (g ∷ gs) (f ∷ []) n in p.1.0 (h p.0)

  unless_to : (e : List Value) (fs : List Formula) (f : Formula) → True cs m e (unless fs f) → None e fs → True cs m e f
  unless_to e [] f t n = t
  unless_to e (g ∷ gs) f t n = formula_stable cs m e f (λ k. t (none_both e (g ∷ gs) (f ∷ []) n (k, tt)))

  -- none of them is true exactly where all their negations are
  none_negs : (e : List Value) (fs : List Formula) → None e fs → All e (map neg fs)
  none_negs e [] n = tt
  none_negs e (f ∷ fs) n = (neg_true cs m e f n.0, none_negs e fs n.1)

  negs_none : (e : List Value) (fs : List Formula) → All e (map neg fs) → None e fs
  negs_none e [] n = tt
  negs_none e (f ∷ fs) n = ((λ t. not_both cs m e f t n.0), negs_none e fs n.1)

  -- ---- grown

  module _ (s r : Term) (sorted : have_sorts cs (sort.Store ∷ sort.Store ∷ []) (s ∷ r ∷ []) ≡ true) where
    first_closed : (e : List Value) → value_of cs m e s ≡ value_of cs m [] s
    first_closed e = closed_value cs m e s (AllClosed-sorts cs (sort.Store ∷ sort.Store ∷ []) (s ∷ r ∷ []) sorted).0

    second_closed : (e : List Value) → value_of cs m e r ≡ value_of cs m [] r
    second_closed e = closed_value cs m e r (AllClosed-sorts cs (sort.Store ∷ sort.Store ∷ []) (s ∷ r ∷ []) sorted).1.0

    pub grown_from : True cs m [] (grown s r) → IsGrown (store_of cs m s) (store_of cs m r)
    grown_from t =
        let at = λ (w : Thing) (a : is_allocated (store_of cs m s) w ≡ true).
        unless_to (thing w ∷ []) (neg (allocated s the_object) ∷ []) (object_grown s r) (t (thing w ∷ []) (refl, tt)) ((λ k. k (rw (first_closed (thing w ∷ [])) a)), tt) in
        record {
          allocated = λ w a. rw (second_closed (thing w ∷ [])) at (at w a).0;
          ready = λ w a p. rw (second_closed (thing w ∷ [])) at (unless_to (thing w ∷ []) (neg (ready s the_object) ∷ []) (ready r the_object) (at w a).1.0 ((λ k. k (rw (first_closed (thing w ∷ [])) p)), tt));
          owner = λ w a n. ap as_thing (rw (first_closed (thing w ∷ []), second_closed (thing w ∷ [])) at (unless_to (thing w ∷ []) (group (owner_of s the_object) ∷ []) (equal (owner_of r the_object) (owner_of s the_object)) (at w a).1.1.0 ((λ k. n (rw (first_closed (thing w ∷ [])) at k)), tt)));
        }

    pub grown_to : IsGrown (store_of cs m s) (store_of cs m r) → True cs m [] (grown s r)
    grown_to g = one_thing (λ vs. True cs m vs (unless (neg (allocated s the_object) ∷ []) (object_grown s r))) (λ w.
        unless_from (thing w ∷ []) (neg (allocated s the_object) ∷ []) (object_grown s r) (λ n.
        let a : is_allocated (store_of cs m s) w ≡ true = bool_stable _ true (λ k. n.0 (λ x. k (rw (first_closed (thing w ∷ [])) at x))) in (
          (rw (second_closed (thing w ∷ [])) (g.allocated w a)),
          (
            (unless_from (thing w ∷ []) (neg (ready s the_object) ∷ []) (ready r the_object) (λ k.
                rw (second_closed (thing w ∷ [])) (g.ready w a (bool_stable _ true (λ x. k.0 (λ y. x (rw (first_closed (thing w ∷ [])) at y))))))),
            (
              (unless_from (thing w ∷ []) (group (owner_of s the_object) ∷ []) (equal (owner_of r the_object) (owner_of s the_object)) (λ k.
                  rw (first_closed (thing w ∷ []), second_closed (thing w ∷ [])) (ap thing (g.owner w a (λ y. k.0 (rw (first_closed (thing w ∷ [])) y)))))),
              tt,
            ),
          ),
        )))

  -- ---- kept

  same_bits : (a b : Bool) → a ≡ b → (a ≡ true → b ≡ true) × (b ≡ true → a ≡ true)
  same_bits a b e = (λ t. sym e ∙ t, λ t. e ∙ t)

  iff_to : (e : List Value) (f g : Formula) (a b : Bool) → True cs m e f ≡ (a ≡ true) → True cs m e g ≡ (b ≡ true) → True cs m e (iff f g) → a ≡ b
  iff_to e f g true true p q t = refl
  iff_to e f g false false p q t = refl
  iff_to e f g true false p q t = absurd (t ((λ k. false≢true (into q k.1.0)), ((λ k. not_both cs m e f (into (sym p) refl) k.0), tt)))
  iff_to e f g false true p q t = absurd (t ((λ k. false≢true (into p k.0)), ((λ k. not_both cs m e g (into (sym q) refl) k.1.0), tt)))

  iff_from : (e : List Value) (f g : Formula) (a b : Bool) → True cs m e f ≡ (a ≡ true) → True cs m e g ≡ (b ≡ true) → a ≡ b → True cs m e (iff f g)
  iff_from e f g true b p q s = λ n. n.0 (into (sym p) refl, (into (sym q) (sym s), tt))
  iff_from e f g false b p q s = λ n. n.1.0 (neg_true cs m e f (λ t. false≢true (into p t)), (neg_true cs m e g (λ t. false≢true (s ∙ into q t)), tt))

  none_when : (e : List Value) (b : Bool) (x : Formula) → None e (if b then x ∷ [] else []) → b ≡ true → True cs m e x → ⊥
  none_when e true x n h t = n.0 t
  none_when e false x n h t = false≢true h

  none_if : (e : List Value) (b : Bool) (x : Formula) → (b ≡ true → True cs m e x → ⊥) → None e (if b then x ∷ [] else [])
  none_if e true x h = (h refl, tt)
  none_if e false x h = tt

  module _ (o : Term) (is : is_object cs o ≡ true) where
    object_closed : (e : List Value) → value_of cs m e o ≡ value_of cs m [] o
    object_closed e = closed_value cs m e o (AllClosed-sorts cs (sort.Rest ∷ []) (o ∷ []) is).0

    object_value : value_of cs m [] o ≡ thing (thing_of cs m o)
    object_value = thing_value (value_of cs m [] o) (AreOf-values cs m (sort.Rest ∷ []) (o ∷ []) is).0

    is_object_in : (w : Thing) (e : List Value) → w ≡ thing_of cs m o → thing w ≡ value_of cs m e o
    is_object_in w e q = ap thing q ∙ sym object_value ∙ sym (object_closed e)

    is_object_of : (w : Thing) (e : List Value) → thing w ≡ value_of cs m e o → w ≡ thing_of cs m o
    is_object_of w e q = ap as_thing (q ∙ object_closed e)

  module _ (c : CallTerms) (sorted : AreSorted cs c) where
    before_closed : (e : List Value) → value_of cs m e c.before ≡ value_of cs m [] c.before
    before_closed e = closed_value cs m e c.before (AllClosed-sorts cs (sort.Store ∷ sort.Store ∷ []) (c.before ∷ c.after ∷ []) sorted.stores).0

    after_closed : (e : List Value) → value_of cs m e c.after ≡ value_of cs m [] c.after
    after_closed e = closed_value cs m e c.after (AllClosed-sorts cs (sort.Store ∷ sort.Store ∷ []) (c.before ∷ c.after ∷ []) sorted.stores).1.0

    abbrev B : Heap
    B = store_of cs m c.before

    abbrev A : Heap
    A = store_of cs m c.after

    module _ (w : Thing) (e' : List Value) where
      abbrev E : List Value
      E = thing w ∷ e'

      abbrev NotCaptured : Term → Type 0
      NotCaptured e = is_group (B.at (thing_of cs m e)).owner ≡ true → (B.at w).owner ≡ (B.at (thing_of cs m e)).owner → ⊥

      abbrev NotOwned : OwnerTerm → Type 0
      NotOwned o = (B.at w).owner ≡ owner_pair (thing_of cs m o.object) (class_name o.class) → ⊥

      group_in : (e : Term) → is_object cs e ≡ true → True cs m E (group (owner_of c.before e)) ≡ (is_group (B.at (thing_of cs m e)).owner ≡ true)
      group_in e i = ap (λ s. is_group ((as_store s).at (as_thing (value_of cs m E e))).owner ≡ true) (before_closed E) ∙ ap (λ v. is_group (B.at (as_thing v)).owner ≡ true) (object_closed e i E)

      owner_in : (e : Term) → is_object cs e ≡ true → True cs m E (equal (owner_of c.before the_object) (owner_of c.before e)) ≡ (thing (B.at w).owner ≡ thing (B.at (thing_of cs m e)).owner)
      owner_in e i =
          ap (λ s. thing ((as_store s).at w).owner ≡ thing ((as_store s).at (as_thing (value_of cs m E e))).owner) (before_closed E)
          ∙ ap (λ v. thing (B.at w).owner ≡ thing (B.at (as_thing v)).owner) (object_closed e i E)

      pair_in : (o : OwnerTerm) → is_object cs o.object ≡ true → True cs m E (owned_by c.before o) ≡ (thing (B.at w).owner ≡ thing (owner_pair (thing_of cs m o.object) (class_name o.class)))
      pair_in o i =
          ap (λ s. thing ((as_store s).at w).owner ≡ thing (owner_pair (as_thing (value_of cs m E o.object)) (class_name o.class))) (before_closed E)
          ∙ ap (λ v. thing (B.at w).owner ≡ thing (owner_pair (as_thing v) (class_name o.class))) (object_closed o.object i E)

      committed_in : True cs m E (committed c.before the_object) ≡ ((B.at w).committed ≡ true)
      committed_in = ap (λ s. ((as_store s).at w).committed ≡ true) (before_closed E)

      allocated_in : True cs m E (allocated c.before the_object) ≡ (is_allocated B w ≡ true)
      allocated_in = ap (λ s. is_allocated (as_store s) w ≡ true) (before_closed E)

      captured_from : (es : List Term) → list_all (is_object cs) es ≡ true → None E (map (in_group_of c.before) es) → Each NotCaptured es
      captured_from [] h n = tt
      captured_from (e ∷ es) h n =
          let p = and_parts (is_object cs e) (list_all (is_object cs) es) h in
          ((λ g o. n.0 (into (sym (group_in e p.0)) g, (into (sym (owner_in e p.0)) (ap thing o), tt))), captured_from es p.1 n.1)

      captured_to : (es : List Term) → list_all (is_object cs) es ≡ true → Each NotCaptured es → None E (map (in_group_of c.before) es)
      captured_to [] h n = tt
      captured_to (e ∷ es) h n =
          let p = and_parts (is_object cs e) (list_all (is_object cs) es) h in
          ((λ t. n.0 (into (group_in e p.0) t.0) (ap as_thing (into (owner_in e p.0) t.1.0))), captured_to es p.1 n.1)

      owned_from : (os : List OwnerTerm) → list_all (λ o. is_object cs o.object) os ≡ true → None E (map (owned_by c.before) os) → Each NotOwned os
      owned_from [] h n = tt
      owned_from (o ∷ os) h n =
          let p = and_parts (is_object cs o.object) (list_all (λ x. is_object cs x.object) os) h in
          ((λ q. n.0 (into (sym (pair_in o p.0)) (ap thing q))), owned_from os p.1 n.1)

      owned_to : (os : List OwnerTerm) → list_all (λ o. is_object cs o.object) os ≡ true → Each NotOwned os → None E (map (owned_by c.before) os)
      owned_to [] h n = tt
      owned_to (o ∷ os) h n =
          let p = and_parts (is_object cs o.object) (list_all (λ x. is_object cs x.object) os) h in
          ((λ t. n.0 (ap as_thing (into (pair_in o p.0) t))), owned_to os p.1 n.1)

      bound_from : None E (is_free c) → IsBound cs m c w
      bound_from n =
          let p = none_parts E (map (in_group_of c.before) c.captured) (map (owned_by c.before) c.owned) n.1 in
          record {
            committed = λ k. n.0 (into (sym committed_in) k);
            captured = captured_from c.captured sorted.captured p.0;
            owned = owned_from c.owned sorted.owned p.1;
          }

      bound_to : IsBound cs m c w → None E (is_free c)
      bound_to b = (
        (λ t. b.committed (into committed_in t)),
        none_both E (map (in_group_of c.before) c.captured) (map (owned_by c.before) c.owned) (captured_to c.captured sorted.captured b.captured) (owned_to c.owned sorted.owned b.owned),
      )

      outside_from : (os : List Term) → list_all (is_object cs) os ≡ true → None E (map (equal the_object) os) → Each (λ o. w ≡ thing_of cs m o → ⊥) os
      outside_from [] h n = tt
      outside_from (o ∷ os) h n =
          let p = and_parts (is_object cs o) (list_all (is_object cs) os) h in
          ((λ q. n.0 (is_object_in o p.0 w E q)), outside_from os p.1 n.1)

      outside_to : (os : List Term) → list_all (is_object cs) os ≡ true → Each (λ o. w ≡ thing_of cs m o → ⊥) os → None E (map (equal the_object) os)
      outside_to [] h n = tt
      outside_to (o ∷ os) h n =
          let p = and_parts (is_object cs o) (list_all (is_object cs) os) h in
          ((λ t. n.0 (is_object_of o p.0 w E t)), outside_to os p.1 n.1)

    -- ---- names

    module _ (w : Thing) where
      abbrev One : List Value
      One = thing w ∷ []

      named_in : (guard : Formula) (o : Term) → is_object cs o ≡ true → IsNamed cs m w guard o → True cs m One (is_named 1 guard o)
      named_in guard o i n = (into (sym (True-lifted cs m One [] guard)) n.0, (is_object_in o i w One n.1, tt))

      named_of : (guard : Formula) (o : Term) → is_object cs o ≡ true → True cs m One (is_named 1 guard o) → IsNamed cs m w guard o
      named_of guard o i t = (into (True-lifted cs m One [] guard) t.0, is_object_of o i w One t.1.0)

      field_names_from : (f : ℕ) (t : NamedTerm) → is_name cs t ≡ true → None One (names_field cs f t) → NamesNoField cs m f w t
      field_names_from f (NamesField guard o g) h n = λ q i. none_when One (eqb g f) (is_named 1 guard o) n (eq-eqb g f q) (named_in guard o (and_parts (is_well_formed cs [] guard) (is_object cs o) h).1 i)
      field_names_from f (NamesAll guard o) h n = λ i. n.0 (named_in guard o (and_parts (is_well_formed cs [] guard) (is_object cs o) h).1 i)
      field_names_from f (NamesUpto guard o t) h n = λ q i. none_when One (sub cs t (field_class cs f)) (is_named 1 guard o) n q (named_in guard o (and_parts (is_well_formed cs [] guard) (is_object cs o) h).1 i)
      field_names_from f (NamesElements guard a) h n = tt

      field_names_to : (f : ℕ) (t : NamedTerm) → is_name cs t ≡ true → NamesNoField cs m f w t → None One (names_field cs f t)
      field_names_to f (NamesField guard o g) h n = none_if One (eqb g f) (is_named 1 guard o) (λ q t. n (eqb-true g f q) (named_of guard o (and_parts (is_well_formed cs [] guard) (is_object cs o) h).1 t))
      field_names_to f (NamesAll guard o) h n = ((λ t. n (named_of guard o (and_parts (is_well_formed cs [] guard) (is_object cs o) h).1 t)), tt)
      field_names_to f (NamesUpto guard o t) h n = none_if One (sub cs t (field_class cs f)) (is_named 1 guard o) (λ q x. n q (named_of guard o (and_parts (is_well_formed cs [] guard) (is_object cs o) h).1 x))
      field_names_to f (NamesElements guard a) h n = tt

      level_names_from : (t : NamedTerm) → is_name cs t ≡ true → None One (names_level t) → NamesNoLevel cs m w t
      level_names_from (NamesField guard o g) h n = tt
      level_names_from (NamesAll guard o) h n = λ i. n.0 (named_in guard o (and_parts (is_well_formed cs [] guard) (is_object cs o) h).1 i)
      level_names_from (NamesUpto guard o t) h n = λ i. n.0 (named_in guard o (and_parts (is_well_formed cs [] guard) (is_object cs o) h).1 i)
      level_names_from (NamesElements guard a) h n = tt

      level_names_to : (t : NamedTerm) → is_name cs t ≡ true → NamesNoLevel cs m w t → None One (names_level t)
      level_names_to (NamesField guard o g) h n = tt
      level_names_to (NamesAll guard o) h n = ((λ t. n (named_of guard o (and_parts (is_well_formed cs [] guard) (is_object cs o) h).1 t)), tt)
      level_names_to (NamesUpto guard o t) h n = ((λ x. n (named_of guard o (and_parts (is_well_formed cs [] guard) (is_object cs o) h).1 x)), tt)
      level_names_to (NamesElements guard a) h n = tt

    element_names_from : (w : Thing) (i : ℤ) (t : NamedTerm) → is_name cs t ≡ true → None (thing w ∷ whole i ∷ []) (names_elements t) → NamesNoElement cs m w t
    element_names_from w i (NamesField guard o g) h n = tt
    element_names_from w i (NamesAll guard o) h n = tt
    element_names_from w i (NamesUpto guard o t) h n = tt
    element_names_from w i (NamesElements guard a) h n = λ k.
        n.0 (into (sym (True-lifted cs m (thing w ∷ whole i ∷ []) [] guard)) k.0, (is_object_in a (and_parts (is_well_formed cs [] guard) (is_object cs a) h).1 w (thing w ∷ whole i ∷ []) k.1, tt))

    element_names_to : (w : Thing) (i : ℤ) (t : NamedTerm) → is_name cs t ≡ true → NamesNoElement cs m w t → None (thing w ∷ whole i ∷ []) (names_elements t)
    element_names_to w i (NamesField guard o g) h n = tt
    element_names_to w i (NamesAll guard o) h n = tt
    element_names_to w i (NamesUpto guard o t) h n = tt
    element_names_to w i (NamesElements guard a) h n =
        ((λ t. n (into (True-lifted cs m (thing w ∷ whole i ∷ []) [] guard) t.0, is_object_of a (and_parts (is_well_formed cs [] guard) (is_object cs a) h).1 w (thing w ∷ whole i ∷ []) t.1.0)), tt)

    all_from : (e : List Value) (names : NamedTerm → List Formula) (P : NamedTerm → Type 0) → ((t : NamedTerm) → is_name cs t ≡ true → None e (names t) → P t) →
        (ts : List NamedTerm) → list_all (is_name cs) ts ≡ true → None e (all_named names ts) → Each P ts
    all_from e names P one [] h n = tt
    all_from e names P one (t ∷ ts) h n =
        let p = and_parts (is_name cs t) (list_all (is_name cs) ts) h in
        let q = none_parts e (names t) (all_named names ts) n in
        (one t p.0 q.0, all_from e names P one ts p.1 q.1)

    all_to : (e : List Value) (names : NamedTerm → List Formula) (P : NamedTerm → Type 0) → ((t : NamedTerm) → is_name cs t ≡ true → P t → None e (names t)) →
        (ts : List NamedTerm) → list_all (is_name cs) ts ≡ true → Each P ts → None e (all_named names ts)
    all_to e names P one [] h n = tt
    all_to e names P one (t ∷ ts) h n =
        let p = and_parts (is_name cs t) (list_all (is_name cs) ts) h in
        none_both e (names t) (all_named names ts) (one t p.0 n.0) (all_to e names P one ts p.1 n.1)

    -- ---- the fields, by number

    fields_get : (e : List Value) (f n g : ℕ) → f ≤ g → g < f + n → All e (fields_kept cs c f n) → True cs m e (field_kept cs c g)
    fields_get e f zero g l k t = absurd (omega (arith, l, k))
    fields_get e f (suc n) g l k t =
        ⊎_elim
        (λ same. subst (λ x. True cs m e (field_kept cs c x)) same t.0)
        (λ other. fields_get e (f + 1) n g (omega (arith, l, other)) (omega (arith, k)) t.1)
        (cases_eq f g)

    fields_all : (e : List Value) (f n : ℕ) → ((g : ℕ) → g < f + n → True cs m e (field_kept cs c g)) → All e (fields_kept cs c f n)
    fields_all e f zero h = tt
    fields_all e f (suc n) h = (h f (omega arith), fields_all e (f + 1) n (λ g l. h g (omega (arith, l))))

    -- ---- what is equal

    module _ (w : Thing) (e' : List Value) where
      level_in : True cs m (thing w ∷ e') (equal (level_of c.after the_object) (level_of c.before the_object)) ≡ (thing (class_name (A.at w).level) ≡ thing (class_name (B.at w).level))
      level_in =
          ap (λ s. thing (class_name ((as_store s).at w).level) ≡ thing (class_name ((as_store (value_of cs m (thing w ∷ e') c.before)).at w).level)) (after_closed (thing w ∷ e'))
          ∙ ap (λ s. thing (class_name (A.at w).level) ≡ thing (class_name ((as_store s).at w).level)) (before_closed (thing w ∷ e'))

      owners_in : True cs m (thing w ∷ e') (equal (owner_of c.after the_object) (owner_of c.before the_object)) ≡ (thing (A.at w).owner ≡ thing (B.at w).owner)
      owners_in =
          ap (λ s. thing ((as_store s).at w).owner ≡ thing ((as_store (value_of cs m (thing w ∷ e') c.before)).at w).owner) (after_closed (thing w ∷ e'))
          ∙ ap (λ s. thing (A.at w).owner ≡ thing ((as_store s).at w).owner) (before_closed (thing w ∷ e'))

      committed_after : True cs m (thing w ∷ e') (committed c.after the_object) ≡ ((A.at w).committed ≡ true)
      committed_after = ap (λ s. ((as_store s).at w).committed ≡ true) (after_closed (thing w ∷ e'))

      allocated_after : True cs m (thing w ∷ e') (allocated c.after the_object) ≡ (is_allocated A w ≡ true)
      allocated_after = ap (λ s. is_allocated (as_store s) w ≡ true) (after_closed (thing w ∷ e'))

      full_in : True cs m (thing w ∷ e') (equal (level_of c.after the_object) (type_of the_object)) ≡ (thing (class_name (A.at w).level) ≡ thing (class_name (m.table.class_of w)))
      full_in = ap (λ s. thing (class_name ((as_store s).at w).level) ≡ thing (class_name (m.table.class_of w))) (after_closed (thing w ∷ e'))

      field_in : (f : ℕ) → True cs m (thing w ∷ e') (equal (app (Field f) (c.after ∷ the_object ∷ [])) (app (Field f) (c.before ∷ the_object ∷ []))) ≡ (cell (field_sort cs f) (A.at w).fields f ≡ cell (field_sort cs f) (B.at w).fields f)
      field_in f =
          ap (λ s. cell (field_sort cs f) ((as_store s).at w).fields f ≡ cell (field_sort cs f) ((as_store (value_of cs m (thing w ∷ e') c.before)).at w).fields f) (after_closed (thing w ∷ e'))
          ∙ ap (λ s. cell (field_sort cs f) (A.at w).fields f ≡ cell (field_sort cs f) ((as_store s).at w).fields f) (before_closed (thing w ∷ e'))

    element_in : (w : Thing) (i : ℤ) (r : Sort) → True cs m (thing w ∷ whole i ∷ []) (element_kept c (Element r)) ≡ (cell r (A.at w).elements i ≡ cell r (B.at w).elements i)
    element_in w i r =
        ap (λ s. cell r ((as_store s).at w).elements i ≡ cell r ((as_store (value_of cs m (thing w ∷ whole i ∷ []) c.before)).at w).elements i) (after_closed (thing w ∷ whole i ∷ []))
        ∙ ap (λ s. cell r (A.at w).elements i ≡ cell r ((as_store s).at w).elements i) (before_closed (thing w ∷ whole i ∷ []))

    -- ---- both ways

    pub kept_from : True cs m [] (kept cs c) → IsKept cs m c
    kept_from t =
        let object = λ (w : Thing) (a : is_allocated B w ≡ true) (b : IsBound cs m c w).
        unless_to (thing w ∷ []) (neg (allocated c.before the_object) ∷ is_free c) (object_kept cs c) (t.0 (thing w ∷ []) (refl, tt)) ((λ k. k (into (sym (allocated_in w [])) a)), bound_to w [] b) in
        let array = λ (w : Thing) (i : ℤ) (a : is_allocated B w ≡ true) (b : IsBound cs m c w) (n : Each (NamesNoElement cs m w) c.named).
        unless_to (thing w ∷ whole i ∷ []) (neg (allocated c.before the_object) ∷ is_free c ++ all_named names_elements c.named) (array_kept c) (t.1.0 (thing w ∷ whole i ∷ []) (refl, (refl, tt)))
        (none_both (thing w ∷ whole i ∷ []) (neg (allocated c.before the_object) ∷ is_free c) (all_named names_elements c.named)
        ((λ k. k (into (sym (allocated_in w (whole i ∷ []))) a)), bound_to w (whole i ∷ []) b)
        (all_to (thing w ∷ whole i ∷ []) names_elements (NamesNoElement cs m w) (element_names_to w i) c.named sorted.named n)) in
        record {
          level = λ w a b o n.
              class_number _ _ (into (level_in w []) (unless_to (thing w ∷ []) (is_outside c ++ all_named names_level c.named) (equal (level_of c.after the_object) (level_of c.before the_object)) (object w a b).0
              (none_both (thing w ∷ []) (is_outside c) (all_named names_level c.named) (outside_to w [] c.outside sorted.outside o) (all_to (thing w ∷ []) names_level (NamesNoLevel cs m w) (level_names_to w) c.named sorted.named n))));
          committed = λ w a b. iff_to (thing w ∷ []) (committed c.after the_object) (committed c.before the_object) (A.at w).committed (B.at w).committed (committed_after w []) (committed_in w []) (object w a b).1.0;
          owner = λ w a b. ap as_thing (into (owners_in w []) (object w a b).1.1.0);
          fields = λ w f a b h n.
              let l = ltb-true f (length (all_fields cs)) h in
              into (field_in w [] f) (unless_to (thing w ∷ []) (all_named (names_field cs f) c.named) (equal (app (Field f) (c.after ∷ the_object ∷ [])) (app (Field f) (c.before ∷ the_object ∷ [])))
              (fields_get (thing w ∷ []) 0 (length (all_fields cs)) f (omega arith) (omega (arith, l)) (object w a b).1.1.1)
              (all_to (thing w ∷ []) (names_field cs f) (NamesNoField cs m f w) (field_names_to w f) c.named sorted.named n));
          elements = λ w i a b n.
              let x = array w i a b n in
              (ap as_thing (into (element_in w i sort.Rest) x.0), ap as_whole (into (element_in w i sort.Whole) x.1.0), ap as_truth (into (element_in w i sort.Truth) x.1.1.0));
          full = λ w a f o.
              class_number _ _ (into (full_in w []) (unless_to (thing w ∷ []) (neg (allocated c.after the_object) ∷ and_of (allocated c.before the_object ∷ map neg (is_free c)) ∷ is_outside c) (equal (level_of c.after the_object) (type_of the_object)) (t.1.1.0 (thing w ∷ []) (refl, tt)) (
                (λ k. k (into (sym (allocated_after w [])) a)),
                (
                  (λ k. f (into (allocated_in w []) k.0) (bound_from w [] (negs_none (thing w ∷ []) (is_free c) k.1))),
                  outside_to w [] c.outside sorted.outside o,
                ),
              )));
        }

    pub kept_to : IsKept cs m c → True cs m [] (kept cs c)
    kept_to g = (
      one_thing (λ vs. True cs m vs (unless (neg (allocated c.before the_object) ∷ is_free c) (object_kept cs c))) (λ w.
          unless_from (thing w ∷ []) (neg (allocated c.before the_object) ∷ is_free c) (object_kept cs c) (λ n.
          let a : is_allocated B w ≡ true = bool_stable _ true (λ k. n.0 (λ x. k (into (allocated_in w []) x))) in
          let b = bound_from w [] n.1 in (
            unless_from (thing w ∷ []) (is_outside c ++ all_named names_level c.named) (equal (level_of c.after the_object) (level_of c.before the_object)) (λ k.
                let p = none_parts (thing w ∷ []) (is_outside c) (all_named names_level c.named) k in
                into (sym (level_in w [])) (ap (λ x. thing (class_name x)) (g.level w a b (outside_from w [] c.outside sorted.outside p.0) (all_from (thing w ∷ []) names_level (NamesNoLevel cs m w) (level_names_from w) c.named sorted.named p.1)))),
            (
              iff_from (thing w ∷ []) (committed c.after the_object) (committed c.before the_object) (A.at w).committed (B.at w).committed (committed_after w []) (committed_in w []) (g.committed w a b),
              (
                into (sym (owners_in w [])) (ap thing (g.owner w a b)),
                fields_all (thing w ∷ []) 0 (length (all_fields cs)) (λ f l.
                    unless_from (thing w ∷ []) (all_named (names_field cs f) c.named) (equal (app (Field f) (c.after ∷ the_object ∷ [])) (app (Field f) (c.before ∷ the_object ∷ []))) (λ k.
                    into (sym (field_in w [] f)) (g.fields w f a b (lt-ltb f (length (all_fields cs)) (omega (arith, l))) (all_from (thing w ∷ []) (names_field cs f) (NamesNoField cs m f w) (field_names_from w f) c.named sorted.named k)))),
              ),
            ),
          ))),
      (
        thing_and_whole (λ vs. True cs m vs (unless (neg (allocated c.before the_object) ∷ is_free c ++ all_named names_elements c.named) (array_kept c))) (λ w i.
            unless_from (thing w ∷ whole i ∷ []) (neg (allocated c.before the_object) ∷ is_free c ++ all_named names_elements c.named) (array_kept c) (λ n.
            let p = none_parts (thing w ∷ whole i ∷ []) (neg (allocated c.before the_object) ∷ is_free c) (all_named names_elements c.named) n in
            let a : is_allocated B w ≡ true = bool_stable _ true (λ k. p.0.0 (λ x. k (into (allocated_in w (whole i ∷ [])) x))) in
            let x = g.elements w i a (bound_from w (whole i ∷ []) p.0.1) (all_from (thing w ∷ whole i ∷ []) names_elements (NamesNoElement cs m w) (element_names_from w i) c.named sorted.named p.1) in
            (into (sym (element_in w i sort.Rest)) (ap thing x.0), (into (sym (element_in w i sort.Whole)) (ap whole x.1), (into (sym (element_in w i sort.Truth)) (ap truth x.2), tt))))),
        (
          one_thing (λ vs. True cs m vs (unless (neg (allocated c.after the_object) ∷ and_of (allocated c.before the_object ∷ map neg (is_free c)) ∷ is_outside c) (equal (level_of c.after the_object) (type_of the_object)))) (λ w.
              unless_from (thing w ∷ []) (neg (allocated c.after the_object) ∷ and_of (allocated c.before the_object ∷ map neg (is_free c)) ∷ is_outside c) (equal (level_of c.after the_object) (type_of the_object)) (λ n.
              let a : is_allocated A w ≡ true = bool_stable _ true (λ k. n.0 (λ x. k (into (allocated_after w []) x))) in
              into (sym (full_in w [])) (ap (λ x. thing (class_name x)) (g.full w a (λ q b. n.1.0 (into (sym (allocated_in w [])) q, none_negs (thing w ∷ []) (is_free c) (bound_to w [] b))) (outside_from w [] c.outside sorted.outside n.1.1))))),
          tt,
        ),
      ),
    )
