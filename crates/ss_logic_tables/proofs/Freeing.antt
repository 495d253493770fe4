-- What is bound, as terms say, is what isn't free.
use Rattle.std.proofs.Common.{◌≡◌, ℕ, suc, List, [], ◌∷◌, ◌++◌, length, drop, map, Bool, true, false, not, ◌&&◌, ◌||◌, eqb, Some, refl, sym, ◌∙◌, ap, subst, arith}
use Rattle.std.specs.Prelude.{flat_map, if◌then◌else◌, slice_get, unwrap_or, nat_lt}
use Rattle.std.specs.List.{list_any, list_all}
use Rattle.std.proofs.lemmas.Bool.{false≢true, true≢false, and_parts, and_from, eqb-true, eq-eqb, ltb-true}
use Rattle.ss_core.specs.declared.names.Ty.{Ty}
use Rattle.ss_core.specs.declared.names.Ty.TheVariants as ty
use Rattle.ss_core.specs.Tree.{ClassTree, LocalTree, BodyTree}
use Rattle.ss_core.specs.Chain.{levels, sub, below, is_type, NoAlso}
use Rattle.ss_core.proofs.Chains.{sub-below}
use Rattle.ss_core.specs.Types.{is_class_type}
use Rattle.ss_store_rules.specs.declared.Value.{Value as ObjectValue}
use Rattle.ss_store_rules.specs.declared.Value.TheVariants as value
use Rattle.ss_store_rules.specs.declared.Owner.{Owner}
use Rattle.ss_store_rules.specs.declared.Owner.TheVariants as owner
use Rattle.ss_store_rules.specs.Store.{Object}
use Rattle.ss_store_rules.specs.Reads as reads
use Rattle.ss_store_rules.specs.Reads.{is_object_with, same_owner, is_pair, is_pair_upto, object_at, is_allocated}
use Rattle.ss_store_rules.specs.Changes.{owned_by}
use Rattle.ss_store_rules.specs.Good.{has_type}
use Rattle.ss_store_rules.specs.Locals.{types_of, argument_types}
use Rattle.ss_store_rules.specs.Typed.{is_local}
use Rattle.ss_machine_rules.specs.Frame as frame
use Rattle.ss_machine_rules.specs.Frame.{Span, captured_among, captured_values, is_in_group_with, local_at, this_of, is_owned_by_new, refers_to, is_outside}
use Rattle.ss_logic.specs.declared.Sort.TheVariants as sort
use Rattle.ss_logic.specs.Values.{Thing, null, reference, class_name, group_number, owner_pair, is_group, Heap, as_thing, as_store, IsNumbered, Structure}
use Rattle.ss_logic.specs.Terms.{Term, value_of}
use Rattle.ss_logic.specs.Objects.{owner_of_thing, object_in, objects_of}
use Rattle.ss_logic.proofs.Tabled.{count}
use Rattle.ss_logic.proofs.Numbered.{store_numbered}
use Rattle.ss_logic.specs.Express.{Meant, One, Either, Says, meant_or_null, local_meant}
use Rattle.ss_logic.specs.Frames.{OwnerTerm}
use Rattle.ss_logic.specs.FrameMeans.{Each, thing_of, store_of, IsBound, IsInside}
use Rattle.ss_logic_means.specs.Means.{standing}
use Rattle.ss_logic_means.specs.Sorts.{HasSort}
use Rattle.ss_logic_means.proofs.Classes.{IsReferenceOf, object_known}
use Rattle.ss_logic_means.proofs.Typed.{reference_value, good_owners}
use Rattle.ss_logic_means.proofs.Standing.{get_old}
use Rattle.ss_logic_means.proofs.Owners.{pair_back}
use Rattle.ss_vcgen_heaps.specs.Contracts.{term_of_one, captured_terms, pairs_of, owned_terms}
use Rattle.ss_logic_tables.specs.Spans.{IsArgument, AreArguments, AreReferences, SpanTerms, SpanValues, IsSpan, span_of, terms_of}
use Rattle.ss_logic_tables.proofs.Objects.{IsLow, same_back, same_owner_self, group_owner}
use Rattle.ss_logic_tables.proofs.Naming.{neither_parts, neither_from}
use Rattle.ss_logic_tables.proofs.Standing.{ContextOf, Values}

-- ---- tests

pub not_true : (b : Bool) → (b ≡ true → ⊥) → b ≡ false
not_true true h = absurd (h refl)
not_true false h = refl

group_of : (w : Thing) → is_group w ≡ true → (g : ℕ) × (w ≡ group_number g)
group_of (group_number g) h = (g, refl)
group_of w h = absurd (false≢true h)

each_front : (P : OwnerTerm → Type 0) (xs : List OwnerTerm) → Each P (xs ++ []) → Each P xs
each_front P [] a = tt
each_front P (x ∷ xs) a = (a.0, each_front P xs a.1)

front_each : (P : OwnerTerm → Type 0) (xs : List OwnerTerm) → Each P xs → Each P (xs ++ [])
front_each P [] a = tt
front_each P (x ∷ xs) a = (a.0, front_each P xs a.1)

-- ---- arguments that are references

sort_apart : sort.Truth ≡ sort.Rest → ⊥
sort_apart e = let bad : ⊥ = cc in bad

-- an argument of a class is one term
pub one_term : (cs : List ClassTree) (m : Structure) (a : Ty) (x : Meant) (u : ObjectValue) → is_class_type a ≡ true → IsArgument cs m a x u → (y : Term) × (x ≡ One y) × HasSort cs [] sort.Rest y × (value_of cs m [] y ≡ standing u)
one_term cs m ty.Int x u h i = absurd (false≢true h)
one_term cs m ty.Bool x u h i = absurd (false≢true h)
one_term cs m ty.Null x u h i = absurd (false≢true h)
one_term cs m (ty.Ref k n) (One y) u h i = (y, refl, (i.sorted []).1, (i.denotes []).agree.0 tt)
one_term cs m (ty.Ref k n) (Either xs) u h i = absurd i.settled
one_term cs m (ty.Ref k n) (Says f) u h i = absurd (sort_apart (i.sorted []).1.0)

class_reference : (cs : List ClassTree) (m : Structure) (h : Heap) (a : Ty) (u : ObjectValue) → is_class_type a ≡ true → has_type cs (objects_of cs m.table h) a u ≡ true → IsReferenceOf h u
class_reference cs m h ty.Int u c e = absurd (false≢true c)
class_reference cs m h ty.Bool u c e = absurd (false≢true c)
class_reference cs m h ty.Null u c e = absurd (false≢true c)
class_reference cs m h (ty.Ref k n) u c e = reference_value cs m.table h (ty.Ref k n) refl u e

pub class_if_captured : (cs : List ClassTree) (p : LocalTree) → is_local cs p ≡ true → p.captured ≡ true → is_class_type p.ty ≡ true
class_if_captured cs p is c = later p.captured c (and_parts (is_type cs p.ty) (not p.captured || is_class_type p.ty) is).1
  where
    later : (c : Bool) → c ≡ true → (not c || is_class_type p.ty) ≡ true → is_class_type p.ty ≡ true
    later true c e = e
    later false c e = absurd (false≢true c)

abbrev pub AllTyped : List ClassTree → List Object → List Ty → List ObjectValue → Type 0
AllTyped cs s [] vs = Unit {0}
AllTyped cs s (a ∷ ts) [] = Unit {0}
AllTyped cs s (a ∷ ts) (u ∷ vs) = (has_type cs s a u ≡ true) × AllTyped cs s ts vs

pub all_typed : (cs : List ClassTree) (s : List Object) (ts : List Ty) (vs : List ObjectValue) → ((x : ℕ) (a : Ty) (u : ObjectValue) → slice_get ts x ≡ Some a → slice_get vs x ≡ Some u → has_type cs s a u ≡ true) → AllTyped cs s ts vs
all_typed cs s [] vs h = tt
all_typed cs s (a ∷ ts) [] h = tt
all_typed cs s (a ∷ ts) (u ∷ vs) h = (h 0 a u refl refl, all_typed cs s ts vs (λ x b w e f. h (suc x) b w e f))

-- ---- outside

module _ (cs : List ClassTree) (m : Structure) (o : ℕ) where
  pub outside_to : (us : List Term) (ys : List ObjectValue) → AreReferences cs m us ys → Each (λ u. reference o ≡ thing_of cs m u → ⊥) us → list_any (refers_to o) ys ≡ false
  outside_to [] [] a all = refl
  outside_to (u ∷ us) (value.Obj q ∷ ys) a all =
      neither_from (eqb q o) (list_any (refers_to o) ys) (not_true (eqb q o) (λ e. all.0 (ap reference (sym (eqb-true q o e)) ∙ sym (ap as_thing a.1)))) (outside_to us ys a.2 all.1)
  outside_to (u ∷ us) (value.Int n ∷ ys) a all = outside_to us ys a.2 all.1
  outside_to (u ∷ us) (value.Bool c ∷ ys) a all = outside_to us ys a.2 all.1
  outside_to (u ∷ us) (value.Null ∷ ys) a all = outside_to us ys a.2 all.1
  outside_to [] (y ∷ ys) a all = absurd a
  outside_to (u ∷ us) [] a all = absurd a

  no_reference : (z : Thing) → z ≡ null → reference o ≡ z → ⊥
  no_reference z n e = let bad : reference o ≡ null = e ∙ n in let worse : ⊥ = cc in worse

  pub outside_from : (us : List Term) (ys : List ObjectValue) → AreReferences cs m us ys → list_any (refers_to o) ys ≡ false → Each (λ u. reference o ≡ thing_of cs m u → ⊥) us
  outside_from [] [] a f = tt
  outside_from (u ∷ us) (value.Obj q ∷ ys) a f =
      let p = neither_parts (eqb q o) (list_any (refers_to o) ys) f in
      ((λ e. let same : reference o ≡ reference q = e ∙ ap as_thing a.1 in let at : q ≡ o = cc in false≢true (sym p.0 ∙ eq-eqb q o at)), outside_from us ys a.2 p.1)
  outside_from (u ∷ us) (value.Int n ∷ ys) a f = (no_reference (thing_of cs m u) (ap as_thing a.1), outside_from us ys a.2 f)
  outside_from (u ∷ us) (value.Bool c ∷ ys) a f = (no_reference (thing_of cs m u) (ap as_thing a.1), outside_from us ys a.2 f)
  outside_from (u ∷ us) (value.Null ∷ ys) a f = (no_reference (thing_of cs m u) (ap as_thing a.1), outside_from us ys a.2 f)
  outside_from [] (y ∷ ys) a f = absurd a
  outside_from (u ∷ us) [] a f = absurd a

-- ---- one object

module _ (cs : List ClassTree) (m : Structure) (h : Heap) (low : (q : ℕ) → nat_lt q h.next ≡ true → IsLow h.next (h.at (reference q)).owner) (numbered : IsNumbered h) (o : ℕ) (l : nat_lt o h.next ≡ true) where
  abbrev Here : List Object
  Here = objects_of cs m.table h

  abbrev X : Object
  X = object_in cs m.table h o

  abbrev W : Thing
  W = (h.at (reference o)).owner

  -- ---- captured

  abbrev Apart : Term → Type 0
  Apart u = is_group (h.at (thing_of cs m u)).owner ≡ true → W ≡ (h.at (thing_of cs m u)).owner → ⊥

  abbrev is_with : ObjectValue → Bool
  is_with y = is_object_with y (λ e. is_allocated Here e && reads.is_group X.owner && same_owner X.owner (object_at Here e).owner)

  owner_known : (e : ℕ) → nat_lt e h.next ≡ true → (object_at Here e).owner ≡ owner_of_thing h.next (h.at (reference e)).owner
  owner_known e k = ap (λ x. x.owner) (object_known cs m [] h e k)

  with_object : (e : ℕ) → nat_lt e h.next ≡ true → (is_allocated Here e && reads.is_group X.owner && same_owner X.owner (object_at Here e).owner) ≡ true → (is_group (h.at (reference e)).owner ≡ true) × (W ≡ (h.at (reference e)).owner)
  with_object e k is =
      let p = and_parts (is_allocated Here e && reads.is_group X.owner) (same_owner X.owner (object_at Here e).owner) is in
      let q = and_parts (is_allocated Here e) (reads.is_group X.owner) p.0 in
      let same : W ≡ (h.at (reference e)).owner = same_back h.next W (h.at (reference e)).owner (low e k) (ap (same_owner X.owner) (sym (owner_known e k)) ∙ p.1) in
      (ap is_group (sym same) ∙ group_owner h.next W ∙ q.1, same)

  object_with : (e : ℕ) → nat_lt e h.next ≡ true → is_group (h.at (reference e)).owner ≡ true → W ≡ (h.at (reference e)).owner → (is_allocated Here e && reads.is_group X.owner && same_owner X.owner (object_at Here e).owner) ≡ true
  object_with e k g same =
      let there : is_allocated Here e ≡ true = ap (nat_lt e) (count cs m.table h) ∙ k in
      let grouped : reads.is_group X.owner ≡ true = sym (group_owner h.next W) ∙ ap is_group same ∙ g in
      let equal : same_owner X.owner (object_at Here e).owner ≡ true = ap (same_owner X.owner) (owner_known e k ∙ ap (owner_of_thing h.next) (sym same)) ∙ same_owner_self X.owner in
      and_from (is_allocated Here e && reads.is_group X.owner) (same_owner X.owner (object_at Here e).owner) (and_from (is_allocated Here e) (reads.is_group X.owner) there grouped) equal

  apart_to : (u : Term) (y : ObjectValue) → value_of cs m [] u ≡ standing y → IsReferenceOf h y → Apart u → is_with y ≡ false
  apart_to u (value.Int n) is r a = absurd r
  apart_to u (value.Bool c) is r a = absurd r
  apart_to u value.Null is r a = refl
  apart_to u (value.Obj e) is r a = not_true _ (λ w.
      let p = with_object e r w in
      let at : thing_of cs m u ≡ reference e = ap as_thing is in
      a (ap (λ z. is_group (h.at z).owner) at ∙ p.0) (p.1 ∙ ap (λ z. (h.at z).owner) (sym at)))

  apart_from : (u : Term) (y : ObjectValue) → value_of cs m [] u ≡ standing y → IsReferenceOf h y → is_with y ≡ false → Apart u
  apart_from u (value.Int n) is r f g same = absurd r
  apart_from u (value.Bool c) is r f g same = absurd r
  apart_from u value.Null is r f g same =
      let at : thing_of cs m u ≡ null = ap as_thing is in
      let k = group_of (h.at null).owner (ap (λ z. is_group (h.at z).owner) (sym at) ∙ g) in
      false≢true (numbered null k.0 k.1).0
  apart_from u (value.Obj e) is r f g same =
      let at : thing_of cs m u ≡ reference e = ap as_thing is in
      false≢true (sym f ∙ object_with e r (ap (λ z. is_group (h.at z).owner) (sym at) ∙ g) (same ∙ ap (λ z. (h.at z).owner) at))

  -- ---- the captured ones among parameters

  abbrev pick : {A : Type 0} → Bool → List A → List A → List A
  pick c xs ys = if c then xs ++ ys else ys

  captured_one_to : (c : Bool) (a : Ty) (x : Meant) (u : ObjectValue) (ts : List Term) (us : List ObjectValue) → (c ≡ true → is_class_type a ≡ true) → IsArgument cs m a x u → has_type cs Here a u ≡ true →
      (Each Apart ts → list_any is_with us ≡ false) → Each Apart (if c then term_of_one x ++ ts else ts) → list_any is_with (if c then u ∷ us else us) ≡ false
  captured_one_to false a x u ts us k i e rest all = rest all
  captured_one_to true a x u ts us k i e rest all =
      let y = one_term cs m a x u (k refl) i in
      let both : Each Apart (y.0 ∷ ts) = subst (λ z. Each Apart (term_of_one z ++ ts)) y.1 all in
      neither_from (is_with u) (list_any is_with us) (apart_to y.0 u y.3 (class_reference cs m h a u (k refl) e) both.0) (rest both.1)

  captured_one_from : (c : Bool) (a : Ty) (x : Meant) (u : ObjectValue) (ts : List Term) (us : List ObjectValue) → (c ≡ true → is_class_type a ≡ true) → IsArgument cs m a x u → has_type cs Here a u ≡ true →
      (list_any is_with us ≡ false → Each Apart ts) → list_any is_with (if c then u ∷ us else us) ≡ false → Each Apart (if c then term_of_one x ++ ts else ts)
  captured_one_from false a x u ts us k i e rest f = rest f
  captured_one_from true a x u ts us k i e rest f =
      let y = one_term cs m a x u (k refl) i in
      let p = neither_parts (is_with u) (list_any is_with us) f in
      subst (λ z. Each Apart (term_of_one z ++ ts)) (sym y.1) (apart_from y.0 u y.3 (class_reference cs m h a u (k refl) e) p.0, rest p.1)

  captured_to : (ps : List LocalTree) (xs : List Meant) (vs rest : List ObjectValue) → AreArguments cs m (types_of ps) xs vs → AllTyped cs Here (types_of ps) vs → list_all (is_local cs) ps ≡ true →
      Each Apart (captured_terms ps xs) → list_any is_with (captured_among ps (vs ++ rest)) ≡ false
  captured_to [] xs vs rest a k is all = refl
  captured_to (p ∷ ps) (x ∷ xs) (u ∷ vs) rest a k is all =
      let both = and_parts (is_local cs p) (list_all (is_local cs) ps) is in
      captured_one_to p.captured p.ty x u (captured_terms ps xs) (captured_among ps (vs ++ rest)) (class_if_captured cs p both.0) a.0 k.0 (captured_to ps xs vs rest a.1 k.1 both.1) all
  captured_to (p ∷ ps) [] vs rest a k is all = absurd a
  captured_to (p ∷ ps) (x ∷ xs) [] rest a k is all = absurd a

  captured_from : (ps : List LocalTree) (xs : List Meant) (vs rest : List ObjectValue) → AreArguments cs m (types_of ps) xs vs → AllTyped cs Here (types_of ps) vs → list_all (is_local cs) ps ≡ true →
      list_any is_with (captured_among ps (vs ++ rest)) ≡ false → Each Apart (captured_terms ps xs)
  captured_from [] xs vs rest a k is f = tt
  captured_from (p ∷ ps) (x ∷ xs) (u ∷ vs) rest a k is f =
      let both = and_parts (is_local cs p) (list_all (is_local cs) ps) is in
      captured_one_from p.captured p.ty x u (captured_terms ps xs) (captured_among ps (vs ++ rest)) (class_if_captured cs p both.0) a.0 k.0 (captured_from ps xs vs rest a.1 k.1 both.1) f
  captured_from (p ∷ ps) [] vs rest a k is f = absurd a
  captured_from (p ∷ ps) (x ∷ xs) [] rest a k is f = absurd a

  -- after the `this`, where there is one
  abbrev pub Before_params : Bool → ℕ → List Ty
  Before_params static t = if static then [] else ty.Ref (record { 0 = t }) true ∷ []

  pub params_to : (static : Bool) (t : ℕ) (ps : List LocalTree) (xs : List Meant) (vs rest : List ObjectValue) → AreArguments cs m (Before_params static t ++ types_of ps) xs vs → AllTyped cs Here (Before_params static t ++ types_of ps) vs → list_all (is_local cs) ps ≡ true →
      Each Apart (captured_terms ps (drop (length (Before_params static t)) xs)) → list_any is_with (captured_among ps (drop (length (Before_params static t)) (vs ++ rest))) ≡ false
  params_to true t ps xs vs rest a k is all = captured_to ps xs vs rest a k is all
  params_to false t ps (x ∷ xs) (u ∷ vs) rest a k is all = captured_to ps xs vs rest a.1 k.1 is all
  params_to false t ps [] vs rest a k is all = absurd a
  params_to false t ps (x ∷ xs) [] rest a k is all = absurd a

  pub params_from : (static : Bool) (t : ℕ) (ps : List LocalTree) (xs : List Meant) (vs rest : List ObjectValue) → AreArguments cs m (Before_params static t ++ types_of ps) xs vs → AllTyped cs Here (Before_params static t ++ types_of ps) vs → list_all (is_local cs) ps ≡ true →
      list_any is_with (captured_among ps (drop (length (Before_params static t)) (vs ++ rest))) ≡ false → Each Apart (captured_terms ps (drop (length (Before_params static t)) xs))
  params_from true t ps xs vs rest a k is f = captured_from ps xs vs rest a k is f
  params_from false t ps (x ∷ xs) (u ∷ vs) rest a k is f = captured_from ps xs vs rest a.1 k.1 is f
  params_from false t ps [] vs rest a k is f = absurd a
  params_from false t ps (x ∷ xs) [] rest a k is f = absurd a

  -- ---- owned by a new object

  abbrev Unowned : OwnerTerm → Type 0
  Unowned w = W ≡ owner_pair (thing_of cs m w.object) (class_name w.class) → ⊥

  abbrev Pairs : Term → List ℕ → List OwnerTerm
  Pairs u ks = map (λ k. record { object = u; class = k }) ks

  each_at : (u : Term) (ks : List ℕ) (k : ℕ) → list_any (λ level. eqb level k) ks ≡ true → Each Unowned (Pairs u ks) → Unowned (record { object = u; class = k })
  each_at u [] k is all = absurd (false≢true is)
  each_at u (j ∷ ks) k is all = by (λ q. each_at u ks k q all.1) (eqb j k) refl is
    where
      by : (list_any (λ level. eqb level k) ks ≡ true → Unowned (record { object = u; class = k })) → (c : Bool) → eqb j k ≡ c → (c || list_any (λ level. eqb level k) ks) ≡ true → Unowned (record { object = u; class = k })
      by later true e q = subst (λ i. Unowned (record { object = u; class = i })) (eqb-true j k e) all.0
      by later false e q = later q

  each_of : (u : Term) (ks : List ℕ) → ((k : ℕ) → list_any (λ level. eqb level k) ks ≡ true → Unowned (record { object = u; class = k })) → Each Unowned (Pairs u ks)
  each_of u [] h = tt
  each_of u (j ∷ ks) h = (h j (ap (λ c. c || list_any (λ level. eqb level j) ks) (eq-eqb j j refl)), each_of u ks (λ k is. h k (later (eqb j k) k is)))
    where
      later : (c : Bool) (k : ℕ) → list_any (λ level. eqb level k) ks ≡ true → (c || list_any (λ level. eqb level k) ks) ≡ true
      later true k is = refl
      later false k is = is

  module _ (beside : NoAlso cs) where
    level_of : (t k : ℕ) → sub cs t k ≡ true → list_any (λ level. eqb level k) (levels cs t) ≡ true
    unfolding below
    level_of t k h = sym (sub-below cs beside t k) ∙ h

    of_level : (t k : ℕ) → list_any (λ level. eqb level k) (levels cs t) ≡ true → sub cs t k ≡ true
    unfolding below
    of_level t k h = sub-below cs beside t k ∙ h

    pair_parts : (q t : ℕ) (x : Owner) → is_pair_upto cs q t x ≡ true → (k : ℕ) × (is_pair q k x ≡ true) × (sub cs t k ≡ true)
    pair_parts q t (owner.Group g) h = absurd (false≢true h)
    pair_parts q t (owner.Owned p k) h = let both = and_parts (eqb p q) (sub cs t k.0) h in (k.0, and_from (eqb p q) (eqb k.0 k.0) both.0 (eq-eqb k.0 k.0 refl), both.1)

    pairs_to : (t : ℕ) (u : Term) (y : ObjectValue) → value_of cs m [] u ≡ standing y → IsReferenceOf h y → Each Unowned (pairs_of cs t u) → is_object_with y (λ q. is_pair_upto cs q t X.owner) ≡ false
    pairs_to t u (value.Int n) is r all = absurd r
    pairs_to t u (value.Bool c) is r all = absurd r
    pairs_to t u value.Null is r all = refl
    pairs_to t u (value.Obj q) is r all = not_true _ (λ w.
        let p = pair_parts q t X.owner w in
        let at : thing_of cs m u ≡ reference q = ap as_thing is in
        each_at u (levels cs t) p.0 (level_of t p.0 p.2) all
        (pair_back h.next W q p.0 (ltb-true q h.next r) p.1 ∙ ap (λ z. owner_pair z (class_name p.0)) (sym at)))

    pairs_from : (t : ℕ) (u : Term) (y : ObjectValue) → value_of cs m [] u ≡ standing y → IsReferenceOf h y → is_object_with y (λ q. is_pair_upto cs q t X.owner) ≡ false → Each Unowned (pairs_of cs t u)
    pairs_from t u (value.Int n) is r f = absurd r
    pairs_from t u (value.Bool c) is r f = absurd r
    pairs_from t u value.Null is r f = each_of u (levels cs t) (λ k i e.
        let at : thing_of cs m u ≡ null = ap as_thing is in
        let w : W ≡ owner_pair null (class_name k) = e ∙ ap (λ z. owner_pair z (class_name k)) at in
        let below_itself = low o l h.next 0 (ap (owner_of_thing h.next) w) in
        omega (arith, below_itself))
    pairs_from t u (value.Obj q) is r f = each_of u (levels cs t) (λ k i e.
        let at : thing_of cs m u ≡ reference q = ap as_thing is in
        let w : X.owner ≡ owned_by q k = ap (owner_of_thing h.next) (e ∙ ap (λ z. owner_pair z (class_name k)) at) in
        false≢true (sym f ∙ ap (is_pair_upto cs q t) w ∙ and_from (eqb q q) (sub cs t k) (eq-eqb q q refl) (of_level t k i)))

-- ---- the object of a span

-- the first argument after the types of a `this`
pub first_argument : (cs : List ClassTree) (m : Structure) (h : Heap) (static : Bool) (c : ℕ) (ts : List Ty) (xs : List Meant) (vs : List ObjectValue) → static ≡ false →
    AreArguments cs m ((if static then [] else ty.Ref (record { 0 = c }) true ∷ []) ++ ts) xs vs → AllTyped cs (objects_of cs m.table h) ((if static then [] else ty.Ref (record { 0 = c }) true ∷ []) ++ ts) vs →
    (u : Term) × (y : ObjectValue) × (slice_get xs 0 ≡ Some (One u)) × (slice_get vs 0 ≡ Some y) × HasSort cs [] sort.Rest u × (value_of cs m [] u ≡ standing y) × IsReferenceOf h y
first_argument cs m h true c ts xs vs no_static a k = absurd (true≢false no_static)
first_argument cs m h false c ts [] vs e a k = absurd a
first_argument cs m h false c ts (x ∷ xs) [] e a k = absurd a
first_argument cs m h false c ts (x ∷ xs) (y ∷ vs) e a k =
    let one = one_term cs m (ty.Ref (record { 0 = c }) true) x y refl a.0 in
    (one.0, y, ap Some one.1, refl, one.2, one.3, class_reference cs m h (ty.Ref (record { 0 = c }) true) y refl k.0)

module _ (cs : List ClassTree) (m : Structure) (b : BodyTree) (t : SpanTerms) (v : SpanValues) (sp : IsSpan cs m b t v) where
  abbrev pub TheSpan : Span
  TheSpan = span_of cs m b v

  pub lows : (q : ℕ) → nat_lt q v.before.next ≡ true → IsLow v.before.next (v.before.at (reference q)).owner
  lows q k = good_owners cs m.table v.before sp.good_before q k

  pub store_is : store_of cs m t.before ≡ v.before
  store_is = ap as_store sp.before.1

  pub numbers : IsNumbered v.before
  numbers = subst IsNumbered store_is (store_numbered cs m t.before)

  typed_arguments : AllTyped cs (objects_of cs m.table v.before) (argument_types b) v.arguments
  typed_arguments = all_typed cs (objects_of cs m.table v.before) (argument_types b) v.arguments sp.passed.types

  pub the_first : b.flags.ctor ≡ true → (u : Term) × (y : ObjectValue) × (slice_get t.arguments 0 ≡ Some (One u)) × (slice_get v.arguments 0 ≡ Some y) × HasSort cs [] sort.Rest u × (value_of cs m [] u ≡ standing y) × IsReferenceOf v.before y
  the_first c = first_argument cs m v.before b.flags.is_static b.class (types_of b.params) t.arguments v.arguments (sp.body.constructs c) sp.arguments typed_arguments

  -- the `this` of a constructor is one term
  pub this_term : (c : b.flags.ctor ≡ true) → local_meant (ContextOf cs m b t v sp t.before) 0 ≡ One (the_first c).0
  this_term c =
      let f = the_first c in
      ap meant_or_null (get_old (t.arguments ++ _) _ 0 (One f.0) (get_old t.arguments _ 0 (One f.0) f.2))

  this_value : (c : b.flags.ctor ≡ true) → this_of (Values cs m b t v sp) ≡ (the_first c).1
  this_value c = let f = the_first c in ap (λ r. unwrap_or r value.Null) (get_old v.arguments _ 0 f.1 f.3)

  module _ (o : ℕ) (l : nat_lt o v.before.next ≡ true) where
    abbrev pub TheObject : Object
    TheObject = object_in cs m.table v.before o

    abbrev AllUnowned : List OwnerTerm → Type 0
    AllUnowned ws = Each (Unowned cs m v.before lows numbers o l) ws

    owned_to : AllUnowned (owned_terms cs b (ContextOf cs m b t v sp t.before)) → is_owned_by_new TheSpan TheObject ≡ false
    owned_to all = by b.flags.ctor refl all
      where
        by : (c : Bool) → b.flags.ctor ≡ c → AllUnowned (if c then flat_map (pairs_of cs b.class) (term_of_one (local_meant (ContextOf cs m b t v sp t.before) 0)) else []) →
            (c && is_object_with (this_of (Values cs m b t v sp)) (λ q. is_pair_upto cs q b.class TheObject.owner)) ≡ false
        by false e all = refl
        by true e all =
            let f = the_first e in
            let pairs : AllUnowned (pairs_of cs b.class f.0 ++ []) = subst (λ x. AllUnowned (flat_map (pairs_of cs b.class) (term_of_one x))) (this_term e) all in
            ap (λ y. is_object_with y (λ q. is_pair_upto cs q b.class TheObject.owner)) (this_value e)
            ∙ pairs_to cs m v.before lows numbers o l sp.beside b.class f.0 f.1 f.5 f.6 (each_front (Unowned cs m v.before lows numbers o l) (pairs_of cs b.class f.0) pairs)

    owned_from : is_owned_by_new TheSpan TheObject ≡ false → AllUnowned (owned_terms cs b (ContextOf cs m b t v sp t.before))
    owned_from = by b.flags.ctor refl
      where
        by : (c : Bool) → b.flags.ctor ≡ c → (c && is_object_with (this_of (Values cs m b t v sp)) (λ q. is_pair_upto cs q b.class TheObject.owner)) ≡ false →
            AllUnowned (if c then flat_map (pairs_of cs b.class) (term_of_one (local_meant (ContextOf cs m b t v sp t.before) 0)) else [])
        by false e f = tt
        by true e f =
            let a = the_first e in
            subst (λ x. AllUnowned (flat_map (pairs_of cs b.class) (term_of_one x))) (sym (this_term e))
            (front_each (Unowned cs m v.before lows numbers o l) (pairs_of cs b.class a.0) (pairs_from cs m v.before lows numbers o l sp.beside b.class a.0 a.1 a.5 a.6 (ap (λ y. is_object_with y (λ q. is_pair_upto cs q b.class TheObject.owner)) (sym (this_value e)) ∙ f)))

    -- ---- bound and free

    pub bound_to : IsBound cs m (terms_of cs b t) (reference o) → frame.is_free TheSpan TheObject ≡ false
    bound_to w =
        let committed = not_true TheObject.committed (λ e. w.committed (ap (λ h. (h.at (reference o)).committed) store_is ∙ e)) in
        let captured = params_to cs m v.before lows numbers o l b.flags.is_static b.class b.params t.arguments v.arguments _ sp.arguments typed_arguments sp.body.params
        (subst (λ h. Each (λ e. is_group (h.at (thing_of cs m e)).owner ≡ true → (h.at (reference o)).owner ≡ (h.at (thing_of cs m e)).owner → ⊥) (terms_of cs b t).captured) store_is w.captured) in
        let owned = owned_to (subst (λ h. Each (λ z. (h.at (reference o)).owner ≡ owner_pair (thing_of cs m z.object) (class_name z.class) → ⊥) (terms_of cs b t).owned) store_is w.owned) in
        neither_from (TheObject.committed || list_any (is_in_group_with TheSpan TheObject) (captured_values TheSpan)) (is_owned_by_new TheSpan TheObject)
        (neither_from TheObject.committed (list_any (is_in_group_with TheSpan TheObject) (captured_values TheSpan)) committed captured) owned

    pub bound_from : frame.is_free TheSpan TheObject ≡ false → IsBound cs m (terms_of cs b t) (reference o)
    bound_from f =
        let p = neither_parts (TheObject.committed || list_any (is_in_group_with TheSpan TheObject) (captured_values TheSpan)) (is_owned_by_new TheSpan TheObject) f in
        let q = neither_parts TheObject.committed (list_any (is_in_group_with TheSpan TheObject) (captured_values TheSpan)) p.0 in
        record {
          committed = λ e. true≢false (sym e ∙ ap (λ h. (h.at (reference o)).committed) store_is ∙ q.0);
          captured = subst (λ h. Each (λ e. is_group (h.at (thing_of cs m e)).owner ≡ true → (h.at (reference o)).owner ≡ (h.at (thing_of cs m e)).owner → ⊥) (terms_of cs b t).captured) (sym store_is)
              (params_from cs m v.before lows numbers o l b.flags.is_static b.class b.params t.arguments v.arguments _ sp.arguments typed_arguments sp.body.params q.1);
          owned = subst (λ h. Each (λ z. (h.at (reference o)).owner ≡ owner_pair (thing_of cs m z.object) (class_name z.class) → ⊥) (terms_of cs b t).owned) (sym store_is) (owned_from p.1);
        }

  module _ (o : ℕ) where
    pub inside_to : IsInside cs m (terms_of cs b t) (reference o) → is_outside TheSpan o ≡ false
    inside_to = outside_to cs m o t.outside v.outside sp.outside

    pub inside_from : is_outside TheSpan o ≡ false → IsInside cs m (terms_of cs b t) (reference o)
    inside_from = outside_from cs m o t.outside v.outside sp.outside
