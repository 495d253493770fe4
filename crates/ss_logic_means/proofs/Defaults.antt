-- Default conditions: their formulas are true exactly where they hold.
use Rattle.std.proofs.Common.{◌≡◌, ℕ, zero, suc, ◌+◌, List, [], ◌∷◌, ◌++◌, length, Bool, true, false, not, ◌&&◌, ◌||◌, map, eqb, Option, Some, None, refl, sym, ◌∙◌, ap, subst, append-nil, arith}
use Rattle.std.specs.Prelude.{nat_lt, slice_get, unwrap_or, if◌then◌else◌}
use Rattle.std.specs.List.{list_all, list_any}
use Rattle.std.proofs.lemmas.Bool.{false≢true, and_parts, and_from, eqb-true, eq-eqb}
use Rattle.std.proofs.lemmas.Option.{slice_get_within}
use Rattle.ss_core.specs.declared.names.Ty.{Ty}
use Rattle.ss_core.specs.declared.names.Ty.TheVariants as ty
use Rattle.ss_core.specs.Tree.{ClassTree, DefaultTree, AtLevel, Unpacked, ThisUnowned, Defaults, OwnedFull, Full, ConsistentArgument, FullArgument, Captured}
use Rattle.ss_core.specs.Chain.{sub, below, levels, DeclaredField, all_fields, IsChain, NoAlso}
use Rattle.ss_core.proofs.Chains.{sub-below, below_trans}
use Rattle.ss_store_rules.specs.declared.Value.{Value as ObjectValue}
use Rattle.ss_store_rules.specs.declared.Value.TheVariants as value
use Rattle.ss_store_rules.specs.declared.Owner.{Owner}
use Rattle.ss_store_rules.specs.declared.Owner.TheVariants as owner
use Rattle.ss_store_rules.specs.Store.{Slot, Object, slot_value, default_value}
use Rattle.ss_store_rules.specs.Reads as reads
use Rattle.ss_store_rules.specs.Reads.{same_value, is_object_with, is_null_or, is_in_group, is_pair, is_pair_upto, object_at, is_default_upto, at_defaults, owned_are_full, members_are_full}
use Rattle.ss_store_rules.specs.Changes.{class_of_field, field_type, new_fields}
use Rattle.ss_store_rules.specs.Good.{has_type, AreValues}
use Rattle.ss_store_rules.specs.Types.{is_reference, has_class}
use Rattle.ss_store_rules.specs.Values as run
use Rattle.ss_logic.specs.declared.Sort.TheVariants as sort
use Rattle.ss_logic.specs.Values.{null, reference, class_name, group_number, owner_pair, Thing, Entry, Heap, Value, thing, store, as_thing, as_store, Structure}
use Rattle.ss_logic.specs.Terms.{Term, Bound, app, sort_of_type, field_sort, cell, value_of}
use Rattle.ss_logic.specs.Terms as term
use Rattle.ss_logic.specs.Formulas.{Formula, Forall, neg}
use Rattle.ss_logic.specs.Objects.{content, owner_of_thing, filled, object_in, objects_of}
use Rattle.ss_logic.proofs.Tabled.{field_there}
use Rattle.ss_logic.specs.Shapes.{null_term, class_term, level_of, owner_of, pair_of, equal, differ, allocated, committed, group}
use Rattle.ss_logic.specs.Express.{and_of, or_of, choices, over, Context, local_meant, is_full, default_of_sort, defaults_from, owned_full, may_be_captured, met_by, default_said}
use Rattle.ss_store_rules.specs.Values.{subject}
use Rattle.ss_machine_typed.specs.Settings.{IsGoodSetting}
use Rattle.ss_machine_typed.proofs.Sound.{class_of_type}
use Rattle.ss_logic_means.specs.Means.{standing}
use Rattle.ss_logic_means.specs.Scenes.{setting_of, StandsAmong, Stay, has_subject, speaks_of}
use Rattle.ss_logic_means.proofs.Denoting.{V, M, D, and_means, or_means, neg_means, over_means}
use Rattle.ss_logic_means.proofs.Operations.{equal_means}
use Rattle.ss_logic_means.proofs.Classes.{IsReferenceOf, object_known, null_means}
use Rattle.ss_logic_means.proofs.Reading.{content_stands}
use Rattle.ss_logic_means.proofs.States.{allocated_means, committed_means, level_means, full_means, consistent_means}
use Rattle.ss_logic_means.proofs.Words.{unowned_means}
use Rattle.ss_logic_means.proofs.Owners.{owner_stands, owned_at_means}
use Rattle.ss_logic_means.proofs.Typed.{field_has, field_not_null, class_held, reference_value, good_values}
use Rattle.ss_logic_means.proofs.Standing.{get_found}
use Rattle.ss_logic_means.proofs.Listed.{and_more, and_one, and_none, and_all, or_more, staying_means, bound_thing, objects_mean}

-- ---- truth values

same_if : (a b : Bool) → (a ≡ true → b ≡ true) → (b ≡ true → a ≡ true) → a ≡ b
same_if true b h k = sym (h refl)
same_if false true h k = k refl
same_if false false h k = refl

eqb_sym : (a b : ℕ) → eqb a b ≡ eqb b a
eqb_sym a b = same_if (eqb a b) (eqb b a) (λ h. eq-eqb b a (sym (eqb-true a b h))) (λ h. eq-eqb a b (sym (eqb-true b a h)))

-- the owner is none of these pairs, or the object is full
pairs_step : (here x any full : Bool) → ((not (here && x) || full) && (not (here && any) || full)) ≡ (not (here && (x || any)) || full)
pairs_step false x any full = refl
pairs_step true true any true = or_true (not any)
  where
    or_true : (b : Bool) → (b || true) ≡ true
    or_true true = refl
    or_true false = refl
pairs_step true true any false = refl
pairs_step true false any full = refl

none_here : (here full : Bool) → true ≡ (not (here && false) || full)
none_here true full = refl
none_here false full = refl

module _ (cs : List ClassTree) (beside : NoAlso cs) (o : ℕ) (full : Bool) where
  each_pair : (q t : ℕ) (us : List ℕ) → list_all (λ u. not (eqb q o && eqb t u) || full) us ≡ (not (eqb q o && list_any (λ level. eqb level t) us) || full)
  each_pair q t [] = none_here (eqb q o) full
  each_pair q t (u ∷ us) =
      ap (λ b. (not (eqb q o && eqb t u) || full) && b) (each_pair q t us)
      ∙ pairs_step (eqb q o) (eqb t u) (list_any (λ level. eqb level t) us) full
      ∙ ap (λ b. not (eqb q o && (b || list_any (λ level. eqb level t) us)) || full) (eqb_sym t u)

  each_group : (us : List ℕ) → list_all (λ u. true) us ≡ true
  each_group [] = refl
  each_group (u ∷ us) = each_group us

  below_levels : (k t : ℕ) → sub cs k t ≡ list_any (λ level. eqb level t) (levels cs k)
  unfolding below
  below_levels k t = sub-below cs beside k t

  -- owned at a class means owned at each of its levels
  each_level : (k : ℕ) (w : Owner) → list_all (λ u. not (is_pair o u w) || full) (levels cs k) ≡ (not (is_pair_upto cs o k w) || full)
  each_level k (owner.Group g) = each_group (levels cs k)
  each_level k (owner.Owned q t) = each_pair q t.0 (levels cs k) ∙ ap (λ b. not (eqb q o && b) || full) (sym (below_levels k t.0))

-- ---- groups

group_in : (next : ℕ) (w : Thing) (g : ℕ) → is_in_group g (owner_of_thing next w) ≡ true → w ≡ group_number g
group_in next (group_number k) g h = ap group_number (eqb-true k g h)
group_in next (owner_pair (reference p) (class_name t)) g h = absurd (false≢true h)
group_in next w g h = absurd (false≢true h)

in_group : (next : ℕ) (w : Thing) (g : ℕ) → w ≡ group_number g → is_in_group g (owner_of_thing next w) ≡ true
in_group next w g e = subst (λ x. is_in_group g (owner_of_thing next x) ≡ true) (sym e) (eq-eqb g g refl)

-- ---- fields

-- what holds of all slots holds of the content of a field
slot_holds : (p : ℕ → ObjectValue → Bool) (xs : List Slot) (f : ℕ) (v : ObjectValue) → list_all (λ x. p x.field x.content) xs ≡ true → slot_value xs f ≡ Some v → p f v ≡ true
slot_holds p [] f v h e = absurd (let no : ⊥ = cc in no)
slot_holds p (x ∷ xs) f v h e =
    let parts = and_parts (p x.field x.content) (list_all (λ y. p y.field y.content) xs) h in
    here (eqb x.field f) refl parts.0 (λ (q : slot_value xs f ≡ Some v). slot_holds p xs f v parts.1 q) e
  where
    here : (b : Bool) → eqb x.field f ≡ b → p x.field x.content ≡ true → (slot_value xs f ≡ Some v → p f v ≡ true) → (if b then Some x.content else slot_value xs f) ≡ Some v → p f v ≡ true
    here true is own others q =
        let same : x.content ≡ v = cc in
        subst (λ u. p f u ≡ true) same (subst (λ g. p g x.content ≡ true) (eqb-true x.field f is) own)
    here false is own others q = others q

all_filled : (cs : List ClassTree) (x : Entry) (p : ℕ → ObjectValue → Bool) → ((f : ℕ) → p f (content (field_type cs f) x.fields f) ≡ true) → (xs : List Slot) → list_all (λ y. p y.field y.content) (map (filled cs x) xs) ≡ true
all_filled cs x p h [] = refl
all_filled cs x p h (y ∷ xs) = and_from (p y.field (content (field_type cs y.field) x.fields y.field)) (list_all (λ z. p z.field z.content) (map (filled cs x) xs)) (h y.field) (all_filled cs x p h xs)

module _ (c : Context) (chain : IsChain c.classes) (beside : NoAlso c.classes) (m : Structure) (e : List Value) (h : Heap) (is_store : (vs : List Value) → V c.classes m (e ++ vs) c.now ≡ store h) (at : length e ≡ c.bound)
    (values : (o : ℕ) → nat_lt o h.next ≡ true → AreValues c.classes (objects_of c.classes m.table h) (object_in c.classes m.table h o)) where
  abbrev Store : List Object
  Store = objects_of c.classes m.table h

  store_here : V c.classes m e c.now ≡ store h
  store_here = subst (λ w. V c.classes m w c.now ≡ store h) (append-nil e) (is_store [])

  default_term : (y : Ty) → V c.classes m e (default_of_sort (sort_of_type y)) ≡ standing (default_value y)
  default_term ty.Int = refl
  default_term ty.Bool = refl
  default_term ty.Null = refl
  default_term (ty.Ref t k) = refl

  -- a term for an object, whatever names are bound after
  module _ (t : Term) (o : ℕ) (l : nat_lt o h.next ≡ true) (is : (vs : List Value) → V c.classes m (e ++ vs) t ≡ thing (reference o)) where
    is_here : V c.classes m e t ≡ thing (reference o)
    is_here = subst (λ w. V c.classes m w t ≡ thing (reference o)) (append-nil e) (is [])

    abbrev Here : Entry
    Here = h.at (reference o)

    -- ---- defaults

    module _ (k : ℕ) (of : sub c.classes (m.table.class_of (reference o)) k ≡ true) where
      -- the field is at its default
      abbrev test : ℕ → ObjectValue → Bool
      test f v = is_default_upto c.classes k (slice_get (all_fields c.classes) f) v

      has_field_there : (f : ℕ) (d : DeclaredField) → slice_get (all_fields c.classes) f ≡ Some d → sub c.classes k d.class ≡ true → slot_value (object_in c.classes m.table h o).fields f ≡ Some (content (field_type c.classes f) Here.fields f)
      has_field_there f d there up =
          let own = m.table.class_of (reference o) in
          let b = below_trans c.classes chain own k d.class (sym (sub-below c.classes beside own k) ∙ of) (sym (sub-below c.classes beside k d.class) ∙ up) in
          field_there c.classes m.table h o f (field_has c.classes f d there) (subst (λ u. below c.classes own u ≡ true) (sym (ap class_of_field there)) b)

      field_stands : (f : ℕ) (d : DeclaredField) → slice_get (all_fields c.classes) f ≡ Some d → sub c.classes k d.class ≡ true → V c.classes m e (app (term.Field f) (c.now ∷ t ∷ [])) ≡ standing (content (field_type c.classes f) Here.fields f)
      field_stands f d there up =
          ap (λ v. cell (field_sort c.classes f) ((as_store v).at (as_thing (V c.classes m e t))).fields f) store_here
          ∙ ap (λ v. cell (field_sort c.classes f) (h.at (as_thing v)).fields f) is_here
          ∙ content_stands c.classes Store (field_type c.classes f) Here.fields f (field_not_null c.classes chain f d there) ((values o l).fields f (content (field_type c.classes f) Here.fields f) (has_field_there f d there up))

      abbrev is_default : ℕ → DeclaredField → Bool
      is_default f d = same_value (content (field_type c.classes f) Here.fields f) (default_value d.field.ty)

      field_means : (f : ℕ) (d : DeclaredField) → slice_get (all_fields c.classes) f ≡ Some d → sub c.classes k d.class ≡ true → M c.classes m e (equal (app (term.Field f) (c.now ∷ t ∷ [])) (default_of_sort (sort_of_type d.field.ty))) (is_default f d)
      field_means f d there up =
          equal_means c.classes m e (app (term.Field f) (c.now ∷ t ∷ [])) (default_of_sort (sort_of_type d.field.ty)) (content (field_type c.classes f) Here.fields f) (default_value d.field.ty) (field_stands f d there up) (default_term d.field.ty)

      abbrev all_default : ℕ → List DeclaredField → Bool
      all_default f [] = true
      all_default f (d ∷ ds) = (not (sub c.classes k d.class) || is_default f d) && all_default (f + 1) ds

      -- the fields from the number f on
      abbrev From : ℕ → List DeclaredField → Type 0
      From f ds = (i : ℕ) (d : DeclaredField) → slice_get ds i ≡ Some d → slice_get (all_fields c.classes) (f + i) ≡ Some d

      from_next : (f : ℕ) (d : DeclaredField) (ds : List DeclaredField) → From f (d ∷ ds) → From (f + 1) ds
      from_next f d ds from i y q = let number : f + suc i ≡ f + 1 + i = omega arith in subst (λ j. slice_get (all_fields c.classes) j ≡ Some y) number (from (suc i) y q)

      from_first : (f : ℕ) (d : DeclaredField) (ds : List DeclaredField) → From f (d ∷ ds) → slice_get (all_fields c.classes) f ≡ Some d
      from_first f d ds from = let number : f + 0 ≡ f = omega arith in subst (λ j. slice_get (all_fields c.classes) j ≡ Some d) number (from 0 d refl)

      -- the formula that each is at its default
      fields_mean : (f : ℕ) (ds : List DeclaredField) → From f ds → M c.classes m e (and_of (defaults_from c k t f ds)) (all_default f ds)
      fields_mean f [] from = and_none c.classes m e
      fields_mean f (d ∷ ds) from = by_class (sub c.classes k d.class) refl (fields_mean (f + 1) ds (from_next f d ds from))
        where
          by_class : (b : Bool) → sub c.classes k d.class ≡ b → M c.classes m e (and_of (defaults_from c k t (f + 1) ds)) (all_default (f + 1) ds) →
              M c.classes m e (and_of (if b then equal (app (term.Field f) (c.now ∷ t ∷ [])) (default_of_sort (sort_of_type d.field.ty)) ∷ defaults_from c k t (f + 1) ds else defaults_from c k t (f + 1) ds)) ((not b || is_default f d) && all_default (f + 1) ds)
          by_class true up rest = and_more c.classes m e (equal (app (term.Field f) (c.now ∷ t ∷ [])) (default_of_sort (sort_of_type d.field.ty))) (defaults_from c k t (f + 1) ds) (is_default f d) (all_default (f + 1) ds)
              (field_means f d (from_first f d ds from) up) rest
          by_class false up rest = rest

      all_from : (f : ℕ) (ds : List DeclaredField) → ((i : ℕ) (d : DeclaredField) → slice_get ds i ≡ Some d → (not (sub c.classes k d.class) || is_default (f + i) d) ≡ true) → all_default f ds ≡ true
      all_from f [] each = refl
      all_from f (d ∷ ds) each =
          let first : f + 0 ≡ f = omega arith in
          and_from (not (sub c.classes k d.class) || is_default f d) (all_default (f + 1) ds) (subst (λ j. (not (sub c.classes k d.class) || is_default j d) ≡ true) first (each 0 d refl))
          (all_from (f + 1) ds (λ i y q. let number : f + suc i ≡ f + 1 + i = omega arith in subst (λ j. (not (sub c.classes k y.class) || is_default j y) ≡ true) number (each (suc i) y q)))

      each_from : (f : ℕ) (ds : List DeclaredField) → all_default f ds ≡ true → (i : ℕ) (d : DeclaredField) → slice_get ds i ≡ Some d → (not (sub c.classes k d.class) || is_default (f + i) d) ≡ true
      each_from f [] all i d q = absurd (let no : ⊥ = cc in no)
      each_from f (y ∷ ds) all zero d q =
          let same : y ≡ d = cc in
          let first : f ≡ f + 0 = omega arith in
          let here = (and_parts (not (sub c.classes k y.class) || is_default f y) (all_default (f + 1) ds) all).0 in
          subst (λ j. (not (sub c.classes k d.class) || is_default j d) ≡ true) first (subst (λ z. (not (sub c.classes k z.class) || is_default f z) ≡ true) same here)
      each_from f (y ∷ ds) all (suc i) d q =
          let number : f + 1 + i ≡ f + suc i = omega arith in
          subst (λ j. (not (sub c.classes k d.class) || is_default j d) ≡ true) number (each_from (f + 1) ds (and_parts (not (sub c.classes k y.class) || is_default f y) (all_default (f + 1) ds) all).1 i d q)

      number_self : (i : ℕ) → 0 + i ≡ i
      number_self i = omega arith

      -- the slots of the object are at their defaults where the fields are
      slots_from_fields : all_default 0 (all_fields c.classes) ≡ true → list_all (λ y. test y.field y.content) (object_in c.classes m.table h o).fields ≡ true
      slots_from_fields all = all_filled c.classes Here test (λ f. by_field f (slice_get (all_fields c.classes) f) refl) (new_fields c.classes (m.table.class_of (reference o)))
        where
          by_field : (f : ℕ) (d : Option DeclaredField) → slice_get (all_fields c.classes) f ≡ d → is_default_upto c.classes k d (content (field_type c.classes f) Here.fields f) ≡ true
          by_field f None q = refl
          by_field f (Some d) q = subst (λ j. (not (sub c.classes k d.class) || is_default j d) ≡ true) (number_self f) (each_from 0 (all_fields c.classes) all f d q)

      fields_from_slots : list_all (λ y. test y.field y.content) (object_in c.classes m.table h o).fields ≡ true → all_default 0 (all_fields c.classes) ≡ true
      fields_from_slots all = all_from 0 (all_fields c.classes) (λ i d q. subst (λ j. (not (sub c.classes k d.class) || is_default j d) ≡ true) (sym (number_self i)) (by_class i d q (sub c.classes k d.class) refl))
        where
          by_class : (f : ℕ) (d : DeclaredField) → slice_get (all_fields c.classes) f ≡ Some d → (b : Bool) → sub c.classes k d.class ≡ b → (not (sub c.classes k d.class) || is_default f d) ≡ true
          by_class f d q true up =
              let held = slot_holds test (object_in c.classes m.table h o).fields f (content (field_type c.classes f) Here.fields f) all (has_field_there f d q up) in
              subst (λ y. is_default_upto c.classes k y (content (field_type c.classes f) Here.fields f) ≡ true) q held
          by_class f d q false up = subst (λ b. (not b || is_default f d) ≡ true) (sym up) refl

      defaults_mean : M c.classes m e (and_of (defaults_from c k t 0 (all_fields c.classes))) (at_defaults c.classes k (object_at Store o))
      defaults_mean =
          let read = fields_mean 0 (all_fields c.classes) (λ i d q. subst (λ j. slice_get (all_fields c.classes) j ≡ Some d) (sym (number_self i)) q) in
          let known : at_defaults c.classes k (object_at Store o) ≡ at_defaults c.classes k (object_in c.classes m.table h o) = ap (at_defaults c.classes k) (object_known c.classes m e h o l) in
          (λ f. known ∙ slots_from_fields (read.0 f), λ y. read.1 (fields_from_slots (sym known ∙ y)))

    -- ---- members of its group

    member_means : (e' : List Value) → V c.classes m e' c.now ≡ store h → (v : Term) (q : ℕ) → nat_lt q h.next ≡ true → V c.classes m e' v ≡ thing (reference q) → V c.classes m e' t ≡ thing (reference o) → (g : ℕ) → Here.owner ≡ group_number g →
        M c.classes m e' (equal (owner_of c.now v) (owner_of c.now t)) (is_in_group g (object_at Store q).owner)
    member_means e' stored v q here v_is t_is g group_is =
        let w = (h.at (reference q)).owner in
        let known : is_in_group g (object_at Store q).owner ≡ is_in_group g (owner_of_thing h.next w) = ap (λ x. is_in_group g x.owner) (object_known c.classes m e h q here) in
        let one = owner_stands c.classes m e' h c.now stored v q v_is in
        let other = owner_stands c.classes m e' h c.now stored t o t_is ∙ ap thing group_is in (
          λ f. known ∙ in_group h.next w g (ap as_thing (sym one ∙ f ∙ other)),
          λ y. one ∙ ap thing (group_in h.next w g (sym known ∙ y)) ∙ sym other,
        )

    -- ---- what the object owns

    abbrev var : Term
    var = Bound c.bound

    module _ (q : ℕ) (here : nat_lt q h.next ≡ true) where
      abbrev With : List Value
      With = e ++ thing (reference q) ∷ []

      store_there : V c.classes m With c.now ≡ store h
      store_there = is_store (thing (reference q) ∷ [])

      var_is : V c.classes m With var ≡ thing (reference q)
      var_is = bound_thing c.classes m e h c.now is_store c.bound at (reference q)

      allocated_here : M c.classes m With (neg (allocated c.now var)) false
      allocated_here = subst (λ b. M c.classes m With (neg (allocated c.now var)) (not b)) here (neg_means c.classes m With (allocated c.now var) (nat_lt q h.next) (allocated_means c.classes m With h c.now store_there var q var_is))

      full_here : M c.classes m With (is_full c.now var) (reads.is_full (object_at Store q))
      full_here = full_means c.classes m With h c.now store_there var q here var_is

      abbrev owned_part : ℕ → Formula
      owned_part u = or_of (differ (owner_of c.now var) (pair_of t (class_term u)) ∷ is_full c.now var ∷ [])

      owned_here : (u : ℕ) → M c.classes m With (owned_part u) (not (is_pair o u (object_at Store q).owner) || reads.is_full (object_at Store q))
      owned_here u =
          let pair = equal (owner_of c.now var) (pair_of t (class_term u)) in
          or_means c.classes m With (differ (owner_of c.now var) (pair_of t (class_term u))) (is_full c.now var) (not (is_pair o u (object_at Store q).owner)) (reads.is_full (object_at Store q))
          (neg_means c.classes m With pair (is_pair o u (object_at Store q).owner) (owned_at_means c.classes m With h c.now store_there var t u q o here l var_is (is (thing (reference q) ∷ [])))) full_here

      abbrev owned_test : ℕ → Object → Bool
      owned_test k x = not (is_pair_upto c.classes o k x.owner) || reads.is_full x

      owned_at : (k : ℕ) → M c.classes m With (or_of (neg (allocated c.now var) ∷ and_of (map owned_part (levels c.classes k)) ∷ [])) (owned_test k (object_in c.classes m.table h q))
      owned_at k =
          let x = object_at Store q in
          let all = list_all (λ u. not (is_pair o u x.owner) || reads.is_full x) (levels c.classes k) in
          let same : all ≡ owned_test k (object_in c.classes m.table h q) = each_level c.classes beside o (reads.is_full x) k x.owner ∙ ap (owned_test k) (object_known c.classes m e h q here) in
          subst (λ b. M c.classes m With (or_of (neg (allocated c.now var) ∷ and_of (map owned_part (levels c.classes k)) ∷ [])) b) same
          (or_means c.classes m With (neg (allocated c.now var)) (and_of (map owned_part (levels c.classes k))) false all allocated_here (and_all c.classes m With owned_part (λ u. not (is_pair o u x.owner) || reads.is_full x) owned_here (levels c.classes k)))

      -- ---- members of a group

      module _ (g : ℕ) (group_is : Here.owner ≡ group_number g) where
        member_here : M c.classes m With (equal (owner_of c.now var) (owner_of c.now t)) (is_in_group g (object_at Store q).owner)
        member_here = member_means With store_there var q here var_is (is (thing (reference q) ∷ [])) g group_is

        abbrev member_test : Object → Bool
        member_test x = not (is_in_group g x.owner) || reads.is_full x

        member_at : M c.classes m With (or_of (neg (allocated c.now var) ∷ differ (owner_of c.now var) (owner_of c.now t) ∷ is_full c.now var ∷ [])) (member_test (object_in c.classes m.table h q))
        member_at =
            subst (λ x. M c.classes m With (or_of (neg (allocated c.now var) ∷ differ (owner_of c.now var) (owner_of c.now t) ∷ is_full c.now var ∷ [])) (member_test x)) (object_known c.classes m e h q here)
            (or_more c.classes m With (neg (allocated c.now var)) (differ (owner_of c.now var) (owner_of c.now t) ∷ is_full c.now var ∷ []) false (member_test (object_at Store q)) allocated_here
            (or_means c.classes m With (differ (owner_of c.now var) (owner_of c.now t)) (is_full c.now var) (not (is_in_group g (object_at Store q).owner)) (reads.is_full (object_at Store q))
            (neg_means c.classes m With (equal (owner_of c.now var) (owner_of c.now t)) (is_in_group g (object_at Store q).owner) member_here) full_here))

    owned_mean : (k : ℕ) → M c.classes m e (owned_full c k t) (owned_are_full c.classes Store o k)
    owned_mean k =
        objects_mean c.classes m e h c.now is_store c.bound at (and_of (map (λ u. or_of (differ (owner_of c.now var) (pair_of t (class_term u)) ∷ is_full c.now var ∷ [])) (levels c.classes k)) ∷ [])
        (λ x. not (is_pair_upto c.classes o k x.owner) || reads.is_full x) (λ q here. owned_at q here k)

    -- ---- captures

    owner_here : (object_at Store o).owner ≡ owner_of_thing h.next Here.owner
    owner_here = ap (λ x. x.owner) (object_known c.classes m e h o l)

    is_group_here : (b : Bool) → reads.is_group (object_at Store o).owner ≡ b → M c.classes m e (group (owner_of c.now t)) b
    is_group_here b known = subst (λ y. M c.classes m e (group (owner_of c.now t)) y) known (unowned_means c.classes m e h c.now store_here t o l is_here)

    module _ (former : Heap) (locals : List ObjectValue) where
      abbrev S : run.Setting
      S = setting_of m c h former locals

      abbrev This : ObjectValue
      This = run.local_value S 0

      abbrev apart_from : Term → Formula
      apart_from y = or_of (equal y null_term ∷ differ (owner_of c.now y) (owner_of c.now t) ∷ [])

      apart_means : (g : ℕ) → Here.owner ≡ group_number g → (u : ObjectValue) → IsReferenceOf h u → (y : Term) → V c.classes m e y ≡ standing u → M c.classes m e (apart_from y) (not (is_object_with u (λ q. is_in_group g (object_at Store q).owner)))
      apart_means g group_is (value.Obj q) here y p =
          or_means c.classes m e (equal y null_term) (differ (owner_of c.now y) (owner_of c.now t)) false (not (is_in_group g (object_at Store q).owner)) (null_means c.classes m e h y (value.Obj q) here p)
          (neg_means c.classes m e (equal (owner_of c.now y) (owner_of c.now t)) (is_in_group g (object_at Store q).owner) (member_means e store_here y q here p is_here g group_is))
      apart_means g group_is value.Null here y p = (λ _. refl, λ _ none. none.0 p)
      apart_means g group_is (value.Int i) here y p = absurd here
      apart_means g group_is (value.Bool b) here y p = absurd here

      -- where it is asked for, `this` has its value
      abbrev pub HasThis : Bool → Type 0
      HasThis true = IsReferenceOf h This × D c.classes m e (local_meant c 0) (standing This)
      HasThis false = Unit {0}

      apart_part : (apart : Bool) → HasThis apart → (g : ℕ) → Here.owner ≡ group_number g → M c.classes m e (and_of (if apart then over (local_meant c 0) apart_from ∷ [] else [])) (not (apart && run.is_this_in S g))
      apart_part true has g group_is =
          and_one c.classes m e (over (local_meant c 0) apart_from) (not (run.is_this_in S g)) (over_means c.classes m e (local_meant c 0) apart_from (standing This) (not (run.is_this_in S g)) has.1 (apart_means g group_is This has.0))
      apart_part false has g group_is = and_none c.classes m e

      captured_by : (apart : Bool) → HasThis apart → (w : Owner) → owner_of_thing h.next Here.owner ≡ w → M c.classes m e (and_of (may_be_captured c apart t)) (run.may_be_captured S apart w)
      captured_by apart has (owner.Group g) known =
          let group_is = group_in h.next Here.owner g (ap (is_in_group g) known ∙ eq-eqb g g refl) in
          let members : Formula = Forall (sort.Rest ∷ []) (or_of (neg (allocated c.now var) ∷ differ (owner_of c.now var) (owner_of c.now t) ∷ is_full c.now var ∷ [])) in
          let rest : List Formula = if apart then over (local_meant c 0) apart_from ∷ [] else [] in
          and_more c.classes m e (group (owner_of c.now t)) (members ∷ rest) true (members_are_full Store g && not (apart && run.is_this_in S g)) (is_group_here true (ap reads.is_group (owner_here ∙ known)))
          (and_more c.classes m e members rest (members_are_full Store g) (not (apart && run.is_this_in S g))
          (objects_mean c.classes m e h c.now is_store c.bound at (differ (owner_of c.now var) (owner_of c.now t) ∷ is_full c.now var ∷ []) (λ x. not (is_in_group g x.owner) || reads.is_full x) (λ q here. member_at q here g group_is))
          (apart_part apart has g group_is))
      captured_by apart has (owner.Owned p k) known = (λ f. (is_group_here false (ap reads.is_group (owner_here ∙ known))).0 f.0, λ y. absurd (false≢true y))

      captured_mean : (apart : Bool) → HasThis apart → M c.classes m e (and_of (may_be_captured c apart t)) (run.may_be_captured S apart (object_at Store o).owner)
      captured_mean apart has =
          subst (λ w. M c.classes m e (and_of (may_be_captured c apart t)) (run.may_be_captured S apart w)) (sym owner_here) (captured_by apart has (owner_of_thing h.next Here.owner) refl)

      -- ---- each condition

      -- what else it asks
      abbrev pub Asks : DefaultTree → Type 0
      Asks (Defaults k) = sub c.classes (m.table.class_of (reference o)) k ≡ true
      Asks (Captured x apart) = HasThis apart
      Asks d = Unit {0}

      pub met_means : (d : DefaultTree) → Asks d → M c.classes m e (met_by c d t) (run.is_met_by S d o)
      met_means (AtLevel k) asks =
          and_means c.classes m e (equal (level_of c.now t) (class_term k)) (neg (committed c.now t)) (eqb (object_at Store o).level k) (not (object_at Store o).committed)
          (level_means c.classes m e h c.now store_here t o l is_here k) (neg_means c.classes m e (committed c.now t) (object_at Store o).committed (committed_means c.classes m e h c.now store_here t o l is_here))
      met_means Unpacked asks = level_means c.classes m e h c.now store_here t o l is_here 0
      met_means ThisUnowned asks = unowned_means c.classes m e h c.now store_here t o l is_here
      met_means (Defaults k) asks = defaults_mean k asks
      met_means (OwnedFull k) asks = owned_mean k
      met_means Full asks = full_means c.classes m e h c.now store_here t o l is_here
      met_means (ConsistentArgument x) asks = consistent_means c.classes m e h c.now store_here t o l is_here
      met_means (FullArgument x) asks = full_means c.classes m e h c.now store_here t o l is_here
      met_means (Captured x apart) asks = captured_mean apart asks

-- ---- default conditions of a context
module _ (among : ℕ → Bool) (m : Structure) (now former : Heap) (c : Context) (locals : List ObjectValue) (k : Bool) (good : IsGoodSetting (setting_of m c now former locals) c.types k) (e : List Value) (st : StandsAmong among m c now former locals e) (at : length e ≡ c.bound) where
  abbrev Run : run.Setting
  Run = setting_of m c now former locals

  abbrev Now : List Object
  Now = objects_of c.classes m.table now

  -- a local that has a type has a value
  valued : (x : ℕ) (t : Ty) → among x ≡ true → slice_get c.types x ≡ Some t → (has_type c.classes Now t (run.local_value Run x) ≡ true) × D c.classes m e (local_meant c x) (standing (run.local_value Run x))
  valued x t asked there =
      let within = slice_get_within c.types x t there in
      let count = good.count in
      let v = get_found locals x (omega (arith, within, count)) in
      let is : run.local_value Run x ≡ v.0 = ap (λ o. unwrap_or o value.Null) v.1 in (
        subst (λ u. has_type c.classes Now t u ≡ true) (sym is) (good.types x t v.0 there v.1),
        subst (λ u. D c.classes m e (local_meant c x) (standing u)) (sym is) (subst (λ w. D c.classes m w (local_meant c x) (standing v.0)) (append-nil e) (st.locals x v.0 asked v.1 [])),
      )

  referred : (x : ℕ) (a : Option Ty) → among x ≡ true → slice_get c.types x ≡ a → is_reference a ≡ true → IsReferenceOf now (run.local_value Run x) × D c.classes m e (local_meant c x) (standing (run.local_value Run x))
  referred x None asked there r = absurd (false≢true r)
  referred x (Some t) asked there r = let v = valued x t asked there in (reference_value c.classes m.table now t r (run.local_value Run x) v.0, v.1)

  -- null meets each condition
  said_means : (x : ℕ) (d : DefaultTree) (u : ObjectValue) → IsReferenceOf now u → D c.classes m e (local_meant c x) (standing u) → Stay c.classes m e (choices (local_meant c x)) →
      ((o : ℕ) → u ≡ value.Obj o → (l : nat_lt o now.next ≡ true) (t : Term) (is : (vs : List Value) → V c.classes m (e ++ vs) t ≡ thing (reference o)) → M c.classes m e (met_by c d t) (run.is_met_by Run d o)) →
      M c.classes m e (over (local_meant c x) (λ t. or_of (equal t null_term ∷ met_by c d t ∷ []))) (is_null_or u (run.is_met_by Run d))
  said_means x d (value.Obj o) l read stay met =
      staying_means c.classes m e (local_meant c x) (λ t. or_of (equal t null_term ∷ met_by c d t ∷ [])) (thing (reference o)) (run.is_met_by Run d o) read stay (λ t is.
      or_means c.classes m e (equal t null_term) (met_by c d t) false (run.is_met_by Run d o)
      (null_means c.classes m e now t (value.Obj o) l (subst (λ w. V c.classes m w t ≡ thing (reference o)) (append-nil e) (is []))) (met o refl l t is))
  said_means x d value.Null l read stay met = over_means c.classes m e (local_meant c x) (λ t. or_of (equal t null_term ∷ met_by c d t ∷ [])) (thing null) true read (λ t p. (λ _. refl, λ _ none. none.0 p))
  said_means x d (value.Int i) l read stay met = absurd l
  said_means x d (value.Bool b) l read stay met = absurd l

  met : (d : DefaultTree) (o : ℕ) (l : nat_lt o now.next ≡ true) (t : Term) (is : (vs : List Value) → V c.classes m (e ++ vs) t ≡ thing (reference o)) → Asks c good.chain good.beside m e now st.now at (good_values c.classes m.table now good.store) t o l is former locals d →
      M c.classes m e (met_by c d t) (run.is_met_by Run d o)
  met d o l t is asks = met_means c good.chain good.beside m e now st.now at (good_values c.classes m.table now good.store) t o l is former locals d asks

  -- it speaks of a local of a reference type alone
  plain_means : (d : DefaultTree) (x : ℕ) → among x ≡ true → is_reference (slice_get c.types x) ≡ true → Stay c.classes m e (choices (local_meant c x)) →
      ((o : ℕ) (l : nat_lt o now.next ≡ true) (t : Term) (is : (vs : List Value) → V c.classes m (e ++ vs) t ≡ thing (reference o)) → Asks c good.chain good.beside m e now st.now at (good_values c.classes m.table now good.store) t o l is former locals d) →
      M c.classes m e (over (local_meant c x) (λ t. or_of (equal t null_term ∷ met_by c d t ∷ []))) (is_null_or (run.local_value Run x) (run.is_met_by Run d))
  plain_means d x asked r stay asks =
      let v = referred x (slice_get c.types x) asked refl r in
      said_means x d (run.local_value Run x) v.0 v.1 stay (λ o _ l t is. met d o l t is (asks o l t is))

  upto : (t : ℕ) → among 0 ≡ true → has_class (λ y. below c.classes y t) (slice_get c.types 0) ≡ true → Stay c.classes m e (choices (local_meant c 0)) → M c.classes m e (default_said c (Defaults t)) (run.default_holds Run (Defaults t))
  upto t asked h stay =
      let of = class_of_type (λ y. below c.classes y t) (slice_get c.types 0) h in
      let v = valued 0 (ty.Ref (record { 0 = of.0 }) of.1) asked of.2 in
      said_means 0 (Defaults t) (run.local_value Run 0) (reference_value c.classes m.table now (ty.Ref (record { 0 = of.0 }) of.1) refl (run.local_value Run 0) v.0) v.1 stay (λ o is l x fixed.
      let held = class_held c.classes m.table now of.0 o (subst (λ u. has_type c.classes Now (ty.Ref (record { 0 = of.0 }) of.1) u ≡ true) is v.0) in
      let own = m.table.class_of (reference o) in
      let up = below_trans c.classes good.chain own of.0 t (sym (sub-below c.classes good.beside own of.0) ∙ held.1) of.3 in
      met (Defaults t) o l x fixed (sub-below c.classes good.beside own t ∙ up))

  this_asked : (apart : Bool) → (not apart || among 0) ≡ true → (not apart || is_reference (slice_get c.types 0)) ≡ true → (o : ℕ) (l : nat_lt o now.next ≡ true) (t : Term) (is : (vs : List Value) → V c.classes m (e ++ vs) t ≡ thing (reference o)) →
      HasThis c good.chain good.beside m e now st.now at (good_values c.classes m.table now good.store) t o l is former locals apart
  this_asked true asked h o l t is = referred 0 (slice_get c.types 0) asked refl h
  this_asked false asked h o l t is = tt

  pub default_means : (d : DefaultTree) → speaks_of among d ≡ true → has_subject c.classes c.types d ≡ true → Stay c.classes m e (choices (local_meant c (subject d))) → M c.classes m e (default_said c d) (run.default_holds Run d)
  default_means (AtLevel t) asked r stay = plain_means (AtLevel t) 0 asked r stay (λ o l x is. tt)
  default_means Unpacked asked r stay = plain_means Unpacked 0 asked r stay (λ o l x is. tt)
  default_means ThisUnowned asked r stay = plain_means ThisUnowned 0 asked r stay (λ o l x is. tt)
  default_means (Defaults t) asked r stay = upto t asked r stay
  default_means (OwnedFull t) asked r stay = plain_means (OwnedFull t) 0 asked r stay (λ o l x is. tt)
  default_means Full asked r stay = plain_means Full 0 asked r stay (λ o l x is. tt)
  default_means (ConsistentArgument x) asked r stay = plain_means (ConsistentArgument x) x asked r stay (λ o l y is. tt)
  default_means (FullArgument x) asked r stay = plain_means (FullArgument x) x asked r stay (λ o l y is. tt)
  default_means (Captured x apart) asked r stay =
      let of = and_parts (among x) (not apart || among 0) asked in
      let both = and_parts (is_reference (slice_get c.types x)) (not apart || is_reference (slice_get c.types 0)) r in
      plain_means (Captured x apart) x of.0 both.0 stay (λ o l y is. this_asked apart of.1 both.1 o l y is)
