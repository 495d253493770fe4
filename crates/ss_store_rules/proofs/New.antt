-- New objects and arrays keep a good store good.
use Rattle.std.proofs.Common.{◌≡◌, ℕ, ◌<◌, List, [], ◌∷◌, ◌++◌, length, true, false, Some, refl, sym, ◌∙◌, ap, subst, arith, ⊎_elim}
use Rattle.std.specs.Prelude.{nat_lt, ◌^◌, reverse}
use Rattle.std.proofs.lemmas.List.{length-replicate}
use Rattle.std.proofs.lemmas.Option.{slice_get_within}
use Rattle.std.proofs.lemmas.Bool.{or_right, false≢true, true≢false}
use Rattle.ss_core.specs.declared.names.Ty.{Ty}
use Rattle.ss_core.specs.Tree.{ClassTree}
use Rattle.ss_core.specs.Chain.{is_declared, levels, IsChain}
use Rattle.ss_core.proofs.Chains.{below_self, object_below}
use Rattle.ss_store_rules.specs.declared.Value.{Value}
use Rattle.ss_store_rules.specs.declared.Value.TheVariants as value
use Rattle.ss_store_rules.specs.declared.Owner.TheVariants as owner
use Rattle.ss_store_rules.specs.Store.{Object, field_value, default_value}
use Rattle.ss_store_rules.specs.Changes.{is_array, element_type, field_type, new_object, new_array}
use Rattle.ss_store_rules.specs.Good.{has_type, numbers, Invariants, IsFine, IsGood, IsLocal, IsFree}
use Rattle.ss_store_rules.proofs.Objects.{old_below, each_pushed, length-pushed}
use Rattle.ss_store_rules.proofs.Typed.{has_type-pushed, allocated}
use Rattle.ss_store_rules.proofs.Arrays.{below_array, array_not_declared, declared_not_array}
use Rattle.ss_store_rules.proofs.Looks.{LooksSame-pushed}
use Rattle.ss_store_rules.proofs.Defaults.{default_typed, default_apart, default_ready, element_default, field_default, no_fields}

-- Where the new object is as it should be, so are all.
pub IsGood-pushed : (cs : List ClassTree) (holds : Invariants) → IsLocal cs holds → (s : List Object) → IsGood cs holds s → (z : Object) → IsFine cs holds (s ++ z ∷ []) (length s) z → IsGood cs holds (s ++ z ∷ [])
IsGood-pushed cs holds local s good z new = each_pushed s z (IsFine cs holds (s ++ z ∷ [])) (λ p y e.
    let fine = good p y e in
    record {
      invariants = λ u su. sym (local s (s ++ z ∷ []) p u (slice_get_within s p y e) good (LooksSame-pushed cs s z p u)) ∙ fine.invariants u su;
      full = fine.full;
      owned = λ r u own x ex. fine.owned r u own x (old_below s z r x (fine.owner_allocated r u own) ex);
      grouped = fine.grouped;
      reps = λ g v field mark x ex. fine.reps g v field mark x (old_below s z v x (there (field_type cs g) v (fine.values.fields g (value.Obj v) field)) ex);
      peers = λ g v field mark x ex. fine.peers g v field mark x (old_below s z v x (there (field_type cs g) v (fine.values.fields g (value.Obj v) field)) ex);
      level = fine.level;
      array = fine.array;
      owner_allocated = λ r u own. longer r (fine.owner_allocated r u own);
      group_number = λ g own. longer g (fine.group_number g own);
      values = record {
        class = fine.values.class;
        slots = fine.values.slots;
        plain = fine.values.plain;
        short = fine.values.short;
        fields = λ g v is. has_type-pushed cs s z (field_type cs g) v (fine.values.fields g v is);
        elements = λ i v is. has_type-pushed cs s z (element_type y.class) v (fine.values.elements i v is);
        non_null = fine.values.non_null;
        ready_fields = λ g v is q x eq ex. fine.values.ready_fields g v is q x eq
            (old_below s z q x (there (field_type cs g) q (subst (λ w. has_type cs s (field_type cs g) w ≡ true) eq (fine.values.fields g v is))) ex);
        ready_elements = λ i v is q x eq ex. fine.values.ready_elements i v is q x eq
            (old_below s z q x (there (element_type y.class) q (subst (λ w. has_type cs s (element_type y.class) w ≡ true) eq (fine.values.elements i v is))) ex);
      };
    }) new
  where
    longer : (n : ℕ) → n < length s → n < length (s ++ z ∷ [])
    longer n l = let e = length-pushed s z in omega (arith, l, e)

    there : (t : Ty) (v : ℕ) → has_type cs s t (value.Obj v) ≡ true → v < length s
    there t v h = let a = allocated cs s t v h in slice_get_within s v a.0 a.1

last_group : (s : List Object) (z : Object) (g : ℕ) → owner.Group (length s) ≡ owner.Group g → g < length (s ++ z ∷ [])
last_group s z g e = let n : length s ≡ g = cc in let l = length-pushed s z in omega (arith, n, l)

pub IsGood-new : (cs : List ClassTree) → IsChain cs → (holds : Invariants) → IsLocal cs holds → IsFree cs holds → (s : List Object) → IsGood cs holds s →
    (c : ℕ) → is_declared cs c ≡ true → IsGood cs holds (s ++ new_object cs c (length s) ∷ [])
IsGood-new cs h holds local free s good c declared = IsGood-pushed cs holds local s good z (record {
  invariants = λ t su. free s' (length s) t (subst (λ n. is_declared cs n ≡ false) (sym (object_below cs t su)) refl);
  full = λ e. absurd (false≢true e);
  owned = λ p t own. cc;
  grouped = λ g own. refl;
  reps = λ f v field mark. absurd (default_apart (field_type cs f) v (sym (defaults f (value.Obj v) field)));
  peers = λ f v field mark. absurd (default_apart (field_type cs f) v (sym (defaults f (value.Obj v) field)));
  level = h.ends c;
  array = λ a. absurd (true≢false (sym a ∙ declared_not_array cs c declared));
  owner_allocated = λ p t own. cc;
  group_number = λ g own. last_group s z g own;
  values = record {
    class = rw declared refl;
    slots = refl;
    plain = λ n. refl;
    short = refl;
    fields = λ f v is. rw (defaults f v is) (default_typed cs s' (field_type cs f));
    elements = λ i v is. cc;
    non_null = λ r. absurd (false≢true r);
    ready_fields = λ f v is. default_ready s' (field_type cs f) v (defaults f v is);
    ready_elements = λ i v is. cc;
  };
})
  where
    z : Object
    z = new_object cs c (length s)

    s' : List Object
    s' = s ++ new_object cs c (length s) ∷ []

    defaults : (f : ℕ) (v : Value) → field_value (new_object cs c (length s)) f ≡ Some v → v ≡ default_value (field_type cs f)
    defaults f v e = field_default cs (reverse (levels cs c)) f v e

pub IsGood-array : (cs : List ClassTree) → IsChain cs → (holds : Invariants) → IsLocal cs holds → IsFree cs holds → (s : List Object) → IsGood cs holds s →
    (t n : ℕ) → is_array cs t ≡ true → nat_lt n (2 ^ 31) ≡ true → IsGood cs holds (s ++ new_array t n (length s) ∷ [])
IsGood-array cs h holds local free s good t n array short = IsGood-pushed cs holds local s good z (record {
  invariants = λ u su. free s' (length s) u
      (⊎_elim
      (λ e. subst (λ k. is_declared cs k ≡ false) (sym e) (array_not_declared cs t array))
      (λ e. subst (λ k. is_declared cs k ≡ false) (sym e) refl)
      (below_array cs h t u array su));
  full = λ e. absurd (false≢true e);
  owned = λ p u own. cc;
  grouped = λ g own. refl;
  reps = λ f v field. cc;
  peers = λ f v field. cc;
  level = below_self cs t;
  array = λ _. refl;
  owner_allocated = λ p u own. cc;
  group_number = λ g own. last_group s z g own;
  values = record {
    class = or_right (is_declared cs t) (is_array cs t) array;
    slots = ap numbers (sym (no_fields cs t array));
    plain = λ no. absurd (true≢false (sym array ∙ no));
    short = rw (length-replicate n (default_value (element_type t))) short;
    fields = λ f v is. cc;
    elements = λ i v is. rw (element_default n (default_value (element_type t)) i v is) (default_typed cs s' (element_type t));
    non_null = λ r f is. cc;
    ready_fields = λ f v is. cc;
    ready_elements = λ i v is. default_ready s' (element_type t) v (element_default n (default_value (element_type t)) i v is);
  };
})
  where
    z : Object
    z = new_array t n (length s)

    s' : List Object
    s' = s ++ new_array t n (length s) ∷ []
