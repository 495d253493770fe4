-- The context of a body stands for the stores and values of a run, in the structures that give its constants these values.
use Rattle.std.proofs.Common.{◌≡◌, ℕ, zero, suc, List, [], ◌∷◌, length, Bool, true, ◌&&◌, map, Some, refl, sym, ap, subst, arith}
use Rattle.std.specs.Prelude.{slice_get, unwrap_or, ◌+◌}
use Rattle.std.proofs.lemmas.Bool.{false≢true, and_from}
use Rattle.ss_core.specs.declared.names.Ty.{Ty}
use Rattle.ss_core.specs.declared.names.Ty.TheVariants as ty
use Rattle.ss_core.specs.Tree.{ClassTree, BodyTree, ExprTree, DefaultExpr}
use Rattle.ss_store_rules.specs.declared.Value.{Value as ObjectValue}
use Rattle.ss_store_rules.specs.declared.Value.TheVariants as value
use Rattle.ss_store_rules.specs.Store.{Object}
use Rattle.ss_store_rules.specs.Good.{has_type}
use Rattle.ss_store_rules.specs.Locals.{local_types}
use Rattle.ss_store_rules.specs.Values.{Setting, subject}
use Rattle.ss_store_rules.specs.Values as run
use Rattle.ss_logic.specs.declared.Sort.TheVariants as sort
use Rattle.ss_logic.specs.Values.{Heap, Table, IsNumbered, Value, whole, truth, thing, as_whole, as_truth, as_thing, sort_of_value, Structure}
use Rattle.ss_logic.specs.Terms.{Term, sort_of_type, same_sort, have_sorts, constant_value}
use Rattle.ss_logic.specs.Formulas.{is_well_formed, AreOf}
use Rattle.ss_logic.proofs.Truth.{same_sort_refl}
use Rattle.ss_logic.specs.Express.{choices, Context, local_meant, holds_formula}
use Rattle.ss_machine_typed.specs.Settings.{IsGoodSetting}
use Rattle.ss_logic_means.specs.Means.{standing, Means}
use Rattle.ss_logic_means.specs.Scenes.{setting_of, HaveValues, IsStoreTerm, Stands, Stay, is_stated, Settled}
use Rattle.ss_logic_means.specs.Sorts.{IsSorted}
use Rattle.ss_logic_means.specs.Bodies.{constants_from, body_context, GivesFrom}
use Rattle.ss_logic_means.proofs.Closed.{closed_stands, closed_stay}
use Rattle.ss_logic_means.proofs.Contracts.{all_stated_mean}
use Rattle.ss_logic_means.proofs.Everywhere.{all_locals, speaks_all}
use Rattle.ss_logic_means.proofs.Contexts.{sorted_among}
use Rattle.ss_logic_means.proofs.Stated.{closed_sorted, condition_formed}

-- ---- sorts

constants_sorted : (cs : List ClassTree) (k : ℕ) (tys : List Ty) → have_sorts cs (map sort_of_type tys) (constants_from k tys) ≡ true
constants_sorted cs k [] = refl
constants_sorted cs k (t ∷ tys) =
    let s = sort_of_type t in
    and_from (same_sort s s && true) (have_sorts cs (map sort_of_type tys) (constants_from (k + 1) tys)) (and_from (same_sort s s) true (same_sort_refl s) refl) (constants_sorted cs (k + 1) tys)

pub body_sorted : (cs : List ClassTree) (b : BodyTree) (now entry : Term) → have_sorts cs (sort.Store ∷ sort.Store ∷ []) (now ∷ entry ∷ []) ≡ true → IsSorted (body_context cs b now entry) []
body_sorted cs b now entry h = closed_sorted (body_context cs b now entry) (constants_from 0 (local_types b)) h refl (constants_sorted cs 0 (local_types b))

-- ---- values

constants_have : (cs : List ClassTree) (m : Structure) (k : ℕ) (tys : List Ty) (vs : List ObjectValue) → GivesFrom m k tys vs → HaveValues cs m (constants_from k tys) vs
constants_have cs m k [] [] h = tt
constants_have cs m k [] (v ∷ vs) h = h
constants_have cs m k (t ∷ tys) [] h = h
constants_have cs m k (t ∷ tys) (v ∷ vs) h = (refl, h.0, constants_have cs m (k + 1) tys vs h.1)

pub body_stands : (m : Structure) (cs : List ClassTree) (b : BodyTree) (now entry : Term) (current former : Heap) (locals : List ObjectValue) → IsStoreTerm cs m now current → IsStoreTerm cs m entry former → GivesFrom m 0 (local_types b) locals →
    Stands m (body_context cs b now entry) current former locals []
body_stands m cs b now entry current former locals n e h =
    closed_stands m (body_context cs b now entry) current former (constants_from 0 (local_types b)) locals n e refl (constants_have cs m 0 (local_types b) locals h)

pub body_stays : (m : Structure) (cs : List ClassTree) (b : BodyTree) (now entry : Term) (locals : List ObjectValue) → GivesFrom m 0 (local_types b) locals → (x : ℕ) → Stay cs m [] (choices (local_meant (body_context cs b now entry) x))
body_stays m cs b now entry locals h x = closed_stay m (body_context cs b now entry) (constants_from 0 (local_types b)) locals refl (constants_have cs m 0 (local_types b) locals h) x

-- ---- the values of a good setting have the sorts of their types

typed_sort : (cs : List ClassTree) (s : List Object) (t : Ty) (v : ObjectValue) → has_type cs s t v ≡ true → sort_of_value (standing v) ≡ sort_of_type t
typed_sort cs s ty.Int (value.Int n) h = refl
typed_sort cs s ty.Bool (value.Bool b) h = refl
typed_sort cs s ty.Null value.Null h = refl
typed_sort cs s (ty.Ref t n) value.Null h = refl
typed_sort cs s (ty.Ref t n) (value.Obj o) h = refl
typed_sort cs s t v h = absurd (false≢true h)

all_sorts : (cs : List ClassTree) (s : List Object) (tys : List Ty) (vs : List ObjectValue) → length vs ≡ length tys → ((x : ℕ) (t : Ty) (v : ObjectValue) → slice_get tys x ≡ Some t → slice_get vs x ≡ Some v → has_type cs s t v ≡ true) →
    AreOf (map sort_of_type tys) (map standing vs)
all_sorts cs s [] [] count types = tt
all_sorts cs s [] (v ∷ vs) count types = absurd (omega (arith, count))
all_sorts cs s (t ∷ tys) [] count types = absurd (omega (arith, count))
all_sorts cs s (t ∷ tys) (v ∷ vs) count types = (typed_sort cs s t v (types 0 t v refl refl), all_sorts cs s tys vs (omega (arith, count)) (λ x u w i j. types (suc x) u w i j))

pub good_sorts : (s : Setting) (tys : List Ty) (k : Bool) → IsGoodSetting s tys k → AreOf (map sort_of_type tys) (map standing s.locals)
good_sorts s tys k good = all_sorts s.classes s.store tys s.locals good.count good.types

-- ---- a structure of these stores and values

module _ (table : Table) (now entry : Heap) (numbered : IsNumbered now) (before : IsNumbered entry) (locals : List ObjectValue) where
  abbrev value_at : ℕ → Value
  value_at k = standing (unwrap_or (slice_get locals k) value.Null)

  abbrev store_at : ℕ → Heap
  store_at zero = now
  store_at (suc k) = entry

  each_numbered : (k : ℕ) → IsNumbered (store_at k)
  each_numbered zero = numbered
  each_numbered (suc k) = before

  abbrev Made : Structure
  Made = record {
    stores = store_at;
    wholes = λ k. as_whole (value_at k);
    truths = λ k. as_truth (value_at k);
    things = λ k. as_thing (value_at k);
    table = table;
    numbered = each_numbered;
  }

  constant_is : (t : Ty) (v : ObjectValue) (k : ℕ) → value_at k ≡ standing v → sort_of_value (standing v) ≡ sort_of_type t → constant_value Made (sort_of_type t) k ≡ standing v
  constant_is ty.Int (value.Int n) k e s = ap whole (ap as_whole e)
  constant_is ty.Bool (value.Bool b) k e s = ap truth (ap as_truth e)
  constant_is ty.Null (value.Obj o) k e s = ap thing (ap as_thing e)
  constant_is ty.Null value.Null k e s = ap thing (ap as_thing e)
  constant_is (ty.Ref t n) (value.Obj o) k e s = ap thing (ap as_thing e)
  constant_is (ty.Ref t n) value.Null k e s = ap thing (ap as_thing e)
  constant_is t v k e s = absurd (let no : ⊥ = cc in no)

  gives : (k : ℕ) (tys : List Ty) (vs : List ObjectValue) → ((i : ℕ) (v : ObjectValue) → slice_get vs i ≡ Some v → slice_get locals (k + i) ≡ Some v) → AreOf (map sort_of_type tys) (map standing vs) → GivesFrom Made k tys vs
  gives k [] [] from sorts = tt
  gives k [] (v ∷ vs) from sorts = sorts
  gives k (t ∷ tys) [] from sorts = sorts
  gives k (t ∷ tys) (v ∷ vs) from sorts =
      let number : k + 0 ≡ k = omega arith in
      let there = subst (λ j. slice_get locals j ≡ Some v) number (from 0 v refl) in (
        constant_is t v k (ap (λ o. standing (unwrap_or o value.Null)) there) sorts.0,
        gives (k + 1) tys vs (λ i w is. let next : k + suc i ≡ k + 1 + i = omega arith in subst (λ j. slice_get locals j ≡ Some w) next (from (suc i) w is)) sorts.1,
      )

  number_self : (i : ℕ) → 0 + i ≡ i
  number_self i = omega arith

  pub some_structure : (tys : List Ty) → AreOf (map sort_of_type tys) (map standing locals) → (m : Structure) × (m.table ≡ table) × (m.stores 0 ≡ now) × (m.stores 1 ≡ entry) × GivesFrom m 0 tys locals
  some_structure tys sorts = (Made, refl, refl, refl, gives 0 tys locals (λ i v is. subst (λ j. slice_get locals j ≡ Some v) (sym (number_self i)) is) sorts)

-- ---- conditions of a body

pub body_formed : (cs : List ClassTree) (b : BodyTree) (x : ExprTree) → is_stated cs (local_types b) x ≡ true → (now entry : Term) → have_sorts cs (sort.Store ∷ sort.Store ∷ []) (now ∷ entry ∷ []) ≡ true →
    is_well_formed cs [] (holds_formula x (body_context cs b now entry)) ≡ true
body_formed cs b x is now entry h = condition_formed all_locals (body_context cs b now entry) [] (sorted_among all_locals (body_context cs b now entry) [] (body_sorted cs b now entry h)) refl x (speaks_all x) is

settled : (m : Structure) (c : Context) → ((x : ℕ) → Stay c.classes m [] (choices (local_meant c x))) → (x : ExprTree) → Settled m [] c x
settled m c stay (DefaultExpr p d) = stay (subject d)
settled m c stay x = tt

pub body_means : (cs : List ClassTree) (b : BodyTree) (x : ExprTree) → is_stated cs (local_types b) x ≡ true → (m : Structure) (now entry : Term) (current former : Heap) (locals : List ObjectValue) (k : Bool) →
    IsGoodSetting (setting_of m (body_context cs b now entry) current former locals) (local_types b) k → IsStoreTerm cs m now current → IsStoreTerm cs m entry former → GivesFrom m 0 (local_types b) locals →
    Means cs m [] (holds_formula x (body_context cs b now entry)) (run.holds x (setting_of m (body_context cs b now entry) current former locals))
body_means cs b x is m now entry current former locals k good n e given =
    all_stated_mean m current former x (body_context cs b now entry) locals k good [] (body_stands m cs b now entry current former locals n e given) refl is
    (settled m (body_context cs b now entry) (body_stays m cs b now entry locals given) x)
