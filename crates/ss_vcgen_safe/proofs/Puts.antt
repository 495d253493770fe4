-- A local gets a value, and the term of it.
use Rattle.std.proofs.Common.{◌≡◌, ◌≢◌, ℕ, zero, suc, ◌<◌, List, [], ◌∷◌, length, true, ◌⊎◌, inl, inr, refl, sym, ◌∙◌, ap, subst, arith}
use Rattle.std.specs.Prelude.{Option, Some, None, slice_get, slice_set, unwrap_or}
use Rattle.std.proofs.lemmas.Bool.{and_parts, leb-true, ltb-true, cases_eq}
use Rattle.ss_core.specs.Tree.{BodyTree}
use Rattle.ss_store_rules.specs.declared.Value.{Value as ObjectValue}
use Rattle.ss_store_rules.specs.declared.Value.TheVariants as value
use Rattle.ss_store_rules.specs.Store.{Object}
use Rattle.ss_store_rules.specs.Locals.{local_types, argument_count, is_argument, is_variable, is_kept_among}
use Rattle.ss_store_rules.specs.NonNull.{Known}
use Rattle.ss_store_rules.specs.Values.{local_value}
use Rattle.ss_machine_rules.specs.States.{put}
use Rattle.ss_logic.specs.Values.{Table, Structure}
use Rattle.ss_logic.specs.Terms.{Term}
use Rattle.ss_logic_means.specs.Means.{standing}
use Rattle.ss_logic_means.specs.Sorts.{HasSort}
use Rattle.ss_vcgen_heaps.specs.Positions.{Position, Walk, set_local}
use Rattle.ss_vcgen_heaps.specs.Obligations.{local_sort}
use Rattle.ss_sound_outcomes.specs.Points.{Point, scene}
use Rattle.ss_sound_outcomes.specs.Outcomes.{with_local}
use Rattle.ss_vcgen_safe.specs.At.{Stays, HasValue, activation, IsLocal, Agrees}
use Rattle.ss_vcgen_safe.proofs.Leads.{length_set}

-- ---- lists

pub get_set : {A : Type 0} (xs : List A) (x : ℕ) (v : A) → x < length xs → slice_get (slice_set xs x v) x ≡ Some v
get_set [] x v l = absurd (omega (arith, l))
get_set (y ∷ xs) zero v l = refl
get_set (y ∷ xs) (suc x) v l = get_set xs x v (omega (arith, l))

pub get_apart : {A : Type 0} (xs : List A) (x y : ℕ) (v : A) → x ≢ y → slice_get (slice_set xs x v) y ≡ slice_get xs y
get_apart [] x y v ne = refl
get_apart (z ∷ xs) zero zero v ne = absurd (ne refl)
get_apart (z ∷ xs) zero (suc y) v ne = refl
get_apart (z ∷ xs) (suc x) zero v ne = refl
get_apart (z ∷ xs) (suc x) (suc y) v ne = get_apart xs x y v (λ e. ne (ap suc e))

-- arguments stay where a variable is assigned
pub put_arguments : (b : BodyTree) (x : Option ℕ) (v : ObjectValue) (locals : List ObjectValue) → is_kept_among (is_variable b) x ≡ true → (y : ℕ) → is_argument b y ≡ true → slice_get (put x v locals) y ≡ slice_get locals y
put_arguments b None v locals among y h = refl
put_arguments b (Some x) v locals among y h =
    let low = leb-true (argument_count b) x (and_parts _ _ among).0 in
    let high = ltb-true y (argument_count b) h in
    get_apart locals x y v (λ e. absurd (omega (arith, low, high, e)))

-- ---- positions

module _ (w : Walk) (before : List Object) (table : Table) where
  -- what is known of null isn't asked
  pub known_agrees : (m : Structure) (k : Position) (p : Point) (known : Known) → Agrees w before table m k p → Agrees w before table m (record k { known = known }) p
  known_agrees m k p known g = record { table_is = g.table_is; entry = g.entry; store_is = g.store_is; count = g.count; locals = g.locals; guard = g.guard; premises = g.premises }

  module _ (m : Structure) (k : Position) (p : Point) (x : ℕ) (t : Term) (v : ObjectValue) (within : x < length (local_types w.body)) (count : length p.locals ≡ length (local_types w.body))
      (is : Stays k.next m (HasValue w.program.classes t (standing v))) (sorted : HasSort w.program.classes [] (local_sort w x) t) (g : Agrees w before table m k p) where
    abbrev q : Point
    q = with_local (Some x) v p

    value_now : local_value (scene (activation w before table) q) x ≡ v
    value_now = ap (λ o. unwrap_or o value.Null) (get_set p.locals x v (omega (arith, within, count)))

    value_apart : (y : ℕ) → x ≢ y → local_value (scene (activation w before table) q) y ≡ local_value (scene (activation w before table) p) y
    value_apart y ne = ap (λ o. unwrap_or o value.Null) (get_apart p.locals x y v ne)

    local_now : IsLocal w before table k.next m q x t
    local_now = record { is = λ m' a e. is m' a e ∙ ap standing (sym value_now); sorted = sorted }

    one_local : (y : ℕ) (u : Term) → slice_get (slice_set k.locals x (Some t)) y ≡ Some (Some u) → (x ≡ y) ⊎ (x ≢ y) → IsLocal w before table k.next m q y u
    one_local y u there (inl e) =
        let now = get_set k.locals x (Some t) (let c = g.count in omega (arith, within, c)) in
        let there' = subst (λ z. slice_get (slice_set k.locals x (Some t)) z ≡ Some (Some u)) (sym e) there in
        let same : t ≡ u = cc in
        subst (λ z. IsLocal w before table k.next m q z u) e (subst (λ z. IsLocal w before table k.next m q x z) same local_now)
    one_local y u there (inr ne) =
        let l = g.locals y u (sym (get_apart k.locals x y (Some t) ne) ∙ there) in
        record { is = λ m' a e. l.is m' a e ∙ ap standing (sym (value_apart y ne)); sorted = l.sorted }

    -- the local has the value, and the term of it
    pub put_agrees : Agrees w before table m (set_local x t k) q
    put_agrees = record {
      table_is = g.table_is;
      entry = g.entry;
      store_is = g.store_is;
      count = length_set k.locals x (Some t) ∙ g.count;
      locals = λ y u there. one_local y u there (cases_eq x y);
      guard = g.guard;
      premises = g.premises;
    }
