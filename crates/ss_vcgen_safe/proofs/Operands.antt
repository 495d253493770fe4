-- The objects that a change concerns: what terms and checks say of them.
use Rattle.std.proofs.Common.{◌≡◌, ℕ, List, [], Bool, true, ⊎_elim, refl, sym, ◌∙◌, ap, subst, arith}
use Rattle.std.specs.Prelude.{Some, slice_get, unwrap_or}
use Rattle.std.proofs.lemmas.Bool.{false≢true, or_cases}
use Rattle.ss_core.specs.declared.names.Kind.TheVariants as kind
use Rattle.ss_core.specs.declared.names.Place.{Place}
use Rattle.ss_core.specs.declared.names.Ty.{Ty}
use Rattle.ss_core.specs.declared.names.Ty.TheVariants as ty
use Rattle.ss_core.specs.Tree.{ClassTree}
use Rattle.ss_store_rules.specs.declared.Value.{Value as ObjectValue}
use Rattle.ss_store_rules.specs.declared.Value.TheVariants as value
use Rattle.ss_store_rules.specs.Store.{Object}
use Rattle.ss_store_rules.specs.Good.{has_type}
use Rattle.ss_store_rules.specs.Locals.{local_types}
use Rattle.ss_store_rules.specs.NonNull.{is_non_null_type}
use Rattle.ss_store_rules.specs.Values.{local_value}
use Rattle.ss_machine_typed.proofs.Sound.{object_typed}
use Rattle.ss_machine_good.specs.Known.{IsNotNull}
use Rattle.ss_logic.specs.Values.{null, Table, thing, Structure}
use Rattle.ss_logic.specs.Terms.{Term}
use Rattle.ss_logic.specs.Shapes.{null_term, differ}
use Rattle.ss_logic_means.specs.Means.{standing}
use Rattle.ss_logic_means.specs.Sorts.{HasSort}
use Rattle.ss_logic_means.proofs.Standing.{get_found}
use Rattle.ss_vcgen_heaps.specs.Positions.{Position, Walk, term_or_null, local_term}
use Rattle.ss_vcgen_heaps.specs.Obligations.{AreValid, local_type, local_sort, is_known_local, check_local}
use Rattle.ss_sound_outcomes.specs.Points.{Activation, Point, scene}
use Rattle.ss_vcgen_safe.specs.At.{Stays, HasValue, IsTrueIn, activation, Agrees, IsAt}
use Rattle.ss_vcgen_safe.proofs.Alike.{alike_self}
use Rattle.ss_vcgen_safe.proofs.PositionsJoins.{get_below}
use Rattle.ss_vcgen_safe.proofs.Keeps.{checked_unless}

-- ---- null

-- The value refers to an object.
pub record IsThere (s : List Object) (v : ObjectValue) : Type 0 where
  pub position : ℕ
  pub is : v ≡ value.Obj position
  pub object : Object
  pub there : slice_get s position ≡ Some object

-- a value of a class that isn't null does
pub object_there : (cs : List ClassTree) (s : List Object) (t : ℕ) (n : Bool) (v : ObjectValue) → has_type cs s (ty.Ref (record { 0 = t }) n) v ≡ true → IsNotNull v → IsThere s v
object_there cs s t n (value.Int i) h not_null = absurd (false≢true h)
object_there cs s t n (value.Bool b) h not_null = absurd (false≢true h)
object_there cs s t n (value.Obj o) h not_null = let x = object_typed cs s t n o h in record { position = o; is = refl; object = x.0; there = x.1 }
object_there cs s t n value.Null h not_null = absurd (not_null refl)

null_alone : (v : ObjectValue) → standing v ≡ thing null → v ≡ value.Null
null_alone (value.Int n) e = let no : ⊥ = cc in absurd no
null_alone (value.Bool b) e = let no : ⊥ = cc in absurd no
null_alone (value.Obj o) e = let no : ⊥ = cc in absurd no
null_alone value.Null e = refl

module _ (cs : List ClassTree) (m : Structure) (t : Term) (v : ObjectValue) (is : HasValue cs t (standing v) m) where
  -- a term differs from null exactly where its value isn't null
  pub differ_true : IsNotNull v → IsTrueIn cs (differ t null_term) m
  differ_true not_null e = not_null (null_alone v (sym (is []) ∙ e))

  pub not_null : IsTrueIn cs (differ t null_term) m → IsNotNull v
  not_null d e = d (is [] ∙ ap standing e)

-- ---- locals

-- The term of the local has its value.
pub record IsOperand (w : Walk) (before : List Object) (table : Table) (m : Structure) (k : Position) (p : Point) (x : ℕ) : Type 0 where
  pub is : Stays k.next m (HasValue w.program.classes (local_term x k) (standing (local_value (scene (activation w before table) p) x)))
  pub sorted : HasSort w.program.classes [] (local_sort w x) (local_term x k)

module _ (w : Walk) (before : List Object) (table : Table) (xs : ℕ → Bool) (m : Structure) (k : Position) (p : Point) (at : IsAt w before table xs m k p) where
  abbrev a : Activation
  a = activation w before table

  pub operand : (x : ℕ) → xs x ≡ true → IsOperand w before table m k p x
  operand x h =
      let t = at.terms x h in
      let l = at.agrees.locals x t.0 t.1 in
      let same : t.0 ≡ local_term x k = sym (ap term_or_null t.1) in
      record {
        is = subst (λ u. Stays k.next m (HasValue w.program.classes u (standing (local_value (scene a p) x)))) same l.is;
        sorted = subst (HasSort w.program.classes [] (local_sort w x)) same l.sorted;
      }

  -- its value is of its type
  pub local_typed : (x : ℕ) (t : Ty) → slice_get (local_types w.body) x ≡ Some t → has_type w.program.classes p.store t (local_value (scene a p) x) ≡ true
  local_typed x t there =
      let within = get_below (local_types w.body) x t there in
      let count = at.sound.locals.count in
      let found = get_found p.locals x (omega (arith, within, count)) in
      subst (λ v. has_type w.program.classes p.store t v ≡ true) (sym (ap (λ o. unwrap_or o value.Null) found.1)) (at.sound.locals.types x t found.0 there found.1)

  -- what is known not to be null isn't
  pub known_local : (x : ℕ) → xs x ≡ true → is_known_local w k x ≡ true → IsNotNull (local_value (scene a p) x)
  known_local x h known = ⊎_elim (λ typed. at.assigned x h typed) (λ fact. at.known.facts x fact) (or_cases (is_non_null_type (local_type w x)) (k.known.facts x) known)

  -- an object in a local, after the check that it isn't null
  pub record LocalChecked (where_ : Place) (x : ℕ) : Type 0 where
    pub there : IsThere p.store (local_value (scene a p) x)
    pub agrees : Agrees w before table m (check_local w where_ x k) p

  pub local_checked : (where_ : Place) (x t : ℕ) (n : Bool) → xs x ≡ true → slice_get (local_types w.body) x ≡ Some (ty.Ref (record { 0 = t }) n) → AreValid w.program.classes (check_local w where_ x k).listed → LocalChecked where_ x
  local_checked where_ x t n h typed valid =
      let v = local_value (scene a p) x in
      let o = operand x h in
      let c = checked_unless w before table m p (is_known_local w k x) kind.Null where_ (differ (local_term x k) null_term) k
      (λ known m' alike. differ_true w.program.classes m' (local_term x k) v (o.is m' alike) (known_local x h known)) valid at.agrees in
      let self = alike_self k.next m in
      record {
        there = object_there w.program.classes p.store t n v (local_typed x (ty.Ref (record { 0 = t }) n) typed) (not_null w.program.classes m (local_term x k) v (o.is m self) (c.0 m self));
        agrees = c.1;
      }
