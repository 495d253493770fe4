-- What the value of an expression is by its type, in a store that a structure tables.
use Rattle.std.proofs.Common.{◌≡◌, ℕ, ◌<◌, List, Bool, true, false, ◌&&◌, Option, Some, None, Ok, refl, sym, ◌∙◌, ap, subst}
use Rattle.std.specs.Prelude.{slice_get, nat_lt, is_some, length}
use Rattle.std.specs.List.{list_all}
use Rattle.std.proofs.lemmas.Bool.{false≢true, and_parts, ltb-false, lt-ltb}
use Rattle.std.proofs.lemmas.Option.{slice_get_within}
use Rattle.ss_core.specs.declared.names.ClassId.{ClassId}
use Rattle.ss_core.specs.declared.names.Ty.{Ty}
use Rattle.ss_core.specs.declared.names.Ty.TheVariants as ty
use Rattle.ss_core.specs.Tree.{ClassTree, FieldTree, ExprTree}
use Rattle.ss_core.specs.Chain.{sub, below, is_class, is_superclass, is_type, has_numbers, DeclaredField, all_fields, IsChain}
use Rattle.ss_core.proofs.Chains.{sub-below, below_trans}
use Rattle.ss_core.proofs.Declared.{declared_place}
use Rattle.ss_core.proofs.Fields.{field_declared}
use Rattle.ss_store_rules.specs.declared.Value.{Value as ObjectValue}
use Rattle.ss_store_rules.specs.declared.Value.TheVariants as value
use Rattle.ss_store_rules.specs.Store.{Object}
use Rattle.ss_store_rules.specs.Changes.{is_array, element_type, class_of_field, type_of_field, field_type}
use Rattle.ss_store_rules.specs.Types.{is_int, is_bool, is_reference, has_class, where_typed, element_of, type_of}
use Rattle.ss_store_rules.specs.Good.{has_type, is_of_class, AreValues, IsFine, IsGood}
use Rattle.ss_store_rules.specs.Admissible.{invariants_hold}
use Rattle.ss_store_rules.specs.Values as run
use Rattle.ss_logic.specs.declared.Sort.{Sort}
use Rattle.ss_logic.specs.Values.{reference, Heap, Table, Structure}
use Rattle.ss_logic.specs.Terms.{sort_of_type, has_field}
use Rattle.ss_logic.specs.Objects.{object_in, objects_of}
use Rattle.ss_logic.proofs.Tabled.{there, not_there, count}
use Rattle.ss_logic.specs.Express.{element_sort}
use Rattle.ss_machine_typed.specs.Settings.{IsGoodSetting}
use Rattle.ss_machine_typed.specs.Older.{IsOlder}
use Rattle.ss_machine_typed.proofs.Slots.{all_at, of_array}
use Rattle.ss_machine_typed.proofs.Outcomes.{is_int_type}
use Rattle.ss_machine_typed.proofs.Sound.{value_sound, class_of_type}
use Rattle.ss_logic_means.proofs.Operations.{IsBool, IsWhole, Gives}
use Rattle.ss_logic_means.proofs.Classes.{IsReferenceOf}
use Rattle.ss_logic_means.proofs.Reading.{IsArrayOf}
use Rattle.ss_logic_means.proofs.Elements.{IsArrayWith}
use Rattle.ss_logic_means.proofs.States.{HasField}
use Rattle.ss_logic_means.proofs.Owners.{HasOwners}

-- ---- types

pub bool_type : (a : Option Ty) → is_bool a ≡ true → a ≡ Some ty.Bool
bool_type None h = absurd (false≢true h)
bool_type (Some ty.Int) h = absurd (false≢true h)
bool_type (Some ty.Bool) h = refl
bool_type (Some ty.Null) h = absurd (false≢true h)
bool_type (Some (ty.Ref t n)) h = absurd (false≢true h)

-- ---- objects

module _ (cs : List ClassTree) (table : Table) (h : Heap) where
  abbrev Store : List Object
  Store = objects_of cs table h

  class_here : (b : Bool) (t v : ℕ) → nat_lt v h.next ≡ b → is_of_class cs t (slice_get Store v) ≡ true → (nat_lt v h.next ≡ true) × (sub cs (table.class_of (reference v)) t ≡ true)
  class_here true t v l e = (l, sym (ap (is_of_class cs t) (there cs table h v l)) ∙ e)
  class_here false t v l e = absurd (false≢true (sym (ap (is_of_class cs t) (not_there cs table h v (ltb-false v h.next l))) ∙ e))

  -- what a value of a class refers to
  pub class_held : (t v : ℕ) → is_of_class cs t (slice_get Store v) ≡ true → (nat_lt v h.next ≡ true) × (sub cs (table.class_of (reference v)) t ≡ true)
  class_held t v e = class_here (nat_lt v h.next) t v refl e

  pub reference_value : (t : Ty) → is_reference (Some t) ≡ true → (u : ObjectValue) → has_type cs Store t u ≡ true → IsReferenceOf h u
  reference_value ty.Int r u e = absurd (false≢true r)
  reference_value ty.Bool r u e = absurd (false≢true r)
  reference_value ty.Null r value.Null e = tt
  reference_value ty.Null r (value.Obj o) e = absurd (false≢true e)
  reference_value ty.Null r (value.Int n) e = false≢true e
  reference_value ty.Null r (value.Bool b) e = false≢true e
  reference_value (ty.Ref t k) r value.Null e = tt
  reference_value (ty.Ref t k) r (value.Obj o) e = (class_held t.0 o e).0
  reference_value (ty.Ref t k) r (value.Int n) e = false≢true e
  reference_value (ty.Ref t k) r (value.Bool b) e = false≢true e

  module _ (good : IsGood cs (invariants_hold cs) Store) where
    pub fine : (o : ℕ) → nat_lt o h.next ≡ true → IsFine cs (invariants_hold cs) Store o (object_in cs table h o)
    fine o l = good o (object_in cs table h o) (there cs table h o l)

    pub good_values : (o : ℕ) → nat_lt o h.next ≡ true → AreValues cs Store (object_in cs table h o)
    good_values o l = (fine o l).values

    pub good_owners : HasOwners h
    good_owners o l p t e = subst (λ n. p < n) (count cs table h) ((fine o l).owner_allocated p t e)

-- what is allocated at the entry is so now
pub still_allocated : (cs : List ClassTree) (table : Table) (now entry : Heap) → IsOlder (objects_of cs table entry) (objects_of cs table now) → (o : ℕ) → nat_lt o entry.next ≡ true → nat_lt o now.next ≡ true
still_allocated cs table now entry older o l =
    let r = older o (object_in cs table entry o) (there cs table entry o l) in
    lt-ltb o now.next (subst (λ n. o < n) (count cs table now) (slice_get_within (objects_of cs table now) o r.object r.there))

-- ---- fields

-- fields are never of the type of null
typed_field : (cs : List ClassTree) → IsChain cs → (f : ℕ) (d : DeclaredField) → slice_get (all_fields cs) f ≡ Some d → is_type cs d.field.ty ≡ true
typed_field cs chain f d e =
    let by = field_declared cs f d e in
    let at = declared_place cs d.class by.by by.is_class in
    let numbers = and_parts (is_superclass cs by.by.above && list_all (is_class cs) by.by.also) (list_all (λ (g : FieldTree). is_type cs g.ty) by.by.fields) (all_at (has_numbers cs) cs at.0 by.by chain.numbers at.2) in
    all_at (λ (g : FieldTree). is_type cs g.ty) by.by.fields by.place d.field numbers.1 by.is_there

pub field_not_null : (cs : List ClassTree) → IsChain cs → (f : ℕ) (d : DeclaredField) → slice_get (all_fields cs) f ≡ Some d → field_type cs f ≡ ty.Null → ⊥
field_not_null cs chain f d e null =
    let is : d.field.ty ≡ ty.Null = sym (ap type_of_field e) ∙ null in
    false≢true (sym (ap (is_type cs) is) ∙ typed_field cs chain f d e)

pub field_has : (cs : List ClassTree) (f : ℕ) (d : DeclaredField) → slice_get (all_fields cs) f ≡ Some d → has_field cs f ≡ true
field_has cs f d e = lt-ltb f (length (all_fields cs)) (slice_get_within (all_fields cs) f d e)

-- ---- values of expressions

module _ (m : Structure) (s : run.Setting) (now : Heap) (is : s.store ≡ objects_of s.classes m.table now) (tys : List Ty) (k : Bool) (good : IsGoodSetting s tys k) (x : ExprTree) where
  typed_value : (t : Ty) (u : ObjectValue) → type_of s.classes tys x ≡ Some t → run.value_of x s ≡ Ok u → has_type s.classes (objects_of s.classes m.table now) t u ≡ true
  typed_value t u e v = subst (λ st. has_type s.classes st t u ≡ true) is (value_sound x s tys k good t u e v)

  pub gives_bool : is_bool (type_of s.classes tys x) ≡ true → Gives IsBool (run.value_of x s)
  gives_bool b u e = bool_value u (typed_value ty.Bool u (bool_type (type_of s.classes tys x) b) e)
    where
      bool_value : (u : ObjectValue) → has_type s.classes (objects_of s.classes m.table now) ty.Bool u ≡ true → IsBool u
      bool_value (value.Bool c) h = tt
      bool_value (value.Int n) h = false≢true h
      bool_value (value.Obj o) h = false≢true h
      bool_value value.Null h = false≢true h

  pub gives_int : is_int (type_of s.classes tys x) ≡ true → (u : ObjectValue) → run.value_of x s ≡ Ok u → has_type s.classes (objects_of s.classes m.table now) ty.Int u ≡ true
  gives_int b u e = typed_value ty.Int u (is_int_type (type_of s.classes tys x) b) e

  pub gives_whole : is_int (type_of s.classes tys x) ≡ true → Gives IsWhole (run.value_of x s)
  gives_whole b u e = whole_value u (gives_int b u e)
    where
      whole_value : (u : ObjectValue) → has_type s.classes (objects_of s.classes m.table now) ty.Int u ≡ true → IsWhole u
      whole_value (value.Int n) h = tt
      whole_value (value.Bool c) h = false≢true h
      whole_value (value.Obj o) h = false≢true h
      whole_value value.Null h = false≢true h

  pub gives_reference : is_reference (type_of s.classes tys x) ≡ true → Gives (IsReferenceOf now) (run.value_of x s)
  gives_reference r u e = by_type (type_of s.classes tys x) refl r
    where
      by_type : (a : Option Ty) → type_of s.classes tys x ≡ a → is_reference a ≡ true → IsReferenceOf now u
      by_type None q r = absurd (false≢true r)
      by_type (Some t) q r = reference_value s.classes m.table now t r u (typed_value t u q e)

  -- ---- arrays

  array_class : (t o : ℕ) → nat_lt o now.next ≡ true → is_array s.classes t ≡ true → sub s.classes (m.table.class_of (reference o)) t ≡ true → m.table.class_of (reference o) ≡ t
  array_class t o l a b =
      let values = good_values s.classes m.table now (subst (λ st. IsGood s.classes (invariants_hold s.classes) st) is good.store) o l in
      of_array s.classes good.chain (m.table.class_of (reference o)) t values.class a (sym (sub-below s.classes good.beside (m.table.class_of (reference o)) t) ∙ b)

  array_value : (t : ℕ) (n : Bool) → is_array s.classes t ≡ true → (u : ObjectValue) → has_type s.classes (objects_of s.classes m.table now) (ty.Ref (record { 0 = t }) n) u ≡ true → IsArrayWith s.classes m now (sort_of_type (element_type t)) u
  array_value t n a value.Null h = tt
  array_value t n a (value.Obj o) h =
      let held = class_held s.classes m.table now t o h in
      let same = array_class t o held.0 a held.1 in
      (held.0, subst (λ c. is_array s.classes c ≡ true) (sym same) a, ap (λ c. sort_of_type (element_type c)) (sym same))
  array_value t n a (value.Int i) h = false≢true h
  array_value t n a (value.Bool b) h = false≢true h

  with_is : (r : Sort) (u : ObjectValue) → IsArrayWith s.classes m now r u → IsArrayOf s.classes m now u
  with_is r (value.Obj o) a = (a.0, a.1)
  with_is r value.Null a = tt
  with_is r (value.Int n) a = a
  with_is r (value.Bool b) a = a

  pub gives_array : has_class (is_array s.classes) (type_of s.classes tys x) ≡ true → Gives (IsArrayOf s.classes m now) (run.value_of x s)
  gives_array a u e =
      let c = class_of_type (is_array s.classes) (type_of s.classes tys x) a in
      with_is (sort_of_type (element_type c.0)) u (array_value c.0 c.1 c.3 u (typed_value (ty.Ref (record { 0 = c.0 }) c.1) u c.2 e))

  pub gives_elements : is_some (element_of s.classes (type_of s.classes tys x)) ≡ true → Gives (IsArrayWith s.classes m now (element_sort (element_of s.classes (type_of s.classes tys x)))) (run.value_of x s)
  gives_elements h u e = by_type (type_of s.classes tys x) refl h
    where
      by_array : (t : ClassId) (n : Bool) → type_of s.classes tys x ≡ Some (ty.Ref t n) → (b : Bool) → is_array s.classes t.0 ≡ b → is_some (where_typed b (element_type t.0)) ≡ true → IsArrayWith s.classes m now (element_sort (where_typed b (element_type t.0))) u
      by_array t n q true a h = array_value t.0 n a u (typed_value (ty.Ref t n) u q e)
      by_array t n q false a h = absurd (false≢true h)

      by_type : (a : Option Ty) → type_of s.classes tys x ≡ a → is_some (element_of s.classes a) ≡ true → IsArrayWith s.classes m now (element_sort (element_of s.classes a)) u
      by_type None q h = absurd (false≢true h)
      by_type (Some ty.Int) q h = absurd (false≢true h)
      by_type (Some ty.Bool) q h = absurd (false≢true h)
      by_type (Some ty.Null) q h = absurd (false≢true h)
      by_type (Some (ty.Ref t n)) q h = by_array t n q (is_array s.classes t.0) refl h

  -- ---- fields

  field_value : (t : ℕ) (n : Bool) (f : ℕ) (d : DeclaredField) → slice_get (all_fields s.classes) f ≡ Some d → below s.classes t d.class ≡ true → (u : ObjectValue) → has_type s.classes (objects_of s.classes m.table now) (ty.Ref (record { 0 = t }) n) u ≡ true → HasField s.classes m now f u
  field_value t n f d there b value.Null h = tt
  field_value t n f d there b (value.Obj o) h =
      let held = class_held s.classes m.table now t o h in
      let c = m.table.class_of (reference o) in
      let up = below_trans s.classes good.chain c t d.class (sym (sub-below s.classes good.beside c t) ∙ held.1) b in
      (held.0, subst (λ k. below s.classes c k ≡ true) (sym (ap class_of_field there)) up)
  field_value t n f d there b (value.Int i) h = false≢true h
  field_value t n f d there b (value.Bool c) h = false≢true h

  pub gives_field : (f : ℕ) (d : DeclaredField) → slice_get (all_fields s.classes) f ≡ Some d → has_class (λ c. below s.classes c d.class) (type_of s.classes tys x) ≡ true → Gives (HasField s.classes m now f) (run.value_of x s)
  gives_field f d there h u e =
      let c = class_of_type (λ t. below s.classes t d.class) (type_of s.classes tys x) h in
      field_value c.0 c.1 f d there c.3 u (typed_value (ty.Ref (record { 0 = c.0 }) c.1) u c.2 e)
