-- What a typed statement does to a good store keeps it good.
use Rattle.std.proofs.Common.{◌≡◌, ℕ, ℤ, List, Bool, true, false, ◌&&◌, ◌==◌, Option, Some, None, Ok, refl, sym, ◌∙◌, ap, subst, arith}
use Rattle.std.specs.Prelude.{slice_get}
use Rattle.std.proofs.lemmas.Bool.{false≢true, and_parts, eqb-true}
use Rattle.std.proofs.lemmas.Option.{slice_get_within}
use Rattle.ss_core.specs.declared.names.Mark.{Mark}
use Rattle.ss_core.specs.declared.names.Ty.{Ty}
use Rattle.ss_core.specs.declared.names.Ty.TheVariants as ty
use Rattle.ss_core.specs.Tree.{ClassTree, ExprTree, BodyTree}
use Rattle.ss_core.specs.Chain.{is_declared, sub, below, DeclaredField, all_fields, IsChain, NoAlso}
use Rattle.ss_core.proofs.Chains.{sub-below, below_trans, sub_trans}
use Rattle.ss_store_rules.specs.declared.Value.{Value}
use Rattle.ss_store_rules.specs.declared.Value.TheVariants as value
use Rattle.ss_store_rules.specs.Store.{Object}
use Rattle.ss_store_rules.specs.Reads.{as_int}
use Rattle.ss_store_rules.specs.Values.{Setting, local_value, value_of}
use Rattle.ss_store_rules.specs.Changes.{is_array, element_type, field_class, field_type, class_of_field, type_of_field, unpack_of, pack_of, write_of, write_element_of, new_object_of, new_array_of}
use Rattle.ss_store_rules.specs.Types.{fits_type, has_fitting, is_int, has_class, element_of, type_of, typed, in_code, code_type, is_allowed}
use Rattle.ss_store_rules.specs.Locals.{local_types, everywhere}
use Rattle.ss_store_rules.specs.Typed.{has_type_in, same_mark, is_write_of, is_element_write, is_exposable}
use Rattle.ss_store_rules.specs.Good.{has_type, is_non_null, IsReady, IsGood}
use Rattle.ss_store_rules.specs.Admissible.{AreAdmissible, invariants_hold}
use Rattle.ss_store_rules.specs.Keeps.{IsOf}
use Rattle.ss_store_rules.proofs.Keeps.{Keeps-unpack, Keeps-pack, Keeps-write, Keeps-write_element, Keeps-new_object, Keeps-new_array}
use Rattle.ss_store_rules.proofs.Objects.{same_object}
use Rattle.ss_machine_typed.specs.Settings.{IsGoodSetting}
use Rattle.ss_machine_typed.proofs.Outcomes.{where_typed_some, is_int_type, int_typed}
use Rattle.ss_machine_typed.proofs.Older.{there_is}
use Rattle.ss_machine_typed.proofs.Slots.{of_array}
use Rattle.ss_machine_typed.proofs.Sound.{if_some, class_of_type, object_typed, value_sound}

-- ---- types of values

null_fits : (cs : List ClassTree) (s : List Object) (t : ℕ) (n : Bool) (v : Value) → has_type cs s ty.Null v ≡ true → has_type cs s (ty.Ref (record { 0 = t }) n) v ≡ true
null_fits cs s t n (value.Int i) h = absurd (false≢true h)
null_fits cs s t n (value.Bool b) h = absurd (false≢true h)
null_fits cs s t n (value.Obj o) h = absurd (false≢true h)
null_fits cs s t n value.Null h = refl

class_fits : (cs : List ClassTree) → IsChain cs → NoAlso cs → (s : List Object) (c t : ℕ) (m n : Bool) (v : Value) → sub cs c t ≡ true → has_type cs s (ty.Ref (record { 0 = c }) m) v ≡ true → has_type cs s (ty.Ref (record { 0 = t }) n) v ≡ true
class_fits cs chain beside s c t m n (value.Int i) f h = h
class_fits cs chain beside s c t m n (value.Bool b) f h = h
class_fits cs chain beside s c t m n value.Null f h = h
class_fits cs chain beside s c t m n (value.Obj o) f h =
    let x = object_typed cs s c m o h in
    rw (x.1) (sub_trans cs chain x.0.class c t (sym (sub-below cs beside x.0.class c) ∙ x.2) f)

-- what fits a type is of it
pub fits_typed : (cs : List ClassTree) → IsChain cs → NoAlso cs → (s : List Object) (a t : Ty) (v : Value) → fits_type cs a t ≡ true → has_type cs s a v ≡ true → has_type cs s t v ≡ true
fits_typed cs chain beside s ty.Int ty.Int v f h = h
fits_typed cs chain beside s ty.Bool ty.Bool v f h = h
fits_typed cs chain beside s ty.Null (ty.Ref t n) v f h = null_fits cs s t.0 n v h
fits_typed cs chain beside s (ty.Ref c m) (ty.Ref t n) v f h = class_fits cs chain beside s c.0 t.0 m n v f h
fits_typed cs chain beside s a t v f h = absurd (false≢true f)

-- the type that an expression of code has
pub code_typed : (cs : List ClassTree) (b : BodyTree) (e : ExprTree) (a : Ty) → code_type cs b e ≡ Some a → type_of cs (local_types b) e ≡ Some a
code_typed cs b e a h = if_some (everywhere (is_allowed b in_code) e) (type_of cs (local_types b) e) a h

pub fitting_some : (cs : List ClassTree) (o : Option Ty) (t : Ty) → has_fitting cs o t ≡ true → (a : Ty) × (o ≡ Some a) × (fits_type cs a t ≡ true)
fitting_some cs None t h = absurd (false≢true h)
fitting_some cs (Some a) t h = (a, refl, h)

module _ (x : Setting) (b : BodyTree) (constructs : Bool) (good : IsGoodSetting x (local_types b) constructs) where
  code_sound : (e : ExprTree) (a : Ty) (v : Value) → code_type x.classes b e ≡ Some a → value_of e x ≡ Ok v → has_type x.classes x.store a v ≡ true
  code_sound e a v h ev = value_sound e x (local_types b) constructs good a v (code_typed x.classes b e a h) ev

  -- a value that is wanted is of the type
  pub value_fits : (e : ExprTree) (t : Ty) (v : Value) → has_type_in x.classes b e t ≡ true → value_of e x ≡ Ok v → has_type x.classes x.store t v ≡ true
  value_fits e t v h ev =
      let a = fitting_some x.classes (code_type x.classes b e) t h in
      fits_typed x.classes good.chain good.beside x.store a.0 t v a.2 (code_sound e a.0 v a.1 ev)

  module _ (admissible : AreAdmissible x.classes) where
    -- ---- a write of a field

    field_written : (o e : ExprTree) (m : Mark) (t g : ℕ) (d : DeclaredField) (v w : Value) (s : List Object) → slice_get (all_fields x.classes) g ≡ Some d → is_write_of x.classes b o m t e (Some d) ≡ true → value_of o x ≡ Ok v → value_of e x ≡ Ok w → IsReady x.store w →
        (w ≡ value.Null → is_non_null (field_type x.classes g) ≡ false) → write_of x.classes x.store v g w ≡ Ok s → IsGood x.classes (invariants_hold x.classes) s
    field_written o e m t g d v w s there typed ev ew ready non_null h =
        let p = and_parts (same_mark m d.field.mark && t == d.class && has_class (λ c. below x.classes c t) (code_type x.classes b o)) (has_type_in x.classes b e d.field.ty) typed in
        let q = and_parts (same_mark m d.field.mark && t == d.class) (has_class (λ c. below x.classes c t) (code_type x.classes b o)) p.0 in
        let r = and_parts (same_mark m d.field.mark) (t == d.class) q.0 in
        let u = class_of_type (λ c. below x.classes c t) (code_type x.classes b o) q.1 in
        let declares : field_class x.classes g ≡ t = ap class_of_field there ∙ sym (eqb-true t d.class r.1) in
        let ty_is : field_type x.classes g ≡ d.field.ty = ap type_of_field there in
        let v_typed = code_sound o _ v u.2 ev in
        Keeps-write x.classes x.store s (Ok tt) v g w h
        (λ q z is ez.
        let y = object_typed x.classes x.store u.0 u.1 q (subst (λ n. has_type x.classes x.store (ty.Ref (record { 0 = u.0 }) u.1) n ≡ true) is v_typed) in
        let same = same_object x.store q y.0 z y.1 ez in
        let up = below_trans x.classes good.chain y.0.class u.0 t (sym (sub-below x.classes good.beside y.0.class u.0) ∙ y.2) u.3 in
        subst (λ n. below x.classes z.class n ≡ true) (sym declares) (subst (λ (n : Object). below x.classes n.class t ≡ true) same up))
        (record { typed = subst (λ n. has_type x.classes x.store n w ≡ true) (sym ty_is) (value_fits e d.field.ty w p.1 ew); ready = ready; non_null = non_null })
        good.chain admissible good.store

    write_if : (o e : ExprTree) (m : Mark) (t g : ℕ) (d : Option DeclaredField) (v w : Value) (s : List Object) → slice_get (all_fields x.classes) g ≡ d → is_write_of x.classes b o m t e d ≡ true → value_of o x ≡ Ok v → value_of e x ≡ Ok w → IsReady x.store w →
        (w ≡ value.Null → is_non_null (field_type x.classes g) ≡ false) → write_of x.classes x.store v g w ≡ Ok s → IsGood x.classes (invariants_hold x.classes) s
    write_if o e m t g None v w s there typed ev ew ready non_null h = absurd (false≢true typed)
    write_if o e m t g (Some d) v w s there typed ev ew ready non_null h = field_written o e m t g d v w s there typed ev ew ready non_null h

    pub write_good : (o e : ExprTree) (m : Mark) (t g : ℕ) (v w : Value) (s : List Object) → is_write_of x.classes b o m t e (slice_get (all_fields x.classes) g) ≡ true → value_of o x ≡ Ok v → value_of e x ≡ Ok w → IsReady x.store w →
        (w ≡ value.Null → is_non_null (field_type x.classes g) ≡ false) → write_of x.classes x.store v g w ≡ Ok s → IsGood x.classes (invariants_hold x.classes) s
    write_good o e m t g v w s typed ev ew ready non_null h = write_if o e m t g (slice_get (all_fields x.classes) g) v w s refl typed ev ew ready non_null h

    -- ---- a write of an element

    element_class : (o : Option Ty) (t : Ty) → element_of x.classes o ≡ Some t → (u : ℕ) × (n : Bool) × (o ≡ Some (ty.Ref (record { 0 = u }) n)) × (is_array x.classes u ≡ true) × (element_type u ≡ t)
    element_class None t h = absurd (let none : ⊥ = cc in none)
    element_class (Some ty.Int) t h = absurd (let none : ⊥ = cc in none)
    element_class (Some ty.Bool) t h = absurd (let none : ⊥ = cc in none)
    element_class (Some ty.Null) t h = absurd (let none : ⊥ = cc in none)
    element_class (Some (ty.Ref u n)) t h = let w = where_typed_some (is_array x.classes u.0) (element_type u.0) t h in (u.0, n, refl, w.0, w.1)

    element_if : (a e : ExprTree) (o : Option Ty) (v w : Value) (i : ℤ) (s : List Object) → element_of x.classes (code_type x.classes b a) ≡ o → is_element_write x.classes b e o ≡ true → value_of a x ≡ Ok v → value_of e x ≡ Ok w → IsReady x.store w →
        write_element_of x.store v i w ≡ Ok s → IsGood x.classes (invariants_hold x.classes) s
    element_if a e None v w i s is typed ev ew ready h = absurd (false≢true typed)
    element_if a e (Some t) v w i s is typed ev ew ready h =
        let u = element_class (code_type x.classes b a) t is in
        let v_typed = code_sound a _ v u.2 ev in
        let w_typed = value_fits e t w typed ew in
        Keeps-write_element x.classes x.store s (Ok tt) v i w h
        (λ q z isq ez.
        let y = object_typed x.classes x.store u.0 u.1 q (subst (λ n. has_type x.classes x.store (ty.Ref (record { 0 = u.0 }) u.1) n ≡ true) isq v_typed) in
        let same = same_object x.store q y.0 z y.1 ez in
        let class = of_array x.classes good.chain y.0.class u.0 (good.store q y.0 y.1).values.class u.3 (sym (sub-below x.classes good.beside y.0.class u.0) ∙ y.2) in
        let z_class : z.class ≡ u.0 = ap (λ (n : Object). n.class) (sym same) ∙ class in
        subst (λ n. has_type x.classes x.store n w ≡ true) (sym (ap element_type z_class ∙ u.4)) w_typed)
        ready good.chain admissible good.store

    pub write_element_good : (a e : ExprTree) (v w : Value) (i : ℤ) (s : List Object) → is_element_write x.classes b e (element_of x.classes (code_type x.classes b a)) ≡ true → value_of a x ≡ Ok v → value_of e x ≡ Ok w → IsReady x.store w →
        write_element_of x.store v i w ≡ Ok s → IsGood x.classes (invariants_hold x.classes) s
    write_element_good a e v w i s typed ev ew ready h = element_if a e (element_of x.classes (code_type x.classes b a)) v w i s refl typed ev ew ready h

    -- ---- unpack and pack

    local_of : (y t : ℕ) → has_class (λ c. below x.classes c t) (slice_get (local_types b) y) ≡ true → IsOf x.classes x.store (local_value x y) t
    local_of y t h q z is ez =
        let u = class_of_type (λ c. below x.classes c t) (slice_get (local_types b) y) h in
        let v = there_local y u.0 u.1 u.2 in
        let y_typed : has_type x.classes x.store (ty.Ref (record { 0 = u.0 }) u.1) (value.Obj q) ≡ true = subst (λ n. has_type x.classes x.store (ty.Ref (record { 0 = u.0 }) u.1) n ≡ true) is v in
        let o = object_typed x.classes x.store u.0 u.1 q y_typed in
        let same = same_object x.store q o.0 z o.1 ez in
        subst (λ (n : Object). below x.classes n.class t ≡ true) same
        (below_trans x.classes good.chain o.0.class u.0 t (sym (sub-below x.classes good.beside o.0.class u.0) ∙ o.2) u.3)
      where
        there_local : (y t : ℕ) (n : Bool) → slice_get (local_types b) y ≡ Some (ty.Ref (record { 0 = t }) n) → has_type x.classes x.store (ty.Ref (record { 0 = t }) n) (local_value x y) ≡ true
        there_local y t n e =
            let count = good.count in
            let within = slice_get_within (local_types b) y (ty.Ref (record { 0 = t }) n) e in
            let v = there_is x.locals y (omega (arith, count, within)) in
            rw (v.1) (good.types y (ty.Ref (record { 0 = t }) n) v.0 e v.1)

    pub unpack_good : (y t : ℕ) (s : List Object) → is_exposable x.classes b y t ≡ true → unpack_of x.classes x.store (local_value x y) t ≡ Ok s → IsGood x.classes (invariants_hold x.classes) s
    unpack_good y t s typed h =
        Keeps-unpack x.classes x.store s (Ok tt) (local_value x y) t h (and_parts (is_declared x.classes t) _ typed).0 good.chain admissible good.store

    pub pack_good : (y t : ℕ) (s : List Object) → is_exposable x.classes b y t ≡ true → pack_of x.classes (invariants_hold x.classes) x.store (local_value x y) t ≡ Ok s → IsGood x.classes (invariants_hold x.classes) s
    pack_good y t s typed h =
        let p = and_parts (is_declared x.classes t) (has_class (λ c. below x.classes c t) (slice_get (local_types b) y)) typed in
        Keeps-pack x.classes x.store s (Ok tt) (local_value x y) t h p.0 (local_of y t p.1) good.chain admissible good.store

    -- ---- new objects and arrays

    pub new_object_good : (t : ℕ) → is_declared x.classes t ≡ true → IsGood x.classes (invariants_hold x.classes) (new_object_of x.classes x.store t)
    new_object_good t declared = Keeps-new_object x.classes x.store (new_object_of x.classes x.store t) t refl declared good.chain admissible good.store

    pub new_array_good : (t : ℕ) (e : ExprTree) (n : Value) (s : List Object) → is_array x.classes t ≡ true → is_int (code_type x.classes b e) ≡ true → value_of e x ≡ Ok n → new_array_of x.store t (as_int n) ≡ Ok s → IsGood x.classes (invariants_hold x.classes) s
    new_array_good t e n s array typed en h =
        Keeps-new_array x.classes x.store s t (as_int n) h (int_typed x.classes x.store n (code_sound e ty.Int n (is_int_type (code_type x.classes b e) typed) en)) array good.chain admissible good.store
