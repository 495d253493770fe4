-- Reads give ready references: the `this` of a constructor alone need not be ready.
use Rattle.std.proofs.Common.{◌≡◌, ℕ, ℤ, List, Bool, true, false, ◌&&◌, Option, Some, None, Ok, Err, refl, sym, ◌∙◌, ap, subst}
use Rattle.std.specs.Prelude.{slice_get, if◌then◌else◌, unwrap_or}
use Rattle.std.proofs.lemmas.Bool.{false≢true, and_parts}
use Rattle.ss_core.specs.declared.names.Place.{Place}
use Rattle.ss_core.specs.declared.names.Kind.TheVariants as kind
use Rattle.ss_core.specs.declared.names.Ty.{Ty}
use Rattle.ss_core.specs.declared.names.Ty.TheVariants as ty
use Rattle.ss_core.specs.declared.expr.Operator.{Operator}
use Rattle.ss_core.specs.declared.expr.Operator.TheVariants as op
use Rattle.ss_core.specs.Tree.{ClassTree, ExprTree, IntExpr, BoolExpr, NullExpr, LocalExpr, FieldExpr, ElementExpr, LengthExpr, NegateExpr, NotExpr, BinaryExpr, ImpliesExpr, IffExpr, IsExpr, AsExpr, CastExpr, OldExpr, QuantifiedExpr, StateExpr, OwnersExpr, DefaultExpr}
use Rattle.ss_core.specs.Chain.{sub, is_class, DeclaredField, all_fields}
use Rattle.ss_core.specs.Types.{is_class_type}
use Rattle.ss_store_rules.specs.declared.Value.{Value}
use Rattle.ss_store_rules.specs.declared.Value.TheVariants as value
use Rattle.ss_store_rules.specs.Store.{Object}
use Rattle.ss_store_rules.specs.Store as store
use Rattle.ss_store_rules.specs.Numbers.{undefined}
use Rattle.ss_store_rules.specs.Reads.{as_int, field_read, element_read}
use Rattle.ss_store_rules.specs.Values.{Setting, and_then, local_value, at_entry, class_at, state_at, is_readable, readable_of, field_value, is_index, index, element_value, is_of, cast, value_of}
use Rattle.ss_store_rules.specs.Changes.{element_type, field_type}
use Rattle.ss_store_rules.specs.Types.{class_type, is_int, is_reference, operation_type, field_read_type, element_of, type_of}
use Rattle.ss_store_rules.specs.NonNull.{is_this_object}
use Rattle.ss_store_rules.specs.Good.{has_type, IsReady}
use Rattle.ss_machine_typed.specs.Settings.{IsGoodSetting}
use Rattle.ss_machine_typed.proofs.Older.{ready-older}
use Rattle.ss_machine_typed.proofs.Outcomes.{and_then_ok, ok_same, if_ok, readable_ok, where_typed_some}
use Rattle.ss_machine_typed.proofs.Sound.{IsReference, Something, reference_typed, reads, old_setting, if_some, value_sound}

-- a value of no class refers to nothing
pub plain_ready : (cs : List ClassTree) (s : List Object) (t : Ty) (v : Value) → is_class_type t ≡ false → has_type cs s t v ≡ true → IsReady s v
plain_ready cs s t (value.Int n) apart h o x is e = cc
plain_ready cs s t (value.Bool b) apart h o x is e = cc
plain_ready cs s t value.Null apart h o x is e = cc
plain_ready cs s ty.Int (value.Obj q) apart h o x is e = absurd (false≢true h)
plain_ready cs s ty.Bool (value.Obj q) apart h o x is e = absurd (false≢true h)
plain_ready cs s ty.Null (value.Obj q) apart h o x is e = absurd (false≢true h)
plain_ready cs s (ty.Ref t n) (value.Obj q) apart h o x is e = absurd (false≢true (sym apart))

null_ready : (s : List Object) → IsReady s value.Null
null_ready s o x is e = cc

or_null_ready : (s : List Object) (o : Option Value) → ((v : Value) → o ≡ Some v → IsReady s v) → IsReady s (unwrap_or o value.Null)
or_null_ready s None k = null_ready s
or_null_ready s (Some v) k = k v refl

-- the type of an operation is that of numbers or of truth values
operation_plain : (o : Operator) (x y : Option Ty) (t : Ty) → operation_type o x y ≡ Some t → is_class_type t ≡ false
operation_plain op.Or x y t h = ap is_class_type (sym (where_typed_some _ ty.Bool t h).1)
operation_plain op.And x y t h = ap is_class_type (sym (where_typed_some _ ty.Bool t h).1)
operation_plain op.Equal x y t h = ap is_class_type (sym (where_typed_some _ ty.Bool t h).1)
operation_plain op.NotEqual x y t h = ap is_class_type (sym (where_typed_some _ ty.Bool t h).1)
operation_plain op.Less x y t h = ap is_class_type (sym (where_typed_some _ ty.Bool t h).1)
operation_plain op.LessEqual x y t h = ap is_class_type (sym (where_typed_some _ ty.Bool t h).1)
operation_plain op.Greater x y t h = ap is_class_type (sym (where_typed_some _ ty.Bool t h).1)
operation_plain op.GreaterEqual x y t h = ap is_class_type (sym (where_typed_some _ ty.Bool t h).1)
operation_plain op.Add x y t h = ap is_class_type (sym (where_typed_some _ ty.Int t h).1)
operation_plain op.Subtract x y t h = ap is_class_type (sym (where_typed_some _ ty.Int t h).1)
operation_plain op.Multiply x y t h = ap is_class_type (sym (where_typed_some _ ty.Int t h).1)
operation_plain op.Divide x y t h = ap is_class_type (sym (where_typed_some _ ty.Int t h).1)
operation_plain op.Remainder x y t h = ap is_class_type (sym (where_typed_some _ ty.Int t h).1)

-- a cast leaves its value
pub cast_same : (c : Setting) (p : Place) (t : ℕ) (n : Bool) (v w : Value) → cast c p t n v ≡ Ok w → v ≡ w
cast_same c p t n (value.Obj o) w h = (if_ok (sub c.classes (class_at c o) t) (value.Obj o) (undefined p kind.Cast) w h).1
cast_same c p t true (value.Int i) w h = absurd (let no : ⊥ = cc in no)
cast_same c p t true (value.Bool b) w h = absurd (let no : ⊥ = cc in no)
cast_same c p t true value.Null w h = absurd (let no : ⊥ = cc in no)
cast_same c p t false (value.Int i) w h = cc
cast_same c p t false (value.Bool b) w h = cc
cast_same c p t false value.Null w h = cc

module _ (c : Setting) (tys : List Ty) (k : Bool) (good : IsGoodSetting c tys k) where
  field_ready : (p : Place) (v w : Value) (f : ℕ) → IsReference c.store v → field_value c p v f ≡ Ok w → IsReady c.store w
  field_ready p v w f reference h =
      let a = and_then_ok (readable_of c p v) (λ o. Ok (field_read (state_at c o) f)) w h in
      let r = readable_ok c p v a.0 a.1 in
      from_object a.0 r.1 (there v a.0 r.0 reference) (ok_same (field_read (state_at c a.0) f) w a.2)
    where
      there : (u : Value) (o : ℕ) → u ≡ value.Obj o → IsReference c.store u → (x : Object) × (slice_get c.store o ≡ Some x)
      there (value.Int i) o is r = elim r [ ]
      there (value.Bool b) o is r = elim r [ ]
      there value.Null o is r = absurd (let no : ⊥ = cc in no)
      there (value.Obj q) o is (Something {x} e) = let same : q ≡ o = cc in (x, subst (λ n. slice_get c.store n ≡ Some x) same e)

      from_object : (o : ℕ) → is_readable c o ≡ true → (x : Object) × (slice_get c.store o ≡ Some x) → field_read (state_at c o) f ≡ w → IsReady c.store w
      from_object o readable x is =
          let read = reads c tys k good o x.0 x.1 readable in
          subst (IsReady c.store) (ap (λ y. field_read y f) (sym read.is) ∙ is)
          (or_null_ready c.store (store.field_value read.object f) (λ u eu.
          ready-older c.classes read.from c.store read.older (field_type c.classes f) u (read.values.fields f u eu) (read.values.ready_fields f u eu)))

  element_ready : (p : Place) (v w : Value) (i : ℤ) → IsReference c.store v → element_value c p v i ≡ Ok w → IsReady c.store w
  element_ready p v w i reference h =
      let a = and_then_ok (readable_of c p v) (λ o. if is_index c o i then Ok (element_read (state_at c o) (index i)) else Err (undefined p kind.Index)) w h in
      let r = readable_ok c p v a.0 a.1 in
      let q = if_ok (is_index c a.0 i) (element_read (state_at c a.0) (index i)) (undefined p kind.Index) w a.2 in
      from_object a.0 r.1 (there v a.0 r.0 reference) q.1
    where
      there : (u : Value) (o : ℕ) → u ≡ value.Obj o → IsReference c.store u → (x : Object) × (slice_get c.store o ≡ Some x)
      there (value.Int i) o is r = elim r [ ]
      there (value.Bool b) o is r = elim r [ ]
      there value.Null o is r = absurd (let no : ⊥ = cc in no)
      there (value.Obj q) o is (Something {x} e) = let same : q ≡ o = cc in (x, subst (λ n. slice_get c.store n ≡ Some x) same e)

      from_object : (o : ℕ) → is_readable c o ≡ true → (x : Object) × (slice_get c.store o ≡ Some x) → element_read (state_at c o) (index i) ≡ w → IsReady c.store w
      from_object o readable x is =
          let read = reads c tys k good o x.0 x.1 readable in
          subst (IsReady c.store) (ap (λ y. element_read y (index i)) (sym read.is) ∙ is)
          (or_null_ready c.store (slice_get read.object.elements (index i)) (λ u eu.
          ready-older c.classes read.from c.store read.older (element_type read.object.class) u (read.values.elements (index i) u eu) (read.values.ready_elements (index i) u eu)))

  as_ready : (b : Bool) (v w : Value) → IsReady c.store v → (if b then v else value.Null) ≡ w → IsReady c.store w
  as_ready true v w h e = subst (IsReady c.store) e h
  as_ready false v w h e = subst (IsReady c.store) e (null_ready c.store)

-- a value of a field read, of an array's element
of_class_field : (cs : List ClassTree) (a : Option Ty) (d : Option DeclaredField) (t : Ty) → field_read_type cs a d ≡ Some t → is_reference a ≡ true
of_class_field cs a None t h = absurd (let no : ⊥ = cc in no)
of_class_field cs None (Some d) t h = absurd (let no : ⊥ = cc in no)
of_class_field cs (Some ty.Int) (Some d) t h = absurd (let no : ⊥ = cc in no)
of_class_field cs (Some ty.Bool) (Some d) t h = absurd (let no : ⊥ = cc in no)
of_class_field cs (Some ty.Null) (Some d) t h = absurd (let no : ⊥ = cc in no)
of_class_field cs (Some (ty.Ref u n)) (Some d) t h = refl

of_class_element : (cs : List ClassTree) (a : Option Ty) (t : Ty) → element_of cs a ≡ Some t → is_reference a ≡ true
of_class_element cs None t h = absurd (let no : ⊥ = cc in no)
of_class_element cs (Some ty.Int) t h = absurd (let no : ⊥ = cc in no)
of_class_element cs (Some ty.Bool) t h = absurd (let no : ⊥ = cc in no)
of_class_element cs (Some ty.Null) t h = absurd (let no : ⊥ = cc in no)
of_class_element cs (Some (ty.Ref u n)) t h = refl

typed_ready : (s : List Object) (v : Value) (a : Option Ty) → is_reference a ≡ true → ((t : Ty) → a ≡ Some t → IsReady s v) → IsReady s v
typed_ready s v None h k = absurd (false≢true h)
typed_ready s v (Some t) h k = k t refl

-- What the value of a typed expression refers to is ready, but for the `this` of a constructor.
pub value_ready : (e : ExprTree) (c : Setting) (tys : List Ty) (k : Bool) → IsGoodSetting c tys k → (t : Ty) (v : Value) → (k && is_this_object e) ≡ false → type_of c.classes tys e ≡ Some t → value_of e c ≡ Ok v → IsReady c.store v
value_ready (IntExpr p n) c tys k good t v apart is h = plain_ready c.classes c.store t v (ap is_class_type (sym (where_typed_some _ ty.Int t is).1)) (value_sound (IntExpr p n) c tys k good t v is h)
value_ready (BoolExpr p b) c tys k good t v apart is h = plain_ready c.classes c.store t v (ap is_class_type (sym (where_typed_some true ty.Bool t is).1)) (value_sound (BoolExpr p b) c tys k good t v is h)
value_ready (NullExpr p) c tys k good t v apart is h = let same : value.Null ≡ v = cc in subst (IsReady c.store) same (null_ready c.store)
value_ready (LocalExpr p x) c tys k good t v apart is h =
    let same : local_value c x ≡ v = cc in
    subst (IsReady c.store) same (or_null_ready c.store (slice_get c.locals x) (λ u eu. good.ready x u apart eu))
value_ready (FieldExpr p e f) c tys k good t w apart is h =
    let a = and_then_ok (value_of e c) (λ v. field_value c p v f) w h in
    field_ready c tys k good p a.0 w f
    (reference_typed c.classes c.store (type_of c.classes tys e) a.0 (of_class_field c.classes (type_of c.classes tys e) (slice_get (all_fields c.classes) f) t is) (λ u eu. value_sound e c tys k good u a.0 eu a.1)) a.2
value_ready (ElementExpr p x i) c tys k good t w apart is h =
    let a = and_then_ok (value_of x c) (λ v. and_then (value_of i c) (λ n. element_value c p v (as_int n))) w h in
    let b = and_then_ok (value_of i c) (λ n. element_value c p a.0 (as_int n)) w a.2 in
    element_ready c tys k good p a.0 w (as_int b.0)
    (reference_typed c.classes c.store (type_of c.classes tys x) a.0 (of_class_element c.classes (type_of c.classes tys x) t (if_some (is_int (type_of c.classes tys i)) _ t is)) (λ u eu. value_sound x c tys k good u a.0 eu a.1)) b.2
value_ready (LengthExpr p e) c tys k good t v apart is h = plain_ready c.classes c.store t v (ap is_class_type (sym (where_typed_some _ ty.Int t is).1)) (value_sound (LengthExpr p e) c tys k good t v is h)
value_ready (NegateExpr p e) c tys k good t v apart is h = plain_ready c.classes c.store t v (ap is_class_type (sym (where_typed_some _ ty.Int t is).1)) (value_sound (NegateExpr p e) c tys k good t v is h)
value_ready (NotExpr p e) c tys k good t v apart is h = plain_ready c.classes c.store t v (ap is_class_type (sym (where_typed_some _ ty.Bool t is).1)) (value_sound (NotExpr p e) c tys k good t v is h)
value_ready (BinaryExpr p o x y) c tys k good t v apart is h = plain_ready c.classes c.store t v (operation_plain o _ _ t is) (value_sound (BinaryExpr p o x y) c tys k good t v is h)
value_ready (ImpliesExpr p x y) c tys k good t v apart is h = plain_ready c.classes c.store t v (ap is_class_type (sym (where_typed_some _ ty.Bool t is).1)) (value_sound (ImpliesExpr p x y) c tys k good t v is h)
value_ready (IffExpr p x y) c tys k good t v apart is h = plain_ready c.classes c.store t v (ap is_class_type (sym (where_typed_some _ ty.Bool t is).1)) (value_sound (IffExpr p x y) c tys k good t v is h)
value_ready (IsExpr p e u) c tys k good t v apart is h = plain_ready c.classes c.store t v (ap is_class_type (sym (where_typed_some _ ty.Bool t is).1)) (value_sound (IsExpr p e u) c tys k good t v is h)
value_ready (AsExpr p e u) c tys k good t w apart is h =
    let a = and_then_ok (value_of e c) (λ v. Ok (if is_of c u v then v else value.Null)) w h in
    let b = where_typed_some (is_reference (type_of c.classes tys e) && is_class c.classes u) (class_type u) t is in
    as_ready c tys k good (is_of c u a.0) a.0 w (typed_ready c.store a.0 (type_of c.classes tys e) (and_parts (is_reference (type_of c.classes tys e)) _ b.0).0 (λ z ez. value_ready e c tys k good z a.0 apart ez a.1)) (ok_same (if is_of c u a.0 then a.0 else value.Null) w a.2)
value_ready (CastExpr p u n e) c tys k good t w apart is h =
    let a = and_then_ok (value_of e c) (λ v. cast c p u n v) w h in
    let b = where_typed_some (is_reference (type_of c.classes tys e) && is_class c.classes u) (class_type u) t is in
    subst (IsReady c.store) (cast_same c p u n a.0 w a.2) (typed_ready c.store a.0 (type_of c.classes tys e) (and_parts (is_reference (type_of c.classes tys e)) _ b.0).0 (λ z ez. value_ready e c tys k good z a.0 apart ez a.1))
value_ready (OldExpr p e) c tys k good t w apart is h = value_ready e (at_entry c) tys k (old_setting c tys k good) t w apart is h
value_ready (QuantifiedExpr p q name low high e) c tys k good t v apart is h =
    plain_ready c.classes c.store t v (ap is_class_type (sym (where_typed_some _ ty.Bool t is).1)) (value_sound (QuantifiedExpr p q name low high e) c tys k good t v is h)
value_ready (StateExpr p x e) c tys k good t v apart is h = plain_ready c.classes c.store t v (ap is_class_type (sym (where_typed_some _ ty.Bool t is).1)) (value_sound (StateExpr p x e) c tys k good t v is h)
value_ready (OwnersExpr p x a b) c tys k good t v apart is h = plain_ready c.classes c.store t v (ap is_class_type (sym (where_typed_some _ ty.Bool t is).1)) (value_sound (OwnersExpr p x a b) c tys k good t v is h)
value_ready (DefaultExpr p d) c tys k good t v apart is h = plain_ready c.classes c.store t v (ap is_class_type (sym (where_typed_some true ty.Bool t is).1)) (value_sound (DefaultExpr p d) c tys k good t v is h)
