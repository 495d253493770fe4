-- Type soundness of expressions: a value is of the static type.
use Rattle.std.proofs.Common.{◌≡◌, ℕ, ℤ, pos, negsuc, ◌<◌, List, length, Bool, true, false, not, ◌&&◌, ◌||◌, Option, Some, None, Ok, Err, refl, sym, ◌∙◌, ap, subst, arith}
use Rattle.std.specs.Prelude.{slice_get, if◌then◌else◌, unwrap_or, option_map, neg_ℤ, int_div, ◌+ℤ◌, ◌-ℤ◌, ◌*ℤ◌}
use Rattle.std.specs.Int.{int_gap}
use Rattle.std.proofs.lemmas.Bool.{false≢true, and_parts, ltb-true}
use Rattle.std.proofs.lemmas.Option.{slice_get_within}
use Rattle.ss_core.specs.declared.names.Place.{Place}
use Rattle.ss_core.specs.declared.names.Kind.TheVariants as kind
use Rattle.ss_core.specs.declared.names.Ty.{Ty}
use Rattle.ss_core.specs.declared.names.Ty.TheVariants as ty
use Rattle.ss_core.specs.declared.expr.Operator.{Operator}
use Rattle.ss_core.specs.declared.expr.Operator.TheVariants as op
use Rattle.ss_core.specs.Tree.{ClassTree, ExprTree, IntExpr, BoolExpr, NullExpr, LocalExpr, FieldExpr, ElementExpr, LengthExpr, NegateExpr, NotExpr, BinaryExpr, ImpliesExpr, IffExpr, IsExpr, AsExpr, CastExpr, OldExpr, QuantifiedExpr, StateExpr, OwnersExpr, DefaultExpr}
use Rattle.ss_core.specs.Chain.{sub, below, is_class, DeclaredField, all_fields}
use Rattle.ss_core.proofs.Chains.{sub-below, below_trans}
use Rattle.ss_core.specs.Types.{nullable}
use Rattle.ss_store_rules.specs.declared.Value.{Value}
use Rattle.ss_store_rules.specs.declared.Value.TheVariants as value
use Rattle.ss_store_rules.specs.Store.{Object}
use Rattle.ss_store_rules.specs.Numbers.{Outcome, undefined, fits, is_zero, whole}
use Rattle.ss_store_rules.specs.Reads.{as_int, as_bool, no_object, is_allocated, field_read, element_read}
use Rattle.ss_store_rules.specs.Values.{Setting, and_then, truth, local_value, at_entry, with_bound, object_of, class_at, length_at, state_at, is_readable, readable_of, field_value, is_index, index, element_value, length_value, is_of, cast, decides, applied, operation, word_object, default_holds, value_of}
use Rattle.ss_store_rules.specs.Changes.{is_array, element_type, type_of_field, field_type}
use Rattle.ss_store_rules.specs.Types.{class_type, is_int, is_reference, has_class, where_typed, field_read_type, element_of, operation_type, type_of}
use Rattle.ss_store_rules.specs.Good.{is_of_class, has_type, AreValues}
use Rattle.ss_store_rules.proofs.Objects.{same_object}
use Rattle.ss_machine_typed.specs.Older.{IsOlder}
use Rattle.ss_machine_typed.specs.Settings.{IsGoodSetting}
use Rattle.ss_machine_typed.proofs.Older.{older_self, has_type-older, there_is}
use Rattle.ss_machine_typed.proofs.Slots.{has_field, of_array}
use Rattle.ss_machine_typed.proofs.Outcomes.{and_then_ok, object_ok, ok_same, if_ok, readable_ok, where_typed_some, is_int_type, IsTruth, of_truth, truth_then, truth_if, truth_implication, truth_equivalence, truth_quantified, truth_typed, IsNumber, whole_number, quotient_number, remainder_number, number_typed, number_then, int_typed}

-- ---- types

-- null isn't asked here
pub plain_typed : (cs : List ClassTree) (s : List Object) (t : Ty) (v : Value) → has_type cs s (nullable t) v ≡ has_type cs s t v
plain_typed cs s ty.Int v = refl
plain_typed cs s ty.Bool v = refl
plain_typed cs s ty.Null v = refl
plain_typed cs s (ty.Ref t n) (value.Int i) = refl
plain_typed cs s (ty.Ref t n) (value.Bool b) = refl
plain_typed cs s (ty.Ref t n) (value.Obj o) = refl
plain_typed cs s (ty.Ref t n) value.Null = refl

pub class_of_type : (test : ℕ → Bool) (a : Option Ty) → has_class test a ≡ true → (t : ℕ) × (n : Bool) × (a ≡ Some (ty.Ref (record { 0 = t }) n)) × (test t ≡ true)
class_of_type test None h = absurd (false≢true h)
class_of_type test (Some ty.Int) h = absurd (false≢true h)
class_of_type test (Some ty.Bool) h = absurd (false≢true h)
class_of_type test (Some ty.Null) h = absurd (false≢true h)
class_of_type test (Some (ty.Ref t n)) h = (t.0, n, refl, h)

some_of : (cs : List ClassTree) (t : ℕ) (o : Option Object) → is_of_class cs t o ≡ true → (x : Object) × (o ≡ Some x) × (sub cs x.class t ≡ true)
some_of cs t None h = absurd (false≢true h)
some_of cs t (Some x) h = (x, refl, h)

-- the object to which a value of a class refers
pub object_typed : (cs : List ClassTree) (s : List Object) (t : ℕ) (n : Bool) (o : ℕ) → has_type cs s (ty.Ref (record { 0 = t }) n) (value.Obj o) ≡ true → (x : Object) × (slice_get s o ≡ Some x) × (sub cs x.class t ≡ true)
object_typed cs s t n o h = some_of cs t (slice_get s o) h

-- a value of a reference type is null, or refers to an object that is there
pub data IsReference (s : List Object) : Value → Type 0 where
  Nothing : IsReference s value.Null
  Something : {o : ℕ} {x : Object} → slice_get s o ≡ Some x → IsReference s (value.Obj o)

reference_value : (cs : List ClassTree) (s : List Object) (t : ℕ) (n : Bool) (v : Value) → has_type cs s (ty.Ref (record { 0 = t }) n) v ≡ true → IsReference s v
reference_value cs s t n (value.Int i) h = absurd (false≢true h)
reference_value cs s t n (value.Bool b) h = absurd (false≢true h)
reference_value cs s t n (value.Obj o) h = let r = object_typed cs s t n o h in Something r.1
reference_value cs s t n value.Null h = Nothing

null_value : (cs : List ClassTree) (s : List Object) (v : Value) → has_type cs s ty.Null v ≡ true → IsReference s v
null_value cs s (value.Int i) h = absurd (false≢true h)
null_value cs s (value.Bool b) h = absurd (false≢true h)
null_value cs s (value.Obj o) h = absurd (false≢true h)
null_value cs s value.Null h = Nothing

pub reference_typed : (cs : List ClassTree) (s : List Object) (a : Option Ty) (v : Value) → is_reference a ≡ true → ((t : Ty) → a ≡ Some t → has_type cs s t v ≡ true) → IsReference s v
reference_typed cs s None v h k = absurd (false≢true h)
reference_typed cs s (Some ty.Int) v h k = absurd (false≢true h)
reference_typed cs s (Some ty.Bool) v h k = absurd (false≢true h)
reference_typed cs s (Some ty.Null) v h k = null_value cs s v (k ty.Null refl)
reference_typed cs s (Some (ty.Ref t n)) v h k = reference_value cs s t.0 n v (k (ty.Ref t n) refl)

-- ---- reads

-- What is read of the object at o, which is x now: an object with good values, of the same class and length, from a store that is older.
pub record Reads (c : Setting) (o : ℕ) (x : Object) : Type 0 where
  pub from : List Object
  pub object : Object
  pub is : state_at c o ≡ object
  pub there : slice_get from o ≡ Some object
  pub values : AreValues c.classes from object
  pub older : IsOlder from c.store
  pub class : x.class ≡ object.class
  pub size : length x.elements ≡ length object.elements

module _ (c : Setting) (tys : List Ty) (k : Bool) (good : IsGoodSetting c tys k) where
  reads_if : (o : ℕ) (x : Object) → slice_get c.store o ≡ Some x → (b : Bool) → c.inside_old ≡ b → (not b || is_allocated c.entry o) ≡ true → Reads c o x
  reads_if o x e false b h = record {
    from = c.store;
    object = x;
    is = rw b (ap (λ y. unwrap_or y no_object) e);
    there = e;
    values = (good.store o x e).values;
    older = older_self c.store;
    class = refl;
    size = refl;
  }
  reads_if o x e true b h =
      let y = there_is c.entry o (ltb-true o (length c.entry) h) in
      let r = good.older o y.0 y.1 in
      let same = same_object c.store o x r.object e r.there in
      record {
        from = c.entry;
        object = y.0;
        is = rw b (ap (λ z. unwrap_or z no_object) y.1);
        there = y.1;
        values = (good.entry o y.0 y.1).values;
        older = good.older;
        class = ap (λ (z : Object). z.class) same ∙ r.class;
        size = ap (λ (z : Object). length z.elements) same ∙ r.size;
      }

  pub reads : (o : ℕ) (x : Object) → slice_get c.store o ≡ Some x → is_readable c o ≡ true → Reads c o x
  reads o x e h = reads_if o x e c.inside_old refl h

  -- ---- fields

  field_sound : (p : Place) (v w : Value) (t : ℕ) (n : Bool) (f : ℕ) (d : DeclaredField) → has_type c.classes c.store (ty.Ref (record { 0 = t }) n) v ≡ true → slice_get (all_fields c.classes) f ≡ Some d →
      below c.classes t d.class ≡ true → field_value c p v f ≡ Ok w → has_type c.classes c.store (nullable d.field.ty) w ≡ true
  field_sound p v w t n f d typed there b h =
      let a = and_then_ok (readable_of c p v) (λ o. Ok (field_read (state_at c o) f)) w h in
      let o = a.0 in
      let r = readable_ok c p v o a.1 in
      let x = object_typed c.classes c.store t n o (subst (λ u. has_type c.classes c.store (ty.Ref (record { 0 = t }) n) u ≡ true) r.0 typed) in
      let read = reads o x.0 x.1 r.1 in
      let up = below_trans c.classes good.chain x.0.class t d.class (sym (sub-below c.classes good.beside x.0.class t) ∙ x.2) b in
      let slot = has_field c.classes good.chain read.from read.object read.values f d there (rw (← read.class) up) in
      let is : field_read (state_at c o) f ≡ slot.0 = ap (λ y. field_read y f) read.is ∙ ap (λ z. unwrap_or z value.Null) slot.1 in
      let w_is : field_read (state_at c o) f ≡ w = ok_same (field_read (state_at c o) f) w a.2 in
      let typed_there = read.values.fields f slot.0 slot.1 in
      let typed_now = has_type-older c.classes read.from c.store read.older (field_type c.classes f) slot.0 typed_there in
      let ty_is : field_type c.classes f ≡ d.field.ty = ap type_of_field there in
      plain_typed c.classes c.store d.field.ty w ∙ subst (λ u. has_type c.classes c.store d.field.ty u ≡ true) (sym is ∙ w_is) (subst (λ u. has_type c.classes c.store u slot.0 ≡ true) ty_is typed_now)

  -- the type of a read field, where there is one
  pub field_read_sound : (p : Place) (v w : Value) (a : Option Ty) (f : ℕ) (d : Option DeclaredField) → slice_get (all_fields c.classes) f ≡ d → (t : Ty) → field_read_type c.classes a d ≡ Some t →
      ((u : Ty) → a ≡ Some u → has_type c.classes c.store u v ≡ true) → field_value c p v f ≡ Ok w → has_type c.classes c.store t w ≡ true
  field_read_sound p v w a f None there t is typed h = absurd (let no : ⊥ = cc in no)
  field_read_sound p v w a f (Some d) there t is typed h =
      let b = where_typed_some (has_class (λ u. below c.classes u d.class) a) (nullable d.field.ty) t is in
      let r = class_of_type (λ u. below c.classes u d.class) a b.0 in
      subst (λ u. has_type c.classes c.store u w ≡ true) b.1 (field_sound p v w r.0 r.1 f d (typed _ r.2) there r.3 h)

  -- ---- elements

  element_sound : (p : Place) (v w : Value) (i : ℤ) (t : ℕ) (n : Bool) → has_type c.classes c.store (ty.Ref (record { 0 = t }) n) v ≡ true → is_array c.classes t ≡ true → element_value c p v i ≡ Ok w →
      has_type c.classes c.store (element_type t) w ≡ true
  element_sound p v w i t n typed array h =
      let a = and_then_ok (readable_of c p v) (λ o. if is_index c o i then Ok (element_read (state_at c o) (index i)) else Err (undefined p kind.Index)) w h in
      let o = a.0 in
      let r = readable_ok c p v o a.1 in
      let x = object_typed c.classes c.store t n o (subst (λ u. has_type c.classes c.store (ty.Ref (record { 0 = t }) n) u ≡ true) r.0 typed) in
      let read = reads o x.0 x.1 r.1 in
      let q = if_ok (is_index c o i) (element_read (state_at c o) (index i)) (undefined p kind.Index) w a.2 in
      let within = index_within o x.0 x.1 i q.0 in
      let at = there_is read.object.elements (index i) (subst (λ l. index i < l) read.size within) in
      let is : element_read (state_at c o) (index i) ≡ at.0 = ap (λ y. element_read y (index i)) read.is ∙ ap (λ z. unwrap_or z value.Null) at.1 in
      let class : x.0.class ≡ t = of_array c.classes good.chain x.0.class t (good.store o x.0 x.1).values.class array (sym (sub-below c.classes good.beside x.0.class t) ∙ x.2) in
      let typed_now = has_type-older c.classes read.from c.store read.older (element_type read.object.class) at.0 (read.values.elements (index i) at.0 at.1) in
      subst (λ u. has_type c.classes c.store (element_type t) u ≡ true) (sym is ∙ q.1) (subst (λ u. has_type c.classes c.store (element_type u) at.0 ≡ true) (sym read.class ∙ class) typed_now)
    where
      index_within : (o : ℕ) (x : Object) → slice_get c.store o ≡ Some x → (i : ℤ) → is_index c o i ≡ true → index i < length x.elements
      index_within o x e (pos i) h = subst (λ (y : Option Object). i < length (unwrap_or y no_object).elements) e (ltb-true i (length_at c o) h)
      index_within o x e (negsuc i) h = absurd (false≢true h)

  pub element_read_sound : (p : Place) (v w : Value) (i : ℤ) (a : Option Ty) (t : Ty) → element_of c.classes a ≡ Some t → ((u : Ty) → a ≡ Some u → has_type c.classes c.store u v ≡ true) → element_value c p v i ≡ Ok w →
      has_type c.classes c.store t w ≡ true
  element_read_sound p v w i None t is typed h = absurd (let no : ⊥ = cc in no)
  element_read_sound p v w i (Some ty.Int) t is typed h = absurd (let no : ⊥ = cc in no)
  element_read_sound p v w i (Some ty.Bool) t is typed h = absurd (let no : ⊥ = cc in no)
  element_read_sound p v w i (Some ty.Null) t is typed h = absurd (let no : ⊥ = cc in no)
  element_read_sound p v w i (Some (ty.Ref u n)) t is typed h =
      let b = where_typed_some (is_array c.classes u.0) (element_type u.0) t is in
      subst (λ y. has_type c.classes c.store y w ≡ true) b.1 (element_sound p v w i u.0 n (typed (ty.Ref u n) refl) b.0 h)

  -- ---- lengths

  pub length_sound : (p : Place) (v w : Value) (a : Option Ty) → has_class (is_array c.classes) a ≡ true → ((u : Ty) → a ≡ Some u → has_type c.classes c.store u v ≡ true) → length_value c p v ≡ Ok w →
      has_type c.classes c.store ty.Int w ≡ true
  length_sound p v w a array typed h =
      let r = and_then_ok (object_of p v) (λ o. Ok (value.Int (pos (length_at c o)))) w h in
      let o = r.0 in
      let u = class_of_type (is_array c.classes) a array in
      let x = object_typed c.classes c.store u.0 u.1 o (subst (λ y. has_type c.classes c.store (ty.Ref (record { 0 = u.0 }) u.1) y ≡ true) (object_ok p v o r.1) (typed _ u.2)) in
      let len : length_at c o ≡ length x.0.elements = ap (λ (y : Option Object). length (unwrap_or y no_object).elements) x.1 in
      let same : value.Int (pos (length_at c o)) ≡ w = cc in
      rw (← same, len) ((good.store o x.0 x.1).values.short)

  -- ---- classes

  pub as_sound : (v : Value) (t : ℕ) → IsReference c.store v → has_type c.classes c.store (class_type t) (if is_of c t v then v else value.Null) ≡ true
  as_sound (value.Int i) t r = elim r [ ]
  as_sound (value.Bool b) t r = elim r [ ]
  as_sound value.Null t Nothing = refl
  as_sound (value.Obj o) t (Something {x} e) =
      let at : class_at c o ≡ x.class = ap (λ (y : Option Object). (unwrap_or y no_object).class) e in
      as_if (sub c.classes (class_at c o) t) refl
    where
      as_if : (b : Bool) → sub c.classes (class_at c o) t ≡ b → has_type c.classes c.store (class_type t) (if b then value.Obj o else value.Null) ≡ true
      as_if true is = rw e (subst (λ n. sub c.classes n t ≡ true) (ap (λ (y : Option Object). (unwrap_or y no_object).class) e) is)
      as_if false is = refl

  pub cast_sound : (p : Place) (v w : Value) (t : ℕ) (n : Bool) → IsReference c.store v → cast c p t n v ≡ Ok w → has_type c.classes c.store (class_type t) w ≡ true
  cast_sound p (value.Int i) w t n r h = elim r [ ]
  cast_sound p (value.Bool b) w t n r h = elim r [ ]
  cast_sound p value.Null w t true Nothing h = absurd (let no : ⊥ = cc in no)
  cast_sound p value.Null w t false Nothing h = let same : value.Null ≡ w = cc in rw (← same) refl
  cast_sound p (value.Obj o) w t n (Something {x} e) h =
      let r = if_ok (sub c.classes (class_at c o) t) (value.Obj o) (undefined p kind.Cast) w h in
      let of : is_of_class c.classes t (slice_get c.store o) ≡ true = rw e (subst (λ m. sub c.classes m t ≡ true) (ap (λ (y : Option Object). (unwrap_or y no_object).class) e) r.0) in
      subst (λ u. has_type c.classes c.store (class_type t) u ≡ true) r.1 of

  -- ---- locals

  pub local_sound : (x : ℕ) (o : Option Ty) → slice_get tys x ≡ o → (t : Ty) → option_map nullable o ≡ Some t → has_type c.classes c.store t (local_value c x) ≡ true
  local_sound x None e t h = absurd (let no : ⊥ = cc in no)
  local_sound x (Some u) e t h =
      let within = slice_get_within tys x u e in
      let count = good.count in
      let v = there_is c.locals x (omega (arith, within, count)) in
      let same : nullable u ≡ t = cc in
      subst (λ y. has_type c.classes c.store y (local_value c x) ≡ true) same
      (rw v.1 (plain_typed c.classes c.store u v.0 ∙ good.types x u v.0 e v.1))

-- ---- operations

bool_result : (cs : List ClassTree) (s : List Object) (b : Bool) (t : Ty) (r : Outcome) (v : Value) → where_typed b ty.Bool ≡ Some t → IsTruth r → r ≡ Ok v → has_type cs s t v ≡ true
bool_result cs s b t r v is h e = subst (λ u. has_type cs s u v ≡ true) (where_typed_some b ty.Bool t is).1 (truth_typed cs s r v h e)

int_result : (cs : List ClassTree) (s : List Object) (b : Bool) (t : Ty) (r : Outcome) (v : Value) → where_typed b ty.Int ≡ Some t → IsNumber r → r ≡ Ok v → has_type cs s t v ≡ true
int_result cs s b t r v is h e = subst (λ u. has_type cs s u v ≡ true) (where_typed_some b ty.Int t is).1 (number_typed cs s r v h e)

module _ (cs : List ClassTree) (s : List Object) (p : Place) (a b : Outcome) where
  truth_operation : (o : Operator) → ((v w : Value) → IsTruth (applied o p v w)) → IsTruth (operation o p a b)
  truth_operation o h = truth_then a _ (λ v. truth_if (decides o v) _ _ (of_truth (as_bool v)) (truth_then b _ (λ w. h v w)))

  operation_sound : (o : Operator) (x y : Option Ty) (t : Ty) (v : Value) → operation_type o x y ≡ Some t → ((u : Ty) (w : Value) → x ≡ Some u → a ≡ Ok w → has_type cs s u w ≡ true) → operation o p a b ≡ Ok v → has_type cs s t v ≡ true
  operation_sound op.Or x y t v is typed h = bool_result cs s _ t (operation op.Or p a b) v is (truth_operation op.Or (λ v w. of_truth _)) h
  operation_sound op.And x y t v is typed h = bool_result cs s _ t (operation op.And p a b) v is (truth_operation op.And (λ v w. of_truth _)) h
  operation_sound op.Equal x y t v is typed h = bool_result cs s _ t (operation op.Equal p a b) v is (truth_operation op.Equal (λ v w. of_truth _)) h
  operation_sound op.NotEqual x y t v is typed h = bool_result cs s _ t (operation op.NotEqual p a b) v is (truth_operation op.NotEqual (λ v w. of_truth _)) h
  operation_sound op.Less x y t v is typed h = bool_result cs s _ t (operation op.Less p a b) v is (truth_operation op.Less (λ v w. of_truth _)) h
  operation_sound op.LessEqual x y t v is typed h = bool_result cs s _ t (operation op.LessEqual p a b) v is (truth_operation op.LessEqual (λ v w. of_truth _)) h
  operation_sound op.Greater x y t v is typed h = bool_result cs s _ t (operation op.Greater p a b) v is (truth_operation op.Greater (λ v w. of_truth _)) h
  operation_sound op.GreaterEqual x y t v is typed h = bool_result cs s _ t (operation op.GreaterEqual p a b) v is (truth_operation op.GreaterEqual (λ v w. of_truth _)) h
  operation_sound op.Add x y t v is typed h = int_result cs s _ t (operation op.Add p a b) v is (number_then a _ (λ w _. number_then b _ (λ z _. whole_number p (as_int w +ℤ as_int z)))) h
  operation_sound op.Subtract x y t v is typed h = int_result cs s _ t (operation op.Subtract p a b) v is (number_then a _ (λ w _. number_then b _ (λ z _. whole_number p (as_int w -ℤ as_int z)))) h
  operation_sound op.Multiply x y t v is typed h = int_result cs s _ t (operation op.Multiply p a b) v is (number_then a _ (λ w _. number_then b _ (λ z _. whole_number p (as_int w *ℤ as_int z)))) h
  operation_sound op.Divide x y t v is typed h = int_result cs s _ t (operation op.Divide p a b) v is (number_then a _ (λ w _. number_then b _ (λ z _. quotient_number p (as_int w) (as_int z) (is_zero (as_int z))))) h
  operation_sound op.Remainder x y t v is typed h =
      let both = and_parts (is_int x) (is_int y) (where_typed_some (is_int x && is_int y) ty.Int t is).0 in
      int_result cs s _ t (operation op.Remainder p a b) v is
      (number_then a _ (λ w e. number_then b _ (λ z _. remainder_number p (as_int w) (as_int z) (is_zero (as_int z)) (fits (int_div (as_int w) (as_int z))) (int_typed cs s w (typed ty.Int w (is_int_type x both.0) e))))) h

-- ---- expressions

pub old_setting : (c : Setting) (tys : List Ty) (k : Bool) → IsGoodSetting c tys k → IsGoodSetting (at_entry c) tys k
old_setting c tys k good = record {
  chain = good.chain;
  beside = good.beside;
  store = good.store;
  entry = good.entry;
  older = good.older;
  count = good.count;
  types = good.types;
  ready = good.ready;
}

-- the type that a condition lets through
pub if_some : (b : Bool) (x : Option Ty) (t : Ty) → (if b then x else None) ≡ Some t → x ≡ Some t
if_some true x t h = h
if_some false x t h = absurd (let no : ⊥ = cc in no)

-- the value of a typed expression is of its type
pub value_sound : (e : ExprTree) (c : Setting) (tys : List Ty) (k : Bool) → IsGoodSetting c tys k → (t : Ty) (v : Value) → type_of c.classes tys e ≡ Some t → value_of e c ≡ Ok v → has_type c.classes c.store t v ≡ true
value_sound (IntExpr p n) c tys k good t v is h =
    let a = where_typed_some (fits n) ty.Int t is in
    let same : value.Int n ≡ v = cc in
    rw (← a.1, ← same) a.0
value_sound (BoolExpr p b) c tys k good t v is h = bool_result c.classes c.store true t (truth b) v is (of_truth b) h
value_sound (NullExpr p) c tys k good t v is h =
    let ty_is : ty.Null ≡ t = cc in
    let same : value.Null ≡ v = cc in
    rw (← ty_is, ← same) refl
value_sound (LocalExpr p x) c tys k good t v is h =
    let same : local_value c x ≡ v = cc in
    subst (λ w. has_type c.classes c.store t w ≡ true) same (local_sound c tys k good x (slice_get tys x) refl t is)
value_sound (FieldExpr p e f) c tys k good t w is h =
    let a = and_then_ok (value_of e c) (λ v. field_value c p v f) w h in
    field_read_sound c tys k good p a.0 w (type_of c.classes tys e) f (slice_get (all_fields c.classes) f) refl t is (λ u eu. value_sound e c tys k good u a.0 eu a.1) a.2
value_sound (ElementExpr p x i) c tys k good t w is h =
    let a = and_then_ok (value_of x c) (λ v. and_then (value_of i c) (λ n. element_value c p v (as_int n))) w h in
    let b = and_then_ok (value_of i c) (λ n. element_value c p a.0 (as_int n)) w a.2 in
    element_read_sound c tys k good p a.0 w (as_int b.0) (type_of c.classes tys x) t (if_some (is_int (type_of c.classes tys i)) _ t is) (λ u eu. value_sound x c tys k good u a.0 eu a.1) b.2
value_sound (LengthExpr p e) c tys k good t w is h =
    let a = and_then_ok (value_of e c) (λ v. length_value c p v) w h in
    let b = where_typed_some (has_class (is_array c.classes) (type_of c.classes tys e)) ty.Int t is in
    subst (λ u. has_type c.classes c.store u w ≡ true) b.1 (length_sound c tys k good p a.0 w (type_of c.classes tys e) b.0 (λ u eu. value_sound e c tys k good u a.0 eu a.1) a.2)
value_sound (NegateExpr p e) c tys k good t w is h =
    int_result c.classes c.store _ t (and_then (value_of e c) (λ v. whole p (neg_ℤ (as_int v)))) w is (number_then (value_of e c) _ (λ v _. whole_number p (neg_ℤ (as_int v)))) h
value_sound (NotExpr p e) c tys k good t w is h =
    bool_result c.classes c.store _ t (and_then (value_of e c) (λ v. truth (not (as_bool v)))) w is (truth_then (value_of e c) _ (λ v. of_truth _)) h
value_sound (BinaryExpr p o x y) c tys k good t w is h =
    operation_sound c.classes c.store p (value_of x c) (value_of y c) o (type_of c.classes tys x) (type_of c.classes tys y) t w is (λ u v eu ev. value_sound x c tys k good u v eu ev) h
value_sound (ImpliesExpr p x y) c tys k good t w is h = bool_result c.classes c.store _ t _ w is (truth_implication (value_of x c) (value_of y c)) h
value_sound (IffExpr p x y) c tys k good t w is h = bool_result c.classes c.store _ t _ w is (truth_equivalence (value_of x c) (value_of y c)) h
value_sound (IsExpr p e u) c tys k good t w is h =
    bool_result c.classes c.store _ t (and_then (value_of e c) (λ v. truth (is_of c u v))) w is (truth_then (value_of e c) _ (λ v. of_truth _)) h
value_sound (AsExpr p e u) c tys k good t w is h =
    let a = and_then_ok (value_of e c) (λ v. Ok (if is_of c u v then v else value.Null)) w h in
    let b = where_typed_some (is_reference (type_of c.classes tys e) && is_class c.classes u) (class_type u) t is in
    let reference = reference_typed c.classes c.store (type_of c.classes tys e) a.0 (and_parts (is_reference (type_of c.classes tys e)) _ b.0).0 (λ z ez. value_sound e c tys k good z a.0 ez a.1) in
    subst (λ z. has_type c.classes c.store z w ≡ true) b.1 (subst (λ z. has_type c.classes c.store (class_type u) z ≡ true) (ok_same (if is_of c u a.0 then a.0 else value.Null) w a.2) (as_sound c tys k good a.0 u reference))
value_sound (CastExpr p u n e) c tys k good t w is h =
    let a = and_then_ok (value_of e c) (λ v. cast c p u n v) w h in
    let b = where_typed_some (is_reference (type_of c.classes tys e) && is_class c.classes u) (class_type u) t is in
    let reference = reference_typed c.classes c.store (type_of c.classes tys e) a.0 (and_parts (is_reference (type_of c.classes tys e)) _ b.0).0 (λ z ez. value_sound e c tys k good z a.0 ez a.1) in
    subst (λ z. has_type c.classes c.store z w ≡ true) b.1 (cast_sound c tys k good p a.0 w u n reference a.2)
value_sound (OldExpr p e) c tys k good t w is h = value_sound e (at_entry c) tys k (old_setting c tys k good) t w is h
value_sound (QuantifiedExpr p q name low high e) c tys k good t w is h =
    bool_result c.classes c.store _ t (value_of (QuantifiedExpr p q name low high e) c) w is (truth_then (value_of low c) _ (λ v. truth_then (value_of high c) _ (λ z. truth_quantified q (λ i. value_of e (with_bound c i)) (int_gap (as_int v) (as_int z)) (as_int v)))) h
value_sound (StateExpr p x e) c tys k good t w is h =
    bool_result c.classes c.store _ t (value_of (StateExpr p x e) c) w is (truth_then (value_of e c) _ (λ v. truth_then (word_object c p x v) _ (λ o. of_truth _))) h
value_sound (OwnersExpr p x a b) c tys k good t w is h =
    bool_result c.classes c.store _ t (value_of (OwnersExpr p x a b) c) w is
    (truth_then (value_of a c) _ (λ v. truth_then (value_of b c) _ (λ z. truth_then (readable_of c p v) _ (λ o. truth_then (readable_of c p z) _ (λ q. of_truth _))))) h
value_sound (DefaultExpr p d) c tys k good t w is h = bool_result c.classes c.store true t (truth (default_holds c d)) w is (of_truth _) h
