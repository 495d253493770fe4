-- Non-null soundness of expressions: one whose static type is non-null has no value, or one that isn't null.
use Rattle.std.proofs.Common.{◌≡◌, ℕ, List, length, Bool, true, false, ◌&&◌, ◌||◌, not, Option, Some, None, Ok, refl, sym, ◌∙◌, ap, subst, inl, inr, ◌⊎◌, ⊎_elim}
use Rattle.std.specs.Prelude.{slice_get, if◌then◌else◌, unwrap_or}
use Rattle.std.proofs.lemmas.Bool.{false≢true, and_parts, and_right, or_cases, cases_Bool, eqb-true, leb-true, ltb-true}
use Rattle.std.proofs.lemmas.Option.{slice_get_past}
use Rattle.ss_core.specs.declared.names.Place.{Place}
use Rattle.ss_core.specs.declared.names.Kind.TheVariants as kind
use Rattle.ss_core.specs.declared.names.Ty.{Ty}
use Rattle.ss_core.specs.declared.names.Ty.TheVariants as ty
use Rattle.ss_core.specs.Tree.{ExprTree, IntExpr, BoolExpr, NullExpr, LocalExpr, FieldExpr, ElementExpr, LengthExpr, NegateExpr, NotExpr, BinaryExpr, ImpliesExpr, IffExpr, IsExpr, AsExpr, CastExpr, OldExpr, QuantifiedExpr, StateExpr, OwnersExpr, DefaultExpr, BodyTree}
use Rattle.ss_core.specs.Chain.{sub, below, DeclaredField, all_fields}
use Rattle.ss_core.proofs.Chains.{sub-below, below_trans}
use Rattle.ss_core.specs.Types.{nullable}
use Rattle.ss_store_rules.specs.declared.Value.{Value}
use Rattle.ss_store_rules.specs.declared.Value.TheVariants as value
use Rattle.ss_store_rules.specs.Store.{Object}
use Rattle.ss_store_rules.specs.Store as store
use Rattle.ss_store_rules.specs.Numbers.{undefined}
use Rattle.ss_store_rules.specs.Reads.{no_object, object_at, is_allocated, field_read}
use Rattle.ss_store_rules.specs.Values.{Setting, local_value, at_entry, class_at, state_at, is_readable, readable_of, field_value, is_of, cast, value_of}
use Rattle.ss_store_rules.specs.Changes.{field_type}
use Rattle.ss_store_rules.specs.Types.{is_reference, has_class, field_read_type, type_of}
use Rattle.ss_store_rules.specs.Locals.{local_types, is_bound}
use Rattle.ss_store_rules.specs.Assigned.{reads_assigned}
use Rattle.ss_store_rules.specs.NonNull.{Known, is_non_null_type, is_this_object, is_never_null}
use Rattle.ss_store_rules.specs.Good.{has_type, is_non_null}
use Rattle.ss_machine_typed.specs.Settings.{IsGoodSetting}
use Rattle.ss_machine_typed.proofs.Outcomes.{and_then_ok, ok_same, if_ok, readable_ok, where_typed_some}
use Rattle.ss_machine_typed.proofs.Older.{there_is}
use Rattle.ss_machine_typed.proofs.Slots.{has_field}
use Rattle.ss_machine_typed.proofs.Sound.{class_of_type, object_typed, Reads, reads, old_setting, value_sound}
use Rattle.ss_machine_typed.proofs.Ready.{cast_same, value_ready}
use Rattle.ss_machine_good.specs.Known.{IsNotNull, IsTrueOf, AreAssigned, WasReady}
use Rattle.ss_store_rules.proofs.Owners.{not_true}

-- ---- locals

bound_untyped : (b : BodyTree) (x : ℕ) → is_bound b x ≡ true → is_non_null_type (slice_get (local_types b) x) ≡ false
bound_untyped b x h = let past = slice_get_past (local_types b) x (leb-true (length (local_types b)) x h) in ap is_non_null_type past

local_not_null : (b : BodyTree) (xs : ℕ → Bool) (k : Known) (constructs : Bool) (c : Setting) (x : ℕ) → AreAssigned b xs c → IsTrueOf constructs k c → (xs x || is_bound b x) ≡ true →
    (is_non_null_type (slice_get (local_types b) x) || k.facts x) ≡ true → IsNotNull (local_value c x)
local_not_null b xs k constructs c x assigned true_ reads h = ⊎_elim
    (λ typed. ⊎_elim
    (λ is. assigned x is typed)
    (λ bound. absurd (false≢true (sym (bound_untyped b x bound) ∙ typed)))
    (or_cases (xs x) (is_bound b x) reads))
    (λ fact. true_.facts x fact)
    (or_cases (is_non_null_type (slice_get (local_types b) x)) (k.facts x) h)

-- ---- `this`

-- `this` as another class is `this` or null
this_value : (e : ExprTree) (c : Setting) (v : Value) → is_this_object e ≡ true → value_of e c ≡ Ok v → (v ≡ local_value c 0) ⊎ (v ≡ value.Null)
this_value (LocalExpr p x) c v h e = inl (sym (ok_same (local_value c x) v e) ∙ ap (local_value c) (eqb-true x 0 h))
this_value (AsExpr p e t) c w h is =
    let a = and_then_ok (value_of e c) (λ v. Ok (if is_of c t v then v else value.Null)) w is in
    either (is_of c t a.0) (ok_same (if is_of c t a.0 then a.0 else value.Null) w a.2) (this_value e c a.0 h a.1)
  where
    either : {u : Value} (b : Bool) → (if b then u else value.Null) ≡ w → (u ≡ local_value c 0) ⊎ (u ≡ value.Null) → (w ≡ local_value c 0) ⊎ (w ≡ value.Null)
    either {u} true e r = ⊎_elim (λ l. inl (sym e ∙ l)) (λ n. inr (sym e ∙ n)) r
    either {u} false e r = inr (sym e)
this_value (CastExpr p t n e) c w h is =
    let a = and_then_ok (value_of e c) (λ v. cast c p t n v) w is in
    subst (λ u. (u ≡ local_value c 0) ⊎ (u ≡ value.Null)) (cast_same c p t n a.0 w a.2) (this_value e c a.0 h a.1)
this_value (OldExpr p e) c v h is = this_value e (at_entry c) v h is
this_value (IntExpr p n) c v h e = absurd (false≢true h)
this_value (BoolExpr p b) c v h e = absurd (false≢true h)
this_value (NullExpr p) c v h e = absurd (false≢true h)
this_value (FieldExpr p a f) c v h e = absurd (false≢true h)
this_value (ElementExpr p a i) c v h e = absurd (false≢true h)
this_value (LengthExpr p a) c v h e = absurd (false≢true h)
this_value (NegateExpr p a) c v h e = absurd (false≢true h)
this_value (NotExpr p a) c v h e = absurd (false≢true h)
this_value (BinaryExpr p o a b) c v h e = absurd (false≢true h)
this_value (ImpliesExpr p a b) c v h e = absurd (false≢true h)
this_value (IffExpr p a b) c v h e = absurd (false≢true h)
this_value (IsExpr p a t) c v h e = absurd (false≢true h)
this_value (QuantifiedExpr p q name low high a) c v h e = absurd (false≢true h)
this_value (StateExpr p w a) c v h e = absurd (false≢true h)
this_value (OwnersExpr p w a b) c v h e = absurd (false≢true h)
this_value (DefaultExpr p d) c v h e = absurd (false≢true h)

-- ---- fields

-- the static type of what a field is read from
read_from : (c : Setting) (a : Option Ty) (d : Option DeclaredField) (t : Ty) → field_read_type c.classes a d ≡ Some t → (g : DeclaredField) × (d ≡ Some g) × (has_class (λ u. below c.classes u g.class) a ≡ true)
read_from c a None t h = absurd (let none : ⊥ = cc in none)
read_from c a (Some g) t h = (g, refl, (where_typed_some (has_class (λ u. below c.classes u g.class) a) (nullable g.field.ty) t h).0)

module _ (c : Setting) (tys : List Ty) (constructs : Bool) (good : IsGoodSetting c tys constructs) where
  -- A read field isn't null, where no non-null field of the object is.
  field_not_null : (p : Place) (e : ExprTree) (f : ℕ) (t : Ty) (w : Value) → type_of c.classes tys (FieldExpr p e f) ≡ Some t → value_of (FieldExpr p e f) c ≡ Ok w → is_non_null (field_type c.classes f) ≡ true →
      ((v : Value) (o : ℕ) (x : Object) → value_of e c ≡ Ok v → v ≡ value.Obj o → slice_get c.store o ≡ Some x → (read : Reads c o x) → is_readable c o ≡ true → store.field_value read.object f ≡ Some value.Null → is_non_null (field_type c.classes f) ≡ false) → IsNotNull w
  field_not_null p e f t w is h typed whole null =
      let a = and_then_ok (value_of e c) (λ v. field_value c p v f) w h in
      let b = and_then_ok (readable_of c p a.0) (λ o. Ok (field_read (state_at c o) f)) w a.2 in
      let o = b.0 in
      let r = readable_ok c p a.0 o b.1 in
      let d = read_from c (type_of c.classes tys e) (slice_get (all_fields c.classes) f) t is in
      let u = class_of_type (λ n. below c.classes n d.0.class) (type_of c.classes tys e) d.2 in
      let x = object_typed c.classes c.store u.0 u.1 o (subst (λ n. has_type c.classes c.store (ty.Ref (record { 0 = u.0 }) u.1) n ≡ true) r.0 (value_sound e c tys constructs good _ a.0 u.2 a.1)) in
      let read = reads c tys constructs good o x.0 x.1 r.1 in
      let up = below_trans c.classes good.chain x.0.class u.0 d.0.class (sym (sub-below c.classes good.beside x.0.class u.0) ∙ x.2) u.3 in
      let slot = has_field c.classes good.chain read.from read.object read.values f d.0 d.1 (rw (← read.class) up) in
      let at : field_read (state_at c o) f ≡ slot.0 = ap (λ y. field_read y f) read.is ∙ ap (λ z. unwrap_or z value.Null) slot.1 in
      let w_is : slot.0 ≡ value.Null = sym at ∙ ok_same (field_read (state_at c o) f) w b.2 ∙ null in
      false≢true (sym (whole a.0 o x.0 a.1 r.0 x.1 read r.1 (slot.1 ∙ ap Some w_is)) ∙ typed)

-- what an expression is read in, inside `old`
old_true : (constructs : Bool) (k : Known) (c : Setting) → IsTrueOf constructs k c → IsTrueOf constructs k (at_entry c)
old_true constructs k c is = record {
  facts = is.facts;
  sides = λ x v e. let s = is.sides x v e in record { facts = s.facts; there = s.there; so = s.so };
  fields = is.fields;
}

module _ (b : BodyTree) (xs : ℕ → Bool) (k : Known) where
  -- the object that is read is the one now, or the one at the entry
  read_now : (c : Setting) (o : ℕ) (x : Object) (read : Reads c o x) → slice_get c.store o ≡ Some x → c.inside_old ≡ false → read.object ≡ x
  read_now c o x read e old = sym read.is ∙ now c.inside_old old
    where
      now : (d : Bool) → d ≡ false → object_at (if d then c.entry else c.store) o ≡ x
      now d is = rw is (ap (λ z. unwrap_or z no_object) e)

  read_then : (c : Setting) (o : ℕ) (x : Object) (read : Reads c o x) → c.inside_old ≡ true → (y : Object) → slice_get c.entry o ≡ Some y → read.object ≡ y
  read_then c o x read old y e = sym read.is ∙ then_ c.inside_old old
    where
      then_ : (d : Bool) → d ≡ true → object_at (if d then c.entry else c.store) o ≡ y
      then_ d is = rw is (ap (λ z. unwrap_or z no_object) e)

  -- in a body that is no constructor each object that is read is ready
  read_ready : (c : Setting) (o : ℕ) (x : Object) (read : Reads c o x) → WasReady b.flags.ctor c → b.flags.ctor ≡ false → slice_get c.store o ≡ Some x → x.ready ≡ true → (old : Bool) → c.inside_old ≡ old → is_readable c o ≡ true → read.object.ready ≡ true
  read_ready c o x read was plain_ e ready false is readable = ap (λ (z : Object). z.ready) (read_now c o x read e is) ∙ ready
  read_ready c o x read was plain_ e ready true is readable =
      let at : is_allocated c.entry o ≡ true = ⊎_elim (λ n. absurd (false≢true (sym (ap not is) ∙ n))) (λ a. a) (or_cases (not c.inside_old) (is_allocated c.entry o) readable) in
      let y = there_is c.entry o (ltb-true o (length c.entry) at) in
      ap (λ (z : Object). z.ready) (read_then c o x read is y.0 y.1) ∙ was plain_ o y.0 x y.1 e ready

  -- the object of an expression other than `this` is ready
  object_ready : (c : Setting) → IsGoodSetting c (local_types b) b.flags.ctor → (e : ExprTree) (a : Option Ty) → type_of c.classes (local_types b) e ≡ a → is_reference a ≡ true → (b.flags.ctor && is_this_object e) ≡ false →
      (v : Value) (o : ℕ) (x : Object) → value_of e c ≡ Ok v → v ≡ value.Obj o → slice_get c.store o ≡ Some x → x.ready ≡ true
  object_ready c good e None ea r no_this v o x ev is ex = absurd (false≢true r)
  object_ready c good e (Some t) ea r no_this v o x ev is ex = value_ready e c (local_types b) b.flags.ctor good t v no_this ea ev o x is ex

  class_reference : (test : ℕ → Bool) (a : Option Ty) → has_class test a ≡ true → is_reference a ≡ true
  class_reference test a h = let u = class_of_type test a h in rw (u.2) refl

  -- the fields of what is read in a body that is no constructor
  plain_whole : (c : Setting) → IsGoodSetting c (local_types b) b.flags.ctor → WasReady b.flags.ctor c → b.flags.ctor ≡ false → (e : ExprTree) (f : ℕ) → is_reference (type_of c.classes (local_types b) e) ≡ true →
      (v : Value) (o : ℕ) (x : Object) → value_of e c ≡ Ok v → v ≡ value.Obj o → slice_get c.store o ≡ Some x → (read : Reads c o x) → is_readable c o ≡ true → store.field_value read.object f ≡ Some value.Null → is_non_null (field_type c.classes f) ≡ false
  plain_whole c good was plain_ e f r v o x ev is ex read readable null =
      read.values.non_null
      (read_ready c o x read was plain_ ex (object_ready c good e (type_of c.classes (local_types b) e) refl r (rw plain_ refl) v o x ev is ex) c.inside_old refl readable)
      f null

  this_whole : (c : Setting) → IsGoodSetting c (local_types b) b.flags.ctor → IsTrueOf b.flags.ctor k c → b.flags.ctor ≡ true → c.inside_old ≡ false → (e : ExprTree) (f : ℕ) → is_reference (type_of c.classes (local_types b) e) ≡ true →
      (not (is_this_object e) || k.fields f) ≡ true → (v : Value) (o : ℕ) (x : Object) → value_of e c ≡ Ok v → v ≡ value.Obj o → slice_get c.store o ≡ Some x → (read : Reads c o x) → store.field_value read.object f ≡ Some value.Null →
      is_non_null (field_type c.classes f) ≡ false
  this_whole c good true_ ctor now e f r h v o x ev is ex read null =
      let same = read_now c o x read ex now in
      ⊎_elim
      (λ this.
      ⊎_elim
      (λ fields. ⊎_elim
      (λ l. true_.fields ctor f fields o x (sym l ∙ is) ex (ap (λ z. store.field_value z f) (sym same) ∙ null))
      (λ n. let both : value.Null ≡ value.Obj o = sym n ∙ is in absurd (let none : ⊥ = cc in none))
      (this_value e c v this ev))
      (λ none. none)
      (⊎_elim (λ other. absurd (false≢true (sym (ap not this) ∙ other))) (λ fields. inl fields) (or_cases (not (is_this_object e)) (k.fields f) h)))
      (λ other.
      read.values.non_null (ap (λ (z : Object). z.ready) same ∙ object_ready c good e (type_of c.classes (local_types b) e) refl r (and_right b.flags.ctor (is_this_object e) other) v o x ev is ex) f null)
      (cases_Bool (is_this_object e))

  cast_not_null : (c : Setting) (p : Place) (t : ℕ) (n : Bool) (v w : Value) → n ≡ true → cast c p t n v ≡ Ok w → IsNotNull w
  cast_not_null c p t n (value.Obj o) w is h null =
      let same = (if_ok (sub c.classes (class_at c o) t) (value.Obj o) (undefined p kind.Cast) w h).1 in
      let both : value.Obj o ≡ value.Null = same ∙ null in
      cc
  cast_not_null c p t true (value.Int i) w is h null = cc
  cast_not_null c p t true (value.Bool z) w is h null = cc
  cast_not_null c p t true value.Null w is h null = cc
  cast_not_null c p t false (value.Int i) w is h null = absurd (false≢true is)
  cast_not_null c p t false (value.Bool z) w is h null = absurd (false≢true is)
  cast_not_null c p t false value.Null w is h null = absurd (false≢true is)

  -- an expression of non-null static type has no value or one that isn't null
  pub never_null : (e : ExprTree) (c : Setting) → IsGoodSetting c (local_types b) b.flags.ctor → WasReady b.flags.ctor c → AreAssigned b xs c → IsTrueOf b.flags.ctor k c → (old : Bool) → c.inside_old ≡ old → reads_assigned b xs e ≡ true →
      (t : Ty) → type_of c.classes (local_types b) e ≡ Some t → is_never_null (record { classes = c.classes; locals = local_types b; constructs = b.flags.ctor }) k old e ≡ true → (v : Value) → value_of e c ≡ Ok v → IsNotNull v
  never_null (LocalExpr p x) c good was assigned true_ old is reads_ t typed h v ev =
      subst IsNotNull (ok_same (local_value c x) v ev) (local_not_null b xs k b.flags.ctor c x assigned true_ reads_ h)
  never_null (FieldExpr p e f) c good was assigned true_ old is reads_ t typed h w ew =
      let parts = and_parts (is_non_null (field_type c.classes f)) _ h in
      let from = read_from c (type_of c.classes (local_types b) e) (slice_get (all_fields c.classes) f) t typed in
      let r = class_reference (λ u. below c.classes u from.0.class) (type_of c.classes (local_types b) e) from.2 in
      field_not_null c (local_types b) b.flags.ctor good p e f t w typed ew parts.0
      (λ v o x ev vo ex read readable null. ⊎_elim
      (λ plain_. plain_whole c good was (not_true b.flags.ctor plain_) e f r v o x ev vo ex read readable null)
      (λ rest.
      let q = and_parts (not old) (not (is_this_object e) || k.fields f) rest in
      ⊎_elim
      (λ ctor. this_whole c good true_ ctor (is ∙ not_true old q.0) e f r q.1 v o x ev vo ex read null)
      (λ plain_. plain_whole c good was plain_ e f r v o x ev vo ex read readable null)
      (cases_Bool b.flags.ctor))
      (or_cases (not b.flags.ctor) (not old && (not (is_this_object e) || k.fields f)) parts.1))
  never_null (CastExpr p u n e) c good was assigned true_ old is reads_ t typed h w ew =
      let a = and_then_ok (value_of e c) (λ v. cast c p u n v) w ew in cast_not_null c p u n a.0 w h a.2
  never_null (OldExpr p e) c good was assigned true_ old is reads_ t typed h v ev =
      never_null e (at_entry c) (old_setting c (local_types b) b.flags.ctor good) was assigned (old_true b.flags.ctor k c true_) true refl (and_parts true (reads_assigned b xs e) reads_).1 t typed h v ev
  never_null (IntExpr p n) c good was assigned true_ old is reads_ t typed h v ev = absurd (false≢true h)
  never_null (BoolExpr p d) c good was assigned true_ old is reads_ t typed h v ev = absurd (false≢true h)
  never_null (NullExpr p) c good was assigned true_ old is reads_ t typed h v ev = absurd (false≢true h)
  never_null (ElementExpr p a i) c good was assigned true_ old is reads_ t typed h v ev = absurd (false≢true h)
  never_null (LengthExpr p a) c good was assigned true_ old is reads_ t typed h v ev = absurd (false≢true h)
  never_null (NegateExpr p a) c good was assigned true_ old is reads_ t typed h v ev = absurd (false≢true h)
  never_null (NotExpr p a) c good was assigned true_ old is reads_ t typed h v ev = absurd (false≢true h)
  never_null (BinaryExpr p o x y) c good was assigned true_ old is reads_ t typed h v ev = absurd (false≢true h)
  never_null (ImpliesExpr p x y) c good was assigned true_ old is reads_ t typed h v ev = absurd (false≢true h)
  never_null (IffExpr p x y) c good was assigned true_ old is reads_ t typed h v ev = absurd (false≢true h)
  never_null (IsExpr p a u) c good was assigned true_ old is reads_ t typed h v ev = absurd (false≢true h)
  never_null (AsExpr p a u) c good was assigned true_ old is reads_ t typed h v ev = absurd (false≢true h)
  never_null (QuantifiedExpr p q name low high a) c good was assigned true_ old is reads_ t typed h v ev = absurd (false≢true h)
  never_null (StateExpr p w a) c good was assigned true_ old is reads_ t typed h v ev = absurd (false≢true h)
  never_null (OwnersExpr p w x y) c good was assigned true_ old is reads_ t typed h v ev = absurd (false≢true h)
  never_null (DefaultExpr p d) c good was assigned true_ old is reads_ t typed h v ev = absurd (false≢true h)
