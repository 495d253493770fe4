-- What fits in a body whose `this` has all its fields fits in a constructor that reads only fields of `this` which have their values.
use Rattle.std.proofs.Common.{◌≡◌, ℕ, List, [], ◌∷◌, Bool, true, false, Option, Some, refl, ap, ⊎_elim}
use Rattle.std.specs.Prelude.{not, ◌==◌, ◌&&◌, ◌||◌, is_some}
use Rattle.std.proofs.lemmas.Bool.{and_parts, and_from, or_left, or_right, false≢true}
use Rattle.ss_core.specs.declared.names.Place.{Place}
use Rattle.ss_core.specs.declared.names.Ty.{Ty}
use Rattle.ss_core.specs.Tree as core
use Rattle.ss_core.specs.Tree.{NullExpr, LocalExpr, AsExpr, CastExpr, OldExpr, Dispatched, Static, BaseConstructor}
use Rattle.ss_core.specs.Chain.{above}
use Rattle.ss_typed.specs.Tree.{ExprTree, IntOf, BoolOf, NullOf, ThisOf, LocalOf, ResultOf, BoundOf, IffOf, ImpliesOf, BinaryOf, IsOf, AsOf, NegateOf, NotOf, CastOf, FieldOf, ElementOf, LengthOf, OldOf, QuantifiedOf, StateOf, OwnersOf, NewOf, NewArrayOf, CallOf, StaticOf, BaseOf, Arguments, NoMore, Argument, BodyTree, TypedTree}
use Rattle.ss_typed.specs.Types.{type_of}
use Rattle.ss_paths.specs.Fields as fields
use Rattle.ss_typed.specs.Shapes.{is_this}
use Rattle.ss_nonnull_rules.specs.Facts.{is_null}
use Rattle.ss_nonnull_rules.specs.Faults.{parameters, class_of, method_of, constructor_parameters}
use Rattle.ss_delayed_rules.specs.Escapes.{Use, ForFields, NotAtAll, may_read, uses, uses_each}
use Rattle.ss_typed.specs.Lookups as lookups
use Rattle.ss_expand_rules.specs.Program.{above_of, method_at, Constructor, number_of, number_of_written}
use Rattle.ss_typed.specs.Lookups.{body_at, param_types_in}
use Rattle.ss_expand_rules.specs.Numbers.{plain}
use Rattle.ss_expand_rules.specs.Lifting.{static_class}
use Rattle.ss_expand_rules.specs.Bodies.{temporary_count}
use Rattle.ss_store_rules.specs.Changes.{field_type}
use Rattle.ss_store_rules.specs.Good.{is_non_null}
use Rattle.ss_store_rules.specs.Typed.{constructor_of, callee_of}
use Rattle.ss_store_rules.specs.NonNull.{is_this_object}
use Rattle.ss_expand_formed.proofs.Facts.{none_left, not_true}
use Rattle.ss_expand_formed.proofs.Reading.{locals_pass, args_pass}
use Rattle.ss_expand_formed.proofs.Uses.{is_other, Fine, AreFine, fine, two_fine, own_or_fine, stays, plain_stays}
use Rattle.ss_expand_formed.proofs.Fine.{after_this}
use Rattle.ss_expand_formed.specs.Fitting.{Frame, implied, enters_with, gives, reads_set, is_own_local, fits, all_fit, base_fits}
use Rattle.ss_expand_formed.specs.Bodies.{body_frame, method_frame}
use Rattle.ss_expand_formed.proofs.Fit.{Context, Fit, Fits}

-- ---- what isn't `this`

other_field : (e : core.ExprTree) → stays ForFields e ≡ true → is_this_object e ≡ false
other_field (LocalExpr p x) h = not_true (x == 0) h
other_field (AsExpr p e t) h = other_field e h
other_field (CastExpr p t non_null e) h = other_field e h
other_field (OldExpr p e) h = other_field e h
other_field e h = refl

other_at_all : (e : core.ExprTree) → stays NotAtAll e ≡ true → is_this_object e ≡ false
other_at_all (LocalExpr p x) h = not_true (x == 0) h
other_at_all (AsExpr p e t) h = other_at_all e h
other_at_all (CastExpr p t non_null e) h = other_at_all e h
other_at_all (OldExpr p e) h = other_at_all e h
other_at_all e h = refl

no_this : (u : Use) (e : core.ExprTree) → stays u e ≡ true → is_this_object e ≡ false
no_this ForFields e h = other_field e h
no_this NotAtAll e h = other_at_all e h

no_base : (u : Use) (q : Place) (m : ℕ) (t : Option Ty) (es : Arguments) → uses u (BaseOf q m t es) ≡ [] → ⊥
no_base u q m t es h = let e : q ∷ uses_each u es ≡ [] = h in cc

module _ (c : core.CoreTree) (p : TypedTree) (b : BodyTree) (bs : List BodyTree) (own : ℕ → Bool) (static : b.flags.is_static ≡ false) (u : Use) (C : List core.ClassTree) (x : Context) where
  -- where `this` has all its fields, and where it has these
  abbrev pub free : Frame
  free = method_frame c p b bs

  abbrev pub held : Frame
  held = body_frame c p b bs own false

  -- a field that is read of `this` has its value
  abbrev pub Owns : Type 0
  Owns = (q r : Place) (t f : ℕ) (v : Ty) → may_read u ≡ true → Fit p C x 0 (FieldOf q (ThisOf r t) f v) → own f ≡ true

  not_this : (e : ExprTree) → Fine u e → is_this_object (plain free.numbers e) ≡ false
  not_this e h = no_this u (plain free.numbers e) (plain_stays free.numbers (after_this b static (temporary_count p b)) u e h)

  module _ (owns : Owns) where
    abbrev Where : ExprTree → Type 0
    Where e = may_read u ≡ true → Fit p C x 0 e

    reads_this : (q r : Place) (t f : ℕ) (v : Ty) → may_read u ≡ true → Where (FieldOf q (ThisOf r t) f v) → reads_set held (ThisOf r t) f ≡ true
    reads_this q r t f v m g = or_left _ _ (or_left _ _ (or_right (not held.body.flags.ctor) _ (owns q r t f v m (g m))))

    reads_other : (e : ExprTree) (f : ℕ) → Fine u e → reads_set held e f ≡ true
    reads_other e f h = or_right _ _ (ap not (not_this e h))

    pub read_own : (q : Place) (e : ExprTree) (k : ℕ) (t : Ty) → may_read u ≡ true → is_this e ≡ true → Where (FieldOf q e k t) → fits free e ≡ true → (reads_set held e k && fits held e) ≡ true
    read_own q (ThisOf r v) k t m this g h = and_from _ _ (reads_this q r v k t m g) h
    read_own q e k t m this g h = absurd (false≢true this)

    first_of : (e : ExprTree) (es : Arguments) (ts : List Ty) → Fits p C x 0 (Argument e es) ts → Fit p C x 0 e
    first_of e es [] g = absurd g
    first_of e es (t ∷ ts) g = g.0

    others_of : (e : ExprTree) (es : Arguments) (ts : List Ty) → Fits p C x 0 (Argument e es) ts → (us : List Ty) × Fits p C x 0 es us
    others_of e es [] g = absurd g
    others_of e es (t ∷ ts) g = (ts, g.2)

    mutual
      pub refit : (e : ExprTree) → Fine u e → Where e → fits free e ≡ true → fits held e ≡ true
      refit (ThisOf q t) f g h = h
      refit (LocalOf q y t) f g h = h
      refit (ResultOf q t) f g h = h
      refit (OldOf q e) f g h = h
      refit (IffOf q a d) f g h = let l = two_fine u a d f.unused f.locals in let i = and_parts (fits free a) (fits free d) h in and_from _ _ (refit a l.0 (λ m. (g m).0) i.0) (refit d l.1 (λ m. (g m).1) i.1)
      refit (ImpliesOf q a d) f g h = let l = two_fine u a d f.unused f.locals in let i = and_parts (fits free a) (fits free d) h in and_from _ _ (refit a l.0 (λ m. (g m).0) i.0) (refit d l.1 (λ m. (g m).1) i.1)
      refit (BinaryOf q o a d) f g h =
          let l = two_fine u a d f.unused f.locals in
          let i = and_parts (implied (is_null d) (is_own_local free a) && fits free a) (fits free d) h in
          let j = and_parts (implied (is_null d) (is_own_local free a)) (fits free a) i.0 in
          and_from _ _ (and_from _ _ j.0 (refit a l.0 (λ m. (g m).0) j.1)) (refit d l.1 (λ m. (g m).1) i.1)
      refit (IsOf q e t) f g h = let i = and_parts (is_own_local free e) (fits free e) h in and_from _ _ i.0 (refit e (fine u e f.unused f.locals) (λ m. (g m).0) i.1)
      refit (AsOf q e t) f g h = refit e (fine u e f.unused f.locals) (λ m. (g m).0) h
      refit (NegateOf q e) f g h = refit e (fine u e f.unused f.locals) (λ m. (g m).0) h
      refit (NotOf q e) f g h = refit e (fine u e f.unused f.locals) (λ m. (g m).0) h
      refit (CastOf q t non_null e) f g h = refit e (fine u e f.unused f.locals) (λ m. (g m).0) h
      refit (FieldOf q e k t) f g h =
          let i = and_parts (implied (fields.is_non_null t) (is_non_null (field_type c.classes k))) (reads_set free e k && fits free e) h in
          let j = and_parts (reads_set free e k) (fits free e) i.1 in
          and_from _ _ i.0 (⊎_elim (λ this. read_own q e k t this.0 this.1 g j.1) (λ part. and_from _ _ (reads_other e k part) (refit e part (λ m. (g m).0) j.1)) (own_or_fine u q e k t f))
      refit (ElementOf q a d) f g h = let l = two_fine u a d f.unused f.locals in let i = and_parts (fits free a) (fits free d) h in and_from _ _ (refit a l.0 (λ m. (g m).0) i.0) (refit d l.1 (λ m. (g m).1) i.1)
      refit (LengthOf q e) f g h = refit e (fine u e f.unused f.locals) (λ m. (g m).0) h
      refit (NewOf q t es) f g h =
          let i = and_parts (enters_with (constructor_of c t) (constructor_parameters p t)) (all_fit free es) h in
          and_from _ _ i.0 (refit_all es (record { unused = f.unused; locals = f.locals }) (λ m. (param_types_in (lookups.constructor_of p t), (g m).1)) i.1)
      refit (NewArrayOf q t e) f g h = refit e (fine u e f.unused f.locals) (λ m. (g m).0) h
      refit (CallOf q e k t es) f g h =
          let callee = callee_of c free.body (Dispatched (NullExpr q) (static_class e) k) in
          let i = and_parts (enters_with callee (parameters p (method_of p (class_of (type_of e)) k))) (gives t callee && (fits free e && all_fit free es)) h in
          let j = and_parts (gives t callee) (fits free e && all_fit free es) i.1 in
          let n = and_parts (fits free e) (all_fit free es) j.1 in
          let v = none_left (uses u e) (uses_each u es) f.unused in
          let l = and_parts (locals_pass is_other e) (args_pass is_other es) f.locals in
          and_from _ _ i.0 (and_from _ _ j.0 (and_from _ _ (refit e (fine u e v.0 l.0) (λ m. (g m).0) n.0) (refit_all es (record { unused = v.1; locals = l.1 }) (λ m. (param_types_in (method_at p (static_class e) k), (g m).3)) n.1)))
      refit (StaticOf q k t es) f g h =
          let callee = callee_of c free.body (Static (number_of_written p k)) in
          let i = and_parts (enters_with callee (parameters p (Some k))) (gives t callee && all_fit free es) h in
          let j = and_parts (gives t callee) (all_fit free es) i.1 in
          and_from _ _ i.0 (and_from _ _ j.0 (refit_all es (record { unused = f.unused; locals = f.locals }) (λ m. (param_types_in (body_at p k), (g m).1)) j.1))
      refit (BaseOf q k t es) f g h = absurd (no_base u q k t es f.unused)
      refit (IntOf q k) f g h = refl
      refit (BoolOf q k) f g h = refl
      refit (NullOf q) f g h = refl
      refit (BoundOf q k) f g h = refl
      refit (QuantifiedOf q k name low high e) f g h = refl
      refit (StateOf q w e) f g h = refl
      refit (OwnersOf q w a d) f g h = refl

      -- arguments of some types
      pub refit_all : (es : Arguments) → AreFine u es → (may_read u ≡ true → (ts : List Ty) × Fits p C x 0 es ts) → all_fit free es ≡ true → all_fit held es ≡ true
      refit_all NoMore f g h = refl
      refit_all (Argument e es) f g h =
          let i = and_parts (is_some (type_of e)) (fits free e && all_fit free es) h in
          let j = and_parts (fits free e) (all_fit free es) i.1 in
          let v = none_left (uses u e) (uses_each u es) f.unused in
          let l = and_parts (locals_pass is_other e) (args_pass is_other es) f.locals in
          and_from _ _ i.0 (and_from _ _ (refit e (fine u e v.0 l.0) (λ m. first_of e es (g m).0 (g m).1) j.0) (refit_all es (record { unused = v.1; locals = l.1 }) (λ m. others_of e es (g m).0 (g m).1) j.1))

    -- the arguments of `base(..)`
    pub refit_base : (es : Arguments) → AreFine u es → (may_read u ≡ true → (ts : List Ty) × Fits p C x 0 es ts) → base_fits free es ≡ true → base_fits held es ≡ true
    refit_base es f g h = by (above_of p b.class == 0) h
      where
        callee : Option core.BodyTree
        callee = callee_of c free.body (BaseConstructor (number_of p (Constructor (above_of p b.class))))

        by : (top : Bool) → (top || enters_with callee (constructor_parameters p (above p.classes b.class)) && all_fit free es) ≡ true → (top || enters_with callee (constructor_parameters p (above p.classes b.class)) && all_fit held es) ≡ true
        by true i = refl
        by false i = let both = and_parts (enters_with callee (constructor_parameters p (above p.classes b.class))) (all_fit free es) i in and_from _ _ both.0 (refit_all es f g both.1)
