-- Where resolved expressions fit, their names mean in the elaboration what they mean in the source.
use Rattle.std.proofs.Common.{◌≡◌, ℕ, List, [], ◌∷◌, ◌++◌, Bool, true, false, Option, Some, None, refl, sym, ◌∙◌, ap}
use Rattle.std.specs.Prelude.{◌&&◌, slice_get}
use Rattle.std.proofs.lemmas.Bool.{and_parts, and_from, or_left, or_right, false≢true}
use Rattle.ss_core.specs.declared.names.Ty.{Ty}
use Rattle.ss_core.specs.declared.names.Ty.TheVariants as ty
use Rattle.ss_core.specs.declared.expr.Operator.{Operator}
use Rattle.ss_core.specs.declared.expr.Operator.TheVariants as op
use Rattle.ss_core.specs.Tree as core
use Rattle.ss_core.specs.Types.{is_class_type}
use Rattle.ss_typed.specs.Tree.{ExprTree, NullOf, ThisOf, LocalOf, ResultOf, IffOf, ImpliesOf, BinaryOf, IsOf, AsOf, NegateOf, NotOf, CastOf, FieldOf, ElementOf, LengthOf, OldOf, NewOf, NewArrayOf, CallOf, StaticOf, BaseOf, Arguments, NoMore, Argument, BodyTree, TypedTree}
use Rattle.ss_typed.specs.Types.{class_type, type_of}
use Rattle.ss_paths.specs.Fields as fields
use Rattle.ss_nonnull_rules.specs.Facts.{is_null}
use Rattle.ss_owners_rules.specs.Words.{NoWord, misplaced, misplaced_each}
use Rattle.ss_expand_rules.specs.Program.{above_of}
use Rattle.ss_expand_rules.specs.Lifting.{static_class}
use Rattle.ss_store_rules.specs.Changes.{type_of_field, field_type}
use Rattle.ss_store_rules.specs.Types as types
use Rattle.ss_store_rules.specs.Types.{where_typed, are_comparable, is_int, is_bool, has_fitting}
use Rattle.ss_store_rules.specs.Good.{is_non_null}
use Rattle.ss_store_rules.specs.NonNull.{is_non_null_type}
use Rattle.ss_expand_formed.proofs.Facts.{none_left}
use Rattle.ss_expand_formed.proofs.Uses.{is_other}
use Rattle.ss_expand_formed.proofs.Reading.{locals_pass, args_pass}
use Rattle.ss_expand_formed.proofs.Environments.{context_of}
use Rattle.ss_expand_formed.proofs.Fit.{Context, IsRead, Fit, Fits}
use Rattle.ss_expand_formed.specs.Fitting.{Frame, implied, is_own_local, reads_set, fits, all_fit}
use Rattle.ss_expand_formed.specs.Bodies.{is_own_of, method_frame}
use Rattle.ss_expand_formed.proofs.Values.{some_fitting}
use Rattle.ss_expand_formed.proofs.NullsInNames.{same_mark, implied_same, implied_and, entered, given, body_params, table_params, method_params, HasNames, typed_at, meant_at, own_at, mine_at}

-- ---- operations with the literal null

no_truth : (a : Bool) (t u : Ty) → where_typed (a && false) t ≡ Some u → ⊥
no_truth true t u h = (let x : ⊥ = cc in x)
no_truth false t u h = (let x : ⊥ = cc in x)

compared_with_null : (a : Option Ty) (u : Ty) → where_typed (are_comparable a (Some ty.Null)) ty.Bool ≡ Some u → types.is_reference a ≡ true
compared_with_null None u h = absurd (let x : ⊥ = cc in x)
compared_with_null (Some ty.Int) u h = absurd (let x : ⊥ = cc in x)
compared_with_null (Some ty.Bool) u h = absurd (let x : ⊥ = cc in x)
compared_with_null (Some ty.Null) u h = refl
compared_with_null (Some (ty.Ref t n)) u h = refl

-- it stands beside references alone
beside_null : (o : Operator) (a : Option Ty) (u : Ty) → types.operation_type o a (Some ty.Null) ≡ Some u → types.is_reference a ≡ true
beside_null op.Equal a u h = compared_with_null a u h
beside_null op.NotEqual a u h = compared_with_null a u h
beside_null op.Or a u h = absurd (no_truth (is_bool a) ty.Bool u h)
beside_null op.And a u h = absurd (no_truth (is_bool a) ty.Bool u h)
beside_null op.Less a u h = absurd (no_truth (is_int a) ty.Bool u h)
beside_null op.LessEqual a u h = absurd (no_truth (is_int a) ty.Bool u h)
beside_null op.Greater a u h = absurd (no_truth (is_int a) ty.Bool u h)
beside_null op.GreaterEqual a u h = absurd (no_truth (is_int a) ty.Bool u h)
beside_null op.Add a u h = absurd (no_truth (is_int a) ty.Int u h)
beside_null op.Subtract a u h = absurd (no_truth (is_int a) ty.Int u h)
beside_null op.Multiply a u h = absurd (no_truth (is_int a) ty.Int u h)
beside_null op.Divide a u h = absurd (no_truth (is_int a) ty.Int u h)
beside_null op.Remainder a u h = absurd (no_truth (is_int a) ty.Int u h)

module _ (c : core.CoreTree) (P : TypedTree) (w : BodyTree) (bs : List BodyTree) (has : HasNames c P w bs) where
  abbrev z : Frame
  z = method_frame c P w bs

  abbrev X : Context
  X = context_of w

  -- no local in it has the number of `this`
  abbrev pub Own : ExprTree → Type 0
  Own e = w.flags.is_static ≡ false → locals_pass is_other e ≡ true

  abbrev pub OwnEach : Arguments → Type 0
  OwnEach es = w.flags.is_static ≡ false → args_pass is_other es ≡ true

  -- an expression that fits, without the words of conditions
  record IsFit (e : ExprTree) : Type 0 where
    fit : Fit P c.classes X 0 e
    words : misplaced NoWord e ≡ []
    own : Own e

  record AreFit (es : Arguments) (ts : List Ty) : Type 0 where
    fit : Fits P c.classes X 0 es ts
    words : misplaced_each NoWord es ≡ []
    own : OwnEach es

  two_fit : (a d : ExprTree) → Fit P c.classes X 0 a → Fit P c.classes X 0 d → misplaced NoWord a ++ misplaced NoWord d ≡ [] → (w.flags.is_static ≡ false → (locals_pass is_other a && locals_pass is_other d) ≡ true) → IsFit a × IsFit d
  two_fit a d f g h o =
      let n = none_left (misplaced NoWord a) (misplaced NoWord d) h in (
        record { fit = f; words = n.0; own = λ s. (and_parts (locals_pass is_other a) (locals_pass is_other d) (o s)).0 },
        record { fit = g; words = n.1; own = λ s. (and_parts (locals_pass is_other a) (locals_pass is_other d) (o s)).1 },
      )

  -- ---- locals

  -- a reference that is a local is one of the body's own
  pub reference_at : (x : ℕ) (t : Ty) → slice_get X.locals x ≡ Some t → (w.flags.is_static ≡ false → is_other x ≡ true) → types.is_reference (Some t) ≡ true → z.mine x ≡ true
  reference_at x ty.Int h o r = absurd (false≢true r)
  reference_at x ty.Bool h o r = absurd (false≢true r)
  reference_at x ty.Null h o r = absurd (has.no_null x h)
  reference_at x (ty.Ref t n) h o r = mine_at c P w bs x (ty.Ref t n) h ∙ and_from _ _ (own_at c P w bs x (ty.Ref t n) h o) refl

  own_local : (e : ExprTree) → IsFit e → types.is_reference (type_of e) ≡ true → is_own_local z e ≡ true
  own_local (LocalOf q x t) h r = reference_at x t h.fit h.own r
  own_local e h r = refl

  compared : (o : Operator) (a d : ExprTree) (u : Ty) → IsFit a → types.operation_type o (type_of a) (type_of d) ≡ Some u → implied (is_null d) (is_own_local z a) ≡ true
  compared o a (NullOf q) u h e = own_local a h (beside_null o (type_of a) u e)
  compared o a d u h e = refl

  -- ---- fields

  field_at : (o : Option Ty) (f : ℕ) (t : Ty) → IsRead c.classes o f t → field_type c.classes f ≡ t
  field_at o f t r = ap type_of_field r.there ∙ r.type

  pub field_mark : (o : Option Ty) (f : ℕ) (t : Ty) → IsRead c.classes o f t → fields.is_non_null t ≡ is_non_null (field_type c.classes f)
  field_mark o f t r = same_mark t ∙ ap is_non_null (sym (field_at o f t r))

  reads : (e : ExprTree) (f : ℕ) → reads_set z e f ≡ true
  reads e f = or_left _ _ (or_right _ true refl)

  -- ---- expressions

  mutual
    expr_fits : (e : ExprTree) → IsFit e → fits z e ≡ true
    expr_fits (ThisOf q t) h = ap is_non_null_type (typed_at c P w bs 0 (class_type t true) h.fit)
    expr_fits (LocalOf q x t) h =
        and_from _ _ (implied_same (fields.is_non_null t) _ (same_mark t ∙ ap is_non_null_type (sym (meant_at c P w bs x t h.fit))))
        (ap (λ b. implied b (is_class_type t)) (mine_at c P w bs x t h.fit) ∙ implied_and (is_own_of w x) (is_class_type t))
    expr_fits (ResultOf q t) h = absurd (let words : q ∷ [] ≡ [] = h.words in let x : ⊥ = cc in x)
    expr_fits (OldOf q e) h = absurd (let words : q ∷ misplaced NoWord e ≡ [] = h.words in let x : ⊥ = cc in x)
    expr_fits (IffOf q a d) h = let n = two_fit a d h.fit.0 h.fit.1 h.words h.own in and_from _ _ (expr_fits a n.0) (expr_fits d n.1)
    expr_fits (ImpliesOf q a d) h = let n = two_fit a d h.fit.0 h.fit.1 h.words h.own in and_from _ _ (expr_fits a n.0) (expr_fits d n.1)
    expr_fits (BinaryOf q o a d) h = let n = two_fit a d h.fit.0 h.fit.1 h.words h.own in and_from _ _ (and_from _ _ (compared o a d _ n.0 h.fit.2) (expr_fits a n.0)) (expr_fits d n.1)
    expr_fits (ElementOf q a d) h = let n = two_fit a d h.fit.0 h.fit.1 h.words h.own in and_from _ _ (expr_fits a n.0) (expr_fits d n.1)
    expr_fits (IsOf q e t) h = let m : IsFit e = record { fit = h.fit.0; words = h.words; own = h.own } in and_from _ _ (own_local e m h.fit.1) (expr_fits e m)
    expr_fits (AsOf q e t) h = expr_fits e (record { fit = h.fit.0; words = h.words; own = h.own })
    expr_fits (NegateOf q e) h = expr_fits e (record { fit = h.fit.0; words = h.words; own = h.own })
    expr_fits (NotOf q e) h = expr_fits e (record { fit = h.fit.0; words = h.words; own = h.own })
    expr_fits (CastOf q t non_null e) h = expr_fits e (record { fit = h.fit.0; words = h.words; own = h.own })
    expr_fits (LengthOf q e) h = expr_fits e (record { fit = h.fit.0; words = h.words; own = h.own })
    expr_fits (NewArrayOf q t e) h = expr_fits e (record { fit = h.fit.0; words = h.words; own = h.own })
    expr_fits (FieldOf q e f t) h =
        and_from _ _ (implied_same (fields.is_non_null t) _ (field_mark (type_of e) f t h.fit.1)) (and_from _ _ (reads e f) (expr_fits e (record { fit = h.fit.0; words = h.words; own = h.own })))
    expr_fits (NewOf q t es) h =
        and_from _ _ (entered _ _ _ None (has.calls.constructor t h.fit.0) (has.constructors t h.fit.0)) (each_fits es _ (record { fit = h.fit.1; words = h.words; own = h.own }))
    expr_fits (CallOf q e m t es) h =
        let n = none_left (misplaced NoWord e) (misplaced_each NoWord es) h.words in
        let calls = has.calls.method (static_class e) m t h.fit.2 in
        let first : IsFit e = record { fit = h.fit.0; words = n.0; own = λ s. (and_parts (locals_pass is_other e) (args_pass is_other es) (h.own s)).0 } in
        let others : AreFit es _ = record { fit = h.fit.3; words = n.1; own = λ s. (and_parts (locals_pass is_other e) (args_pass is_other es) (h.own s)).1 } in
        and_from _ _ (entered _ _ _ t calls (method_params P _ (type_of e) m h.fit.1)) (and_from _ _ (given _ _ t calls) (and_from _ _ (expr_fits e first) (each_fits es _ others)))
    expr_fits (StaticOf q n t es) h =
        let calls = has.calls.static n t h.fit.0 in
        and_from _ _ (entered _ _ _ t calls (body_params P n)) (and_from _ _ (given _ _ t calls) (each_fits es _ (record { fit = h.fit.1; words = h.words; own = h.own })))
    expr_fits (BaseOf q m t es) h =
        let calls = has.calls.base m t h.fit.0 h.fit.1 in
        and_from _ _ (entered _ _ _ t calls (table_params P (above_of P w.class) m)) (and_from _ _ (given _ _ t calls) (each_fits es _ (record { fit = h.fit.2; words = h.words; own = h.own })))
    expr_fits e h = refl

    each_fits : (es : Arguments) (ts : List Ty) → AreFit es ts → all_fit z es ≡ true
    each_fits NoMore ts h = refl
    each_fits (Argument e es) [] h = absurd h.fit
    each_fits (Argument e es) (t ∷ ts) h =
        let n = none_left (misplaced NoWord e) (misplaced_each NoWord es) h.words in
        let first : IsFit e = record { fit = h.fit.0; words = n.0; own = λ s. (and_parts (locals_pass is_other e) (args_pass is_other es) (h.own s)).0 } in
        let others : AreFit es ts = record { fit = h.fit.2; words = n.1; own = λ s. (and_parts (locals_pass is_other e) (args_pass is_other es) (h.own s)).1 } in
        and_from _ _ (some_fitting c.classes (type_of e) t h.fit.1) (and_from _ _ (expr_fits e first) (each_fits es ts others))

  pub fit_fits : (e : ExprTree) → Fit P c.classes X 0 e → misplaced NoWord e ≡ [] → Own e → fits z e ≡ true
  fit_fits e f h o = expr_fits e (record { fit = f; words = h; own = o })

  pub each_fit_fits : (es : Arguments) (ts : List Ty) → Fits P c.classes X 0 es ts → misplaced_each NoWord es ≡ [] → OwnEach es → all_fit z es ≡ true
  each_fit_fits es ts f h o = each_fits es ts (record { fit = f; words = h; own = o })
