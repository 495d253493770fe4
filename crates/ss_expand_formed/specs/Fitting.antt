-- Resolved expressions whose names mean the same in elaborated code, and what is known at a place of both.
use Rattle.std.specs.Prelude.{◌≡◌, ℕ, ◌+◌, ◌<◌, ◌≤◌, ◌==◌, List, [], ◌∷◌, Bool, true, false, not, ◌&&◌, ◌||◌, Option, Some, None, is_some, slice_get}
use Rattle.ss_core.specs.declared.names.Ty.{Ty}
use Rattle.ss_core.specs.Tree as core
use Rattle.ss_core.specs.Chain.{above}
use Rattle.ss_core.specs.Types.{is_class_type}
use Rattle.ss_typed.specs.Tree.{ExprTree, ThisOf, LocalOf, ResultOf, IffOf, ImpliesOf, BinaryOf, IsOf, AsOf, NegateOf, NotOf, CastOf, FieldOf, ElementOf, LengthOf, OldOf, NewOf, NewArrayOf, CallOf, StaticOf, BaseOf, Arguments, NoMore, Argument, DeclaratorTree, SimpleTree, AssignOf, StepOf, AloneOf, PrintOf, PrintTextOf, BaseCallOf, InitTree, DeclareFirst, SimpleFirst, BlockTree, BlockOf, StmtTree, InBlock, DeclareOf, SimpleOf, IfOf, IfElseOf, WhileOf, ForOf, ReturnOf, ExposeOf, StmtTrees, Before, BodyTree, TypedTree}
use Rattle.ss_typed.specs.Tree as typed
use Rattle.ss_ast.specs.declared.stmt.AssignOperator.{AssignOperator}
use Rattle.ss_ast.specs.declared.stmt.AssignOperator.TheVariants as operator
use Rattle.std.specs.List.{list_all}
use Rattle.ss_typed.specs.Types.{type_of}
use Rattle.ss_paths.specs.Fields as fields
use Rattle.ss_paths.specs.Fields.{is_among}
use Rattle.ss_paths.specs.Assigned.{has_field}
use Rattle.ss_typed.specs.Shapes.{is_this}
use Rattle.ss_nonnull_rules.specs.NonNull as source
use Rattle.ss_nonnull_rules.specs.Facts.{is_null}
use Rattle.ss_nonnull_rules.specs.Faults.{parameters, body_in_table, class_of, method_of, constructor_parameters}
use Rattle.ss_expand_rules.specs.Program.{above_of, field_at, Constructor, number_of, number_of_written}
use Rattle.ss_expand_rules.specs.Numbers.{Numbers, number, plain}
use Rattle.ss_expand_rules.specs.Statements.{result_type}
use Rattle.ss_expand_rules.specs.Lifting.{Opened, ElaborationContext, static_class, base_number}
use Rattle.ss_store_rules.specs.Changes.{field_type}
use Rattle.ss_store_rules.specs.Good.{is_non_null}
use Rattle.ss_store_rules.specs.Locals.{types_of, local_types}
use Rattle.ss_store_rules.specs.Typed.{constructor_of, callee_of}
use Rattle.ss_store_rules.specs.NonNull.{Known, is_non_null_type, is_this_object, result_of, is_field_above}

-- What is elaborated: the body, how the phase sees it, which locals are its own, which fields its object has, and whether its `this` has the
-- values of all of them.
pub record Frame : Type 0 where
  pub program : core.CoreTree
  pub body : core.BodyTree
  pub context : source.NullContext
  pub typed : TypedTree
  pub written : BodyTree
  pub numbers : Numbers
  -- all of them, and those that hold references
  pub locals : ℕ → Bool
  pub mine : ℕ → Bool
  pub fields : ℕ → Bool
  pub free : Bool

-- within these exposes
abbrev pub elaboration_context : Frame → List Opened → ElaborationContext
elaboration_context z os = record { program = z.typed; body = z.written; numbers = z.numbers; exposes = os }

abbrev pub implied : Bool → Bool → Bool
implied a b = not a || b

-- none of the first types is non-null where the second isn't
abbrev pub wants_no_more : List Ty → List Ty → Bool
wants_no_more [] us = true
wants_no_more (t ∷ ts) [] = false
wants_no_more (t ∷ ts) (u ∷ us) = implied (is_non_null t) (fields.is_non_null u) && wants_no_more ts us

-- the parameters of what is entered want no more than these
abbrev pub enters_with : Option core.BodyTree → List Ty → Bool
enters_with None us = true
enters_with (Some b) us = wants_no_more (types_of b.params) us

abbrev pub gives : Option Ty → Option core.BodyTree → Bool
gives t callee = implied (source.is_non_null_type t) (is_non_null_type (result_of callee))

abbrev pub local_type : Frame → ℕ → Option Ty
local_type z x = slice_get (local_types z.body) x

-- a field is read of `this` itself, or of what is another object, or where that has all fields
abbrev pub reads_set : Frame → ExprTree → ℕ → Bool
reads_set z e f = not z.body.flags.ctor || is_this e && z.fields f || z.free || not (is_this_object (plain z.numbers e))

-- where it is a local, it is one of the body's own that holds a reference
abbrev pub is_own_local : Frame → ExprTree → Bool
is_own_local z (LocalOf p x t) = z.mine x
is_own_local z e = true

abbrev mutual
  -- its locals, fields and calls have in the elaboration the types that stand in it
  pub fits : Frame → ExprTree → Bool
  fits z (ThisOf p t) = is_non_null_type (local_type z 0)
  fits z (LocalOf p x t) = implied (fields.is_non_null t) (is_non_null_type (local_type z (number z.numbers x))) && implied (z.mine x) (is_class_type t)
  fits z (ResultOf p t) = false
  fits z (OldOf p e) = false
  fits z (IffOf p a b) = fits z a && fits z b
  fits z (ImpliesOf p a b) = fits z a && fits z b
  fits z (BinaryOf p o a b) = implied (is_null b) (is_own_local z a) && fits z a && fits z b
  fits z (IsOf p e t) = is_own_local z e && fits z e
  fits z (AsOf p e t) = fits z e
  fits z (NegateOf p e) = fits z e
  fits z (NotOf p e) = fits z e
  fits z (CastOf p t non_null e) = fits z e
  fits z (FieldOf p e f t) = implied (fields.is_non_null t) (is_non_null (field_type z.program.classes f)) && (reads_set z e f && fits z e)
  fits z (ElementOf p a i) = fits z a && fits z i
  fits z (LengthOf p e) = fits z e
  fits z (NewOf p t es) = enters_with (constructor_of z.program t) (constructor_parameters z.context.program t) && all_fit z es
  fits z (NewArrayOf p t e) = fits z e
  fits z (CallOf p e m t es) =
      enters_with (callee_of z.program z.body (core.Dispatched (core.NullExpr p) (static_class e) m)) (parameters z.context.program (method_of z.context.program (class_of (type_of e)) m))
      && (gives t (callee_of z.program z.body (core.Dispatched (core.NullExpr p) (static_class e) m)) && (fits z e && all_fit z es))
  fits z (StaticOf p n t es) =
      enters_with (callee_of z.program z.body (core.Static (number_of_written z.typed n))) (parameters z.context.program (Some n))
      && (gives t (callee_of z.program z.body (core.Static (number_of_written z.typed n))) && all_fit z es)
  fits z (BaseOf p m t es) =
      enters_with (callee_of z.program z.body (core.Base (base_number (elaboration_context z []) m))) (parameters z.context.program (body_in_table z.context.program (above z.context.program.classes z.context.class) m))
      && (gives t (callee_of z.program z.body (core.Base (base_number (elaboration_context z []) m))) && all_fit z es)
  fits z e = true

  -- each of them is a value
  pub all_fit : Frame → Arguments → Bool
  all_fit z NoMore = true
  all_fit z (Argument e es) = is_some (type_of e) && (fits z e && all_fit z es)

-- how the body, its elaboration and the phase agree
pub record Agrees (z : Frame) : Type 0 where
  pub constructs : z.context.constructs ≡ z.body.flags.ctor
  pub now : z.context.in_old ≡ false
  pub known : (x : ℕ) → z.mine x ≡ true → z.locals x ≡ true
  -- its locals stand before the temporaries, each under a number of its own
  pub within : (x : ℕ) → z.locals x ≡ true → x < z.numbers.first_temporary
  pub own : (x : ℕ) → z.locals x ≡ true → number z.numbers x < z.numbers.first_temporary
  pub apart : (x y : ℕ) → z.locals x ≡ true → z.locals y ≡ true → number z.numbers x ≡ number z.numbers y → x ≡ y
  pub past : (x : ℕ) → z.numbers.first_temporary ≤ x → number z.numbers x ≡ x
  -- no temporary of a constructor is `this`
  pub after_this : z.body.flags.ctor ≡ true → 0 < z.numbers.first_temporary

-- what the constructor of the class above gives its values
pub record Builds (z : Frame) : Type 0 where
  pub delayed : z.written.flags.delayed ≡ z.body.flags.delayed
  -- a field of its object that its class doesn't declare is of a class above
  pub above : (f : ℕ) → z.fields f ≡ true → is_among z.context.numbers f ≡ false → (above_of z.typed z.written.class == 0) ≡ false
  pub inherited : (f : ℕ) → z.fields f ≡ true → is_among z.context.numbers f ≡ false → is_field_above z.program z.body f ≡ true

-- the elaboration knows what the phase knows
pub record Covers (z : Frame) (k : source.Known) (l : Known) : Type 0 where
  pub facts : (x : ℕ) → k.facts x ≡ true → l.facts (number z.numbers x) ≡ true
  -- the phase knows of locals of the body alone
  pub mine : (x : ℕ) → k.facts x ≡ true → z.mine x ≡ true
  pub fields : (f : ℕ) → z.fields f ≡ true → has_field z.context.numbers k.fields f ≡ true → l.fields f ≡ true
  pub free : z.free ≡ true → (f : ℕ) → l.fields f ≡ true

-- these temporaries have these types
abbrev pub HasMade : Frame → List Ty → Type 0
HasMade z made = (i : ℕ) (t : Ty) → slice_get made i ≡ Some t → local_type z (z.numbers.first_temporary + i) ≡ Some t

-- ---- statements

abbrev pub is_reference_type : Option Ty → Bool
is_reference_type None = false
is_reference_type (Some t) = is_class_type t

-- a left side, which wants no more in the elaboration than here
abbrev pub target_fits : Frame → ExprTree → Bool
target_fits z (LocalOf p x t) = z.locals x && implied (is_non_null_type (local_type z (number z.numbers x))) (fields.is_non_null t)
target_fits z (FieldOf p o f t) = implied (is_non_null (field_type z.program.classes f)) (fields.is_non_null t) && is_some (field_at z.typed f)
target_fits z e = true

-- a local that holds no reference gets none
abbrev pub holds_kind : Frame → ExprTree → ExprTree → Bool
holds_kind z (LocalOf p x t) e = z.mine x || not (is_reference_type (type_of e))
holds_kind z l e = true

abbrev pub is_number : Frame → ExprTree → Bool
is_number z (LocalOf p x t) = not (fields.is_non_null t) && not (z.mine x)
is_number z (FieldOf p o f t) = not (fields.is_non_null t)
is_number z e = true

abbrev pub assigned_fits : Frame → ExprTree → AssignOperator → ExprTree → Bool
assigned_fits z l operator.Set e = holds_kind z l e
assigned_fits z l o e = is_number z l && not (is_null e)

abbrev pub may_fit : Frame → Option ExprTree → Bool
may_fit z None = true
may_fit z (Some e) = fits z e

-- `base(..)`, which calls nothing below `object`
abbrev pub base_fits : Frame → Arguments → Bool
base_fits z es =
    above_of z.typed z.written.class == 0
    || enters_with (callee_of z.program z.body (core.BaseConstructor (number_of z.typed (Constructor (above_of z.typed z.written.class))))) (constructor_parameters z.context.program (above z.context.program.classes z.context.class)) && all_fit z es

abbrev pub simple_fits : Frame → SimpleTree → Bool
simple_fits z (AssignOf l o e) = target_fits z l && fits z l && fits z e && is_some (type_of e) && assigned_fits z l o e
simple_fits z (StepOf l o) = target_fits z l && fits z l && is_number z l
simple_fits z (AloneOf e) = fits z e
simple_fits z (PrintOf p e line) = may_fit z e
simple_fits z (PrintTextOf p text line) = true
simple_fits z (BaseCallOf p es) = base_fits z es

-- a local begins with a value of its type
abbrev pub begins_fitting : Frame → ℕ → Option ExprTree → Bool
begins_fitting z x None = true
begins_fitting z x (Some e) = fits z e && is_some (type_of e) && (z.mine x || not (is_reference_type (type_of e)))

abbrev pub declarator_fits : Frame → DeclaratorTree → Bool
declarator_fits z d = z.locals d.local && number z.numbers d.local == d.local && implied (is_non_null_type (local_type z d.local)) (fields.is_non_null d.ty) && begins_fitting z d.local d.initial

abbrev pub declared_fit : Frame → List DeclaratorTree → Bool
declared_fit z ds = list_all (declarator_fits z) ds

abbrev pub begin_fits : Frame → Option InitTree → Bool
begin_fits z None = true
begin_fits z (Some (DeclareFirst ds)) = declared_fit z ds
begin_fits z (Some (SimpleFirst x)) = simple_fits z x

abbrev pub advance_fits : Frame → Option SimpleTree → Bool
advance_fits z None = true
advance_fits z (Some x) = simple_fits z x

abbrev pub returned_fits : Frame → Option ExprTree → Bool
returned_fits z None = true
returned_fits z (Some e) = fits z e && is_some (type_of e) && implied (is_non_null_type z.body.result) (source.is_non_null_type z.context.result) && implied (is_non_null (result_type z.written.result)) (source.is_non_null_type z.context.result)

abbrev mutual
  pub stmt_fits : Frame → StmtTree → Bool
  stmt_fits z (InBlock b) = block_fits z b
  stmt_fits z (DeclareOf ds) = declared_fit z ds
  stmt_fits z (SimpleOf x) = simple_fits z x
  stmt_fits z (IfOf p e a) = fits z e && stmt_fits z a
  stmt_fits z (IfElseOf p e a b) = fits z e && stmt_fits z a && stmt_fits z b
  stmt_fits z (WhileOf p e is a) = fits z e && stmt_fits z a
  stmt_fits z (ForOf p i e x is a) = begin_fits z i && may_fit z e && advance_fits z x && stmt_fits z a
  stmt_fits z (ReturnOf p e) = returned_fits z e
  stmt_fits z (ExposeOf p e t b) = fits z e && block_fits z b
  stmt_fits z x = true

  pub block_fits : Frame → BlockTree → Bool
  block_fits z (BlockOf p ss end) = all_fitting z ss

  pub all_fitting : Frame → StmtTrees → Bool
  all_fitting z typed.NoMore = true
  all_fitting z (Before x xs) = stmt_fits z x && all_fitting z xs
