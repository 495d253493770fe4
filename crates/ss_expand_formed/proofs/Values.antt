-- Elaborated bodies, and the types of values in them.
use Rattle.std.proofs.Common.{◌≡◌, ℕ, ◌+◌, ◌-◌, ◌≤◌, List, [], Bool, true, false, Option, Some, None, refl, sym, ◌∙◌, ap, inl, inr, ◌⊎◌, ⊎_elim}
use Rattle.std.specs.Prelude.{not, ◌==◌, ◌&&◌, if◌then◌else◌, slice_get, is_some}
use Rattle.std.proofs.lemmas.Bool.{false≢true}
use Rattle.ss_core.specs.declared.names.Place.{Place}
use Rattle.ss_core.specs.declared.names.Ty.{Ty}
use Rattle.ss_core.specs.declared.names.Ty.TheVariants as ty
use Rattle.ss_core.specs.declared.expr.Operator.{Operator}
use Rattle.ss_core.specs.declared.expr.Operator.TheVariants as op
use Rattle.ss_core.specs.Tree as core
use Rattle.ss_core.specs.Tree.{LocalExpr, Static, Base, BaseConstructor}
use Rattle.ss_core.specs.View.{code_of}
use Rattle.ss_core.specs.Chain.{is_declared, all_fields, sub, IsChain}
use Rattle.ss_core.proofs.Chains.{sub_self}
use Rattle.ss_core.specs.Types.{nullable}
use Rattle.ss_typed.specs.Tree.{ExprTree, IntOf, BoolOf, NullOf, ThisOf, LocalOf, ResultOf, BoundOf, IffOf, ImpliesOf, BinaryOf, IsOf, AsOf, NegateOf, NotOf, CastOf, FieldOf, ElementOf, LengthOf, OldOf, QuantifiedOf, StateOf, OwnersOf, NewOf, NewArrayOf, CallOf, StaticOf, BaseOf, BodyTree, TypedTree}
use Rattle.ss_typed.specs.Types.{class_type, type_of, element_type}
use Rattle.ss_typed.specs.Types as typed
use Rattle.ss_owners_rules.specs.Words.{NoWord, misplaced}
use Rattle.ss_expand_rules.specs.Program.{above_of, method_at, number_of, number_of_written, number_in_table, Constructor}
use Rattle.ss_typed.specs.Lookups.{body_at, constructor_of, param_types_in}
use Rattle.ss_expand_rules.specs.Numbers.{Numbers, number, plain}
use Rattle.ss_expand_rules.specs.Calls.{has_call}
use Rattle.ss_expand_rules.specs.Lifting.{Opened, ElaborationContext, temporary_type}
use Rattle.ss_store_rules.specs.Changes.{below, is_array}
use Rattle.ss_store_rules.specs.Changes as changes
use Rattle.ss_store_rules.specs.Locals.{types_of, local_types, is_result, everywhere, each}
use Rattle.ss_store_rules.specs.Types.{has_fitting, fits_type, is_int, is_bool, has_class, is_reference, operation_type, element_of, in_code, is_allowed, code_type}
use Rattle.ss_store_rules.specs.Types as types
use Rattle.ss_store_rules.specs.Typed.{where_body, is_instance_method, callee_of, fits_declared, is_typed, is_exposable, has_exposable}
use Rattle.ss_store_rules.specs.Typed as store
use Rattle.ss_expand_formed.proofs.Shape.{Code}
use Rattle.ss_expand_formed.proofs.Growing.{Begins}
use Rattle.ss_expand_formed.proofs.Fit.{Context, IsCallee, Fit}
use Rattle.ss_expand_formed.proofs.Plain.{bare, Lower, lower_reference, lower_below, Reads, plain_type}
use Rattle.ss_expand_formed.proofs.Exact.{exact_type as type_when_exact}
use Rattle.ss_expand_formed.proofs.ExpressionsWords.{Apart, plain_words}

-- What is elaborated: a written body of a resolved program to this body of the core program. Its declared locals have the numbers from `first` on.
pub record Frame : Type 0 where
  pub program : core.CoreTree
  pub body : core.BodyTree
  pub typed : TypedTree
  pub written : BodyTree
  pub numbers : Numbers
  pub context : Context
  pub first : ℕ

abbrev pub elaboration_context : Frame → List Opened → ElaborationContext
elaboration_context z os = record { program = z.typed; body = z.written; numbers = z.numbers; exposes = os }

-- the body takes values of these types and gives one of this, which isn't that of null
pub record Takes (o : Option core.BodyTree) (ts : List Ty) (r : Option Ty) : Type 0 where
  pub body : core.BodyTree
  pub is : o ≡ Some body
  pub params : types_of body.params ≡ ts
  pub result : body.result ≡ r
  pub no_null : r ≡ Some ty.Null → ⊥

-- what the body calls is there
pub record HasCalls (z : Frame) : Type 0 where
  pub constructor : (t : ℕ) → is_declared z.program.classes t ≡ true → Takes (store.constructor_of z.program t) (param_types_in (constructor_of z.typed t)) None
  pub method : (t m : ℕ) (r : Option Ty) → IsCallee (method_at z.typed t m) false r → Takes (where_body is_instance_method (store.method_at z.program t m)) (param_types_in (method_at z.typed t m)) r
  pub static : (n : ℕ) (r : Option Ty) → IsCallee (body_at z.typed n) true r → Takes (callee_of z.program z.body (Static (number_of_written z.typed n))) (param_types_in (body_at z.typed n)) r
  pub base : (m : ℕ) (r : Option Ty) → z.context.is_static ≡ false → IsCallee (method_at z.typed (above_of z.typed z.written.class) m) false r →
      Takes (callee_of z.program z.body (Base (number_in_table z.typed (above_of z.typed z.written.class) m))) (param_types_in (method_at z.typed (above_of z.typed z.written.class) m)) r
  pub base_constructor : z.written.flags.ctor ≡ true → (above_of z.typed z.written.class == 0) ≡ false →
      Takes (callee_of z.program z.body (BaseConstructor (number_of z.typed (Constructor (above_of z.typed z.written.class))))) (param_types_in (constructor_of z.typed (above_of z.typed z.written.class))) None

-- the context is that of the written body, and its numbers stand for it in the elaboration
pub record Agrees (z : Frame) : Type 0 where
  pub chain : IsChain z.program.classes
  pub fields : all_fields z.program.classes ≡ all_fields z.typed.classes
  pub reads : Reads z.program.classes z.context z.numbers (local_types z.body)
  pub apart : Apart z.body z.context z.numbers
  pub exact : (t : ℕ) → slice_get z.context.locals 0 ≡ Some (class_type t true) → slice_get (local_types z.body) 0 ≡ Some (class_type t true)
  pub declared : (y : ℕ) → z.first ≤ y → number z.numbers y ≡ y
  pub result : z.body.result ≡ z.context.result
  pub returned : z.written.result ≡ z.context.result
  pub class : z.context.class ≡ z.written.class
  pub this : z.written.flags.ctor ≡ true → is_exposable z.program.classes z.body 0 z.written.class ≡ true
  pub calls : HasCalls z

-- both tests of a statement
abbrev pub passes : Frame → core.StmtTree → Bool
passes z s = is_typed z.program z.body s && has_exposable z.program.classes z.body s

abbrev pub Passing : Frame → Code → Type 0
Passing z code = each (passes z) (code_of code) ≡ true

-- these temporaries have these types, in the context too, and none is the result
abbrev pub HasMade : Frame → List Ty → Type 0
HasMade z made = (i : ℕ) (t : Ty) → slice_get made i ≡ Some t → (slice_get (local_types z.body) (z.numbers.first_temporary + i) ≡ Some t) × (is_result z.body (z.numbers.first_temporary + i) ≡ false) × (slice_get z.context.locals (z.numbers.first_temporary + i) ≡ Some t)

-- ---- types

pub no_null_int : (t : Option Ty) → is_int t ≡ true → t ≡ Some ty.Null → ⊥
no_null_int t h e = false≢true (sym (ap is_int e) ∙ h)

pub no_null_bool : (t : Option Ty) → is_bool t ≡ true → t ≡ Some ty.Null → ⊥
no_null_bool t h e = false≢true (sym (ap is_bool e) ∙ h)

pub no_null_class : (test : ℕ → Bool) (t : Option Ty) → has_class test t ≡ true → t ≡ Some ty.Null → ⊥
no_null_class test t h e = false≢true (sym (ap (has_class test) e) ∙ h)

pub some_int : (t : Option Ty) → is_int t ≡ true → is_some t ≡ true
some_int None h = h
some_int (Some t) h = refl

pub some_bool : (t : Option Ty) → is_bool t ≡ true → is_some t ≡ true
some_bool None h = h
some_bool (Some t) h = refl

pub some_class : (test : ℕ → Bool) (t : Option Ty) → has_class test t ≡ true → is_some t ≡ true
some_class test None h = h
some_class test (Some t) h = refl

pub some_reference : (t : Option Ty) → is_reference t ≡ true → is_some t ≡ true
some_reference None h = h
some_reference (Some t) h = refl

pub some_fitting : (cs : List core.ClassTree) (t : Option Ty) (u : Ty) → has_fitting cs t u ≡ true → is_some t ≡ true
some_fitting cs None u h = h
some_fitting cs (Some t) u h = refl

pub fits_itself : (cs : List core.ClassTree) (a t : Ty) → fits_type cs a t ≡ true → fits_type cs (nullable t) t ≡ true
fits_itself cs a ty.Int h = refl
fits_itself cs a ty.Bool h = refl
fits_itself cs ty.Int ty.Null h = absurd (false≢true h)
fits_itself cs ty.Bool ty.Null h = absurd (false≢true h)
fits_itself cs ty.Null ty.Null h = absurd (false≢true h)
fits_itself cs (ty.Ref c n) ty.Null h = absurd (false≢true h)
fits_itself cs a (ty.Ref t n) h = sub_self cs t.0

pub fitting_itself : (cs : List core.ClassTree) (a : Option Ty) (t : Ty) → has_fitting cs a t ≡ true → fits_type cs (nullable t) t ≡ true
fitting_itself cs None t h = absurd (false≢true h)
fitting_itself cs (Some a) t h = fits_itself cs a t h

-- what fits a type fits one that is the same without its `!`
pub fits_same : (cs : List core.ClassTree) (a t u : Ty) → nullable u ≡ nullable t → fits_type cs a t ≡ true → fits_type cs a u ≡ true
fits_same cs a ty.Int ty.Int e h = h
fits_same cs a ty.Bool ty.Bool e h = h
fits_same cs a ty.Null ty.Null e h = h
fits_same cs a (ty.Ref t n) (ty.Ref u m) e h = by a (class_same e) h
  where
    class_same : nullable (ty.Ref u m) ≡ nullable (ty.Ref t n) → u ≡ t
    class_same e = cc

    by : (a : Ty) → u ≡ t → fits_type cs a (ty.Ref t n) ≡ true → fits_type cs a (ty.Ref u m) ≡ true
    by ty.Int e h = h
    by ty.Bool e h = h
    by ty.Null e h = refl
    by (ty.Ref c k) e h = ap (λ v. sub cs c.0 v.0) e ∙ h
fits_same cs a ty.Int ty.Bool e h = absurd (let z : ⊥ = cc in z)
fits_same cs a ty.Int ty.Null e h = absurd (let z : ⊥ = cc in z)
fits_same cs a ty.Int (ty.Ref u m) e h = absurd (let z : ⊥ = cc in z)
fits_same cs a ty.Bool ty.Int e h = absurd (let z : ⊥ = cc in z)
fits_same cs a ty.Bool ty.Null e h = absurd (let z : ⊥ = cc in z)
fits_same cs a ty.Bool (ty.Ref u m) e h = absurd (let z : ⊥ = cc in z)
fits_same cs a ty.Null ty.Int e h = absurd (let z : ⊥ = cc in z)
fits_same cs a ty.Null ty.Bool e h = absurd (let z : ⊥ = cc in z)
fits_same cs a ty.Null (ty.Ref u m) e h = absurd (let z : ⊥ = cc in z)
fits_same cs a (ty.Ref t n) ty.Int e h = absurd (let z : ⊥ = cc in z)
fits_same cs a (ty.Ref t n) ty.Bool e h = absurd (let z : ⊥ = cc in z)
fits_same cs a (ty.Ref t n) ty.Null e h = absurd (let z : ⊥ = cc in z)

-- the type of a temporary takes the value
pub temporary_takes : (cs : List core.ClassTree) (w : Ty) (t : Option Ty) → is_some t ≡ true → (t ≡ Some ty.Null → fits_type cs ty.Null w ≡ true) → has_fitting cs t (temporary_type w t) ≡ true
temporary_takes cs w None h g = absurd (false≢true h)
temporary_takes cs w (Some ty.Int) h g = refl
temporary_takes cs w (Some ty.Bool) h g = refl
temporary_takes cs ty.Int (Some ty.Null) h g = g refl
temporary_takes cs ty.Bool (Some ty.Null) h g = g refl
temporary_takes cs ty.Null (Some ty.Null) h g = g refl
temporary_takes cs (ty.Ref t n) (Some ty.Null) h g = refl
temporary_takes cs w (Some (ty.Ref t n)) h g = sub_self cs t.0

nullable_plain : (w : Ty) → nullable (nullable w) ≡ nullable w
nullable_plain ty.Int = refl
nullable_plain ty.Bool = refl
nullable_plain ty.Null = refl
nullable_plain (ty.Ref t n) = refl

-- and is that of the value, or what is wanted of null
pub temporary_is : (w : Ty) (t : Option Ty) → is_some t ≡ true → (Some (nullable (temporary_type w t)) ≡ bare t) ⊎ ((t ≡ Some ty.Null) × (nullable (temporary_type w t) ≡ nullable w))
temporary_is w None h = absurd (false≢true h)
temporary_is w (Some ty.Int) h = inl refl
temporary_is w (Some ty.Bool) h = inl refl
temporary_is w (Some ty.Null) h = inr (refl, nullable_plain w)
temporary_is w (Some (ty.Ref t n)) h = inl refl

element_plain : (c : ℕ) → nullable (changes.element_type c) ≡ element_type c
element_plain c = of_one (c == 1) (c == 2) (c == 3)
  where
    of_one : (a b d : Bool) → nullable (if a then ty.Int else if b then ty.Bool else if d then ty.Ref (record { 0 = 0 }) false else ty.Ref (record { 0 = c - 1 }) false) ≡ (if a then ty.Int else if b then ty.Bool else if d then ty.Ref (record { 0 = 0 }) false else ty.Ref (record { 0 = c - 1 }) false)
    of_one true b d = refl
    of_one false true d = refl
    of_one false false true = refl
    of_one false false false = refl

-- an element of an array
pub element_is : (cs : List core.ClassTree) (t : Option Ty) → has_class (is_array cs) t ≡ true → element_of cs (bare t) ≡ bare (typed.element_of t)
element_is cs None h = absurd (false≢true h)
element_is cs (Some ty.Int) h = absurd (false≢true h)
element_is cs (Some ty.Bool) h = absurd (false≢true h)
element_is cs (Some ty.Null) h = absurd (false≢true h)
element_is cs (Some (ty.Ref c n)) h = rw h (ap Some (sym (element_plain c.0)))

-- ---- expressions in the body

module _ (z : Frame) (agrees : Agrees z) where
  abbrev pub cs : List core.ClassTree
  cs = z.program.classes

  abbrev pub ns : Numbers
  ns = z.numbers

  abbrev pub tys : List Ty
  tys = local_types z.body

  abbrev pub type_in : core.ExprTree → Option Ty
  type_in a = types.type_of cs tys a

  abbrev pub all_code : core.ExprTree → Bool
  all_code a = everywhere (is_allowed z.body in_code) a

  -- an expression of code, which has this type
  abbrev pub Is : core.ExprTree → Option Ty → Type 0
  Is a u = (all_code a ≡ true) × (type_in a ≡ u)

  pub code_is : (a : core.ExprTree) (u : Option Ty) → Is a u → code_type cs z.body a ≡ u
  code_is a u h = ap (λ c. if c then type_in a else None) h.0 ∙ h.1

  abbrev FitIn : ExprTree → Type 0
  FitIn e = Fit z.typed cs z.context 0 e

  lower : (e : ExprTree) → FitIn e → has_call e ≡ false → Lower cs (type_in (plain ns e)) (type_of e)
  lower e f without = plain_type z.typed cs z.context ns tys agrees.chain agrees.reads 0 e f without

  -- `this` is exactly of the class of the body in its code, so that each expression has its type
  pub exact_type : (e : ExprTree) → FitIn e → has_call e ≡ false → type_in (plain ns e) ≡ bare (type_of e)
  exact_type e f without = type_when_exact z.typed cs z.context ns tys agrees.chain agrees.reads (λ d h. ap bare (agrees.exact d h)) 0 e f without

  pub plain_is : (e : ExprTree) → FitIn e → misplaced NoWord e ≡ [] → has_call e ≡ false → Is (plain ns e) (bare (type_of e))
  plain_is e f words without = (plain_words z.typed cs z.body z.context ns agrees.apart NoWord 0 e f without words, exact_type e f without)

  -- ---- temporaries

  pub made_before : (ms us : List Ty) → Begins ms us → HasMade z us → HasMade z ms
  made_before ms us h g i t e = g i t (h i t e)

  pub local_is : (p : Place) (n : ℕ) (t : Ty) → slice_get tys n ≡ Some t → is_result z.body n ≡ false → Is (LocalExpr p n) (Some (nullable t))
  local_is p n t h g = (ap not g, ap bare h)
