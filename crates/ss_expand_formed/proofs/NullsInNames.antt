-- The names of a written body mean in its elaboration what they mean in the source.
use Rattle.std.proofs.Common.{◌≡◌, ℕ, zero, suc, ◌+◌, ◌≤◌, List, [], ◌∷◌, ◌++◌, length, Bool, true, false, Option, Some, None, refl, sym, ◌∙◌, ap, arith, length-append}
use Rattle.std.specs.Prelude.{◌==◌, ◌&&◌, slice_get, option_and_then, if◌then◌else◌}
use Rattle.std.proofs.lemmas.Bool.{and_from, le-leb, lt-ltb, false≢true}
use Rattle.std.proofs.lemmas.List.{length-map}
use Rattle.std.proofs.lemmas.Option.{slice_get_within}
use Rattle.ss_core.specs.declared.names.Ty.{Ty}
use Rattle.ss_core.specs.declared.names.Ty.TheVariants as ty
use Rattle.ss_core.specs.Tree as core
use Rattle.ss_core.specs.Chain.{is_declared, declared, all_fields}
use Rattle.ss_core.specs.Types.{is_class_type}
use Rattle.ss_typed.specs.Tree.{ParamTree, BodyTree, TypedTree}
use Rattle.ss_paths.specs.Fields as fields
use Rattle.ss_nonnull_rules.specs.NonNull as source
use Rattle.ss_nonnull_rules.specs.Faults as faults
use Rattle.ss_nonnull_rules.specs.Faults.{parameters, body_of_entry, body_in_table, class_of, method_of, constructor_parameters}
use Rattle.ss_expand_rules.specs.Program.{above_of, table_of, method_at}
use Rattle.ss_typed.specs.Lookups.{body_at, constructor_of, param_types_in}
use Rattle.ss_expand_rules.specs.Numbers.{number}
use Rattle.ss_expand_rules.specs.Contracts.{first_param}
use Rattle.ss_expand_rules.specs.Lifting.{class_of_type}
use Rattle.ss_expand_rules.specs.Bodies.{first_copy}
use Rattle.ss_store_rules.specs.Types as types
use Rattle.ss_store_rules.specs.Good.{is_non_null}
use Rattle.ss_store_rules.specs.Locals.{types_of}
use Rattle.ss_store_rules.specs.NonNull.{is_non_null_type, result_of}
use Rattle.ss_expand_formed.proofs.Uses.{is_other}
use Rattle.ss_expand_formed.proofs.Environments.{this_in, param_types, context_of}
use Rattle.ss_expand_formed.specs.Fitting.{Frame, implied, wants_no_more, enters_with, gives, local_type, is_reference_type}
use Rattle.ss_expand_formed.specs.Bodies.{is_own_of, method_frame}
use Rattle.ss_expand_formed.proofs.Values.{Takes, HasCalls}
use Rattle.ss_expand_formed.proofs.StatementsWritten.{frame, in_locals, context_at, past_params, number_at}

-- ---- marks of types

pub same_mark : (t : Ty) → fields.is_non_null t ≡ is_non_null t
same_mark ty.Int = refl
same_mark ty.Bool = refl
same_mark ty.Null = refl
same_mark (ty.Ref t n) = refl

pub same_marks : (o : Option Ty) → source.is_non_null_type o ≡ is_non_null_type o
same_marks None = refl
same_marks (Some t) = same_mark t

pub implied_same : (a b : Bool) → a ≡ b → implied a b ≡ true
implied_same true b e = sym e
implied_same false b e = refl

pub implied_and : (a b : Bool) → implied (a && b) b ≡ true
implied_and true true = refl
implied_and true false = refl
implied_and false b = refl

-- ---- what is called

wants_itself : (ts : List Ty) → wants_no_more ts ts ≡ true
wants_itself [] = refl
wants_itself (t ∷ ts) = and_from _ _ (implied_same (is_non_null t) (fields.is_non_null t) (sym (same_mark t))) (wants_itself ts)

pub entered : (o : Option core.BodyTree) (ts us : List Ty) (r : Option Ty) → Takes o ts r → us ≡ ts → enters_with o us ≡ true
entered o ts us r k e = ap (λ q. enters_with q us) k.is ∙ ap (wants_no_more (types_of k.body.params)) e ∙ ap (λ vs. wants_no_more vs ts) k.params ∙ wants_itself ts

pub given : (o : Option core.BodyTree) (ts : List Ty) (r : Option Ty) → Takes o ts r → gives r o ≡ true
given o ts r k = implied_same (source.is_non_null_type r) (is_non_null_type (result_of o)) (same_marks r ∙ ap is_non_null_type (sym (ap result_of k.is ∙ k.result)))

-- ---- parameters, as the phase looks them up

module _ (P : TypedTree) where
  pub body_params : (n : ℕ) → parameters P (Some n) ≡ param_types_in (body_at P n)
  body_params n = refl

  pub written_params : (o : Option ℕ) → parameters P o ≡ param_types_in (option_and_then (body_at P) o)
  written_params None = refl
  written_params (Some n) = body_params n

  entry_params : (e : Option core.EntryTree) → parameters P (body_of_entry e) ≡ param_types_in (option_and_then (λ (x : core.EntryTree). body_at P x.body) e)
  entry_params None = refl
  entry_params (Some e) = body_params e.body

  class_params : (o : Option core.ClassTree) (m : ℕ) → parameters P (body_of_entry (slice_get (faults.table_of o) m)) ≡ param_types_in (option_and_then (λ (x : core.EntryTree). body_at P x.body) (slice_get (table_of o) m))
  class_params None m = refl
  class_params (Some c) m = entry_params (slice_get c.table m)

  pub table_params : (t m : ℕ) → parameters P (body_in_table P t m) ≡ param_types_in (method_at P t m)
  table_params t m = class_params (declared P.classes t) m

  pub method_params : (test : ℕ → Bool) (o : Option Ty) (m : ℕ) → types.has_class test o ≡ true → parameters P (method_of P (class_of o) m) ≡ param_types_in (method_at P (class_of_type o) m)
  method_params test None m h = absurd (false≢true h)
  method_params test (Some ty.Int) m h = absurd (false≢true h)
  method_params test (Some ty.Bool) m h = absurd (false≢true h)
  method_params test (Some ty.Null) m h = absurd (false≢true h)
  method_params test (Some (ty.Ref t n)) m h = table_params t.0 m

-- ---- a written body

-- what the elaboration has of what the body names
pub record HasNames (c : core.CoreTree) (P : TypedTree) (w : BodyTree) (bs : List BodyTree) : Type 0 where
  pub same : all_fields c.classes ≡ all_fields P.classes
  pub calls : HasCalls (frame c P w bs)
  pub constructors : (t : ℕ) → is_declared c.classes t ≡ true → constructor_parameters P t ≡ param_types_in (constructor_of P t)
  pub above : (above_of P w.class == 0) ≡ false → is_declared c.classes (above_of P w.class) ≡ true
  -- no local is of the type of null
  pub no_null : (x : ℕ) → slice_get (context_of w).locals x ≡ Some ty.Null → ⊥

-- where there is a `this`, the local is another one
abbrev pub IsNotThis : BodyTree → ℕ → Type 0
IsNotThis w x = w.flags.is_static ≡ false → is_other x ≡ true

module _ (c : core.CoreTree) (P : TypedTree) (w : BodyTree) (bs : List BodyTree) where
  abbrev z : Frame
  z = method_frame c P w bs

  abbrev X : List Ty
  X = (context_of w).locals

  -- the type of a local, and of what it is meant by
  pub typed_at : (x : ℕ) (t : Ty) → slice_get X x ≡ Some t → local_type z x ≡ Some t
  typed_at x t h = in_locals c P w bs x t (context_at c P w bs x t h)

  pub meant_at : (x : ℕ) (t : Ty) → slice_get X x ≡ Some t → local_type z (number z.numbers x) ≡ Some t
  meant_at x t h = in_locals c P w bs (number z.numbers x) t (number_at c P w bs x t (context_at c P w bs x t h))

  pub declared_number : (x : ℕ) → first_param w + length w.params ≤ x → number z.numbers x ≡ x
  declared_number x l = past_params c P w bs x l

  locals_long : length X ≡ first_copy w
  locals_long =
      let this : length (this_in w) ≡ first_param w = by w.flags.is_static in
      let one = length-append (this_in w ++ param_types w) (types_of w.locals) in
      let two = length-append (this_in w) (param_types w) in
      let params = length-map w.params (λ (q : ParamTree). q.ty) in
      let locals = length-map w.locals (λ (l : core.LocalTree). l.ty) in
      omega arith
    where
      by : (static : Bool) → length (if static then [] else ty.Ref (record { 0 = w.class }) true ∷ []) ≡ (if static then 0 else 1)
      by true = refl
      by false = refl

  from_first : (x : ℕ) → IsNotThis w x → first_param w ≤ x
  from_first x o = by w.flags.is_static refl x o
    where
      by : (static : Bool) → w.flags.is_static ≡ static → (x : ℕ) → IsNotThis w x → (if static then 0 else 1) ≤ x
      by true e x o = omega arith
      by false e zero o = absurd (false≢true (o e))
      by false e (suc x) o = omega arith

  pub own_from : (x : ℕ) (t : Ty) → slice_get X x ≡ Some t → first_param w ≤ x → is_own_of w x ≡ true
  own_from x t h l =
      let size = locals_long in
      let within = slice_get_within X x t h in
      and_from _ _ (le-leb (first_param w) x l) (lt-ltb x (first_copy w) (omega arith))

  pub own_at : (x : ℕ) (t : Ty) → slice_get X x ≡ Some t → IsNotThis w x → is_own_of w x ≡ true
  own_at x t h o = own_from x t h (from_first x o)

  -- a local of the body holds a reference where its type is one
  pub mine_at : (x : ℕ) (t : Ty) → slice_get X x ≡ Some t → z.mine x ≡ (is_own_of w x && is_class_type t)
  mine_at x t h = ap (λ o. is_own_of w x && is_reference_type o) (typed_at x t h)
