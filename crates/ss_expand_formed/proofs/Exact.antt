-- Where `this` is exactly of its class, each expression without calls that fits has its own type.
use Rattle.std.proofs.Common.{◌≡◌, ℕ, ◌-◌, Bool, true, false, Option, Some, None, refl, sym, ◌∙◌, ap, ⊎_elim, List}
use Rattle.std.specs.Prelude.{◌==◌, if◌then◌else◌, slice_get}
use Rattle.std.proofs.lemmas.Bool.{false≢true}
use Rattle.ss_core.specs.declared.names.Ty.{Ty}
use Rattle.ss_core.specs.declared.names.Ty.TheVariants as ty
use Rattle.ss_core.specs.declared.expr.Operator.{Operator}
use Rattle.ss_core.specs.declared.expr.Operator.TheVariants as op
use Rattle.ss_core.specs.Tree as core
use Rattle.ss_core.specs.Chain.{IsChain}
use Rattle.ss_core.specs.Types.{nullable}
use Rattle.ss_typed.specs.Tree.{TypedTree, ExprTree, IntOf, BoolOf, NullOf, ThisOf, LocalOf, ResultOf, BoundOf, IffOf, ImpliesOf, BinaryOf, IsOf, AsOf, NegateOf, NotOf, CastOf, FieldOf, ElementOf, LengthOf, OldOf, QuantifiedOf, StateOf, OwnersOf, NewOf, NewArrayOf, CallOf, StaticOf, BaseOf}
use Rattle.ss_typed.specs.Types.{class_type, type_of}
use Rattle.ss_typed.specs.Types as typed
use Rattle.ss_expand_rules.specs.Numbers.{Numbers, number, plain}
use Rattle.ss_expand_rules.specs.Calls.{has_call}
use Rattle.ss_store_rules.specs.Types.{is_reference}
use Rattle.ss_store_rules.specs.Types as types
use Rattle.ss_expand_formed.proofs.Fit.{Context, Fit}
use Rattle.ss_expand_formed.proofs.Plain.{bare, Lower, lower_reference, lower_below, Reads, read_at, with_bound, plain_type}

abbrev has_mark : Option Ty → Bool
has_mark (Some (ty.Ref t non_null)) = non_null
has_mark a = false

element_unmarked : (t : Option Ty) → has_mark (typed.element_of t) ≡ false
element_unmarked None = refl
element_unmarked (Some ty.Int) = refl
element_unmarked (Some ty.Bool) = refl
element_unmarked (Some ty.Null) = refl
element_unmarked (Some (ty.Ref c n)) = of_one (c.0 == 1) (c.0 == 2) (c.0 == 3)
  where
    of_one : (a b d : Bool) → has_mark (Some (if a then ty.Int else if b then ty.Bool else if d then class_type 0 false else class_type (c.0 - 1) false)) ≡ false
    of_one true b d = refl
    of_one false true d = refl
    of_one false false true = refl
    of_one false false false = refl

operation_unmarked : (o : Operator) → has_mark (Some (typed.operation_type o)) ≡ false
operation_unmarked op.Or = refl
operation_unmarked op.And = refl
operation_unmarked op.Equal = refl
operation_unmarked op.NotEqual = refl
operation_unmarked op.Less = refl
operation_unmarked op.LessEqual = refl
operation_unmarked op.Greater = refl
operation_unmarked op.GreaterEqual = refl
operation_unmarked op.Add = refl
operation_unmarked op.Subtract = refl
operation_unmarked op.Multiply = refl
operation_unmarked op.Divide = refl
operation_unmarked op.Remainder = refl

module _ (P : TypedTree) (C : List core.ClassTree) (x : Context) (ns : Numbers) (tys : List Ty) (chain : IsChain C) (reads : Reads C x ns tys)
    (exact : (d : ℕ) → slice_get x.locals 0 ≡ Some (class_type d true) → bare (slice_get tys 0) ≡ bare (Some (class_type d true))) where
  abbrev In : ℕ → ExprTree → Option Ty
  In k e = types.type_of C (with_bound tys k) (plain ns e)

  lower : (k : ℕ) (e : ExprTree) → Fit P C x k e → has_call e ≡ false → Lower C (In k e) (type_of e)
  lower k e f without = plain_type P C x ns tys chain reads k e f without

  unmarked : (k : ℕ) (e : ExprTree) → Fit P C x k e → has_call e ≡ false → has_mark (type_of e) ≡ false → In k e ≡ bare (type_of e)
  unmarked k e f without none = ⊎_elim (λ same. same) (λ h. absurd (false≢true (sym none ∙ ap has_mark h.stands_for))) (lower k e f without)

  pub exact_type : (k : ℕ) (e : ExprTree) → Fit P C x k e → has_call e ≡ false → In k e ≡ bare (type_of e)
  exact_type k (IntOf p n) f without = unmarked k (IntOf p n) f without refl
  exact_type k (BoolOf p v) f without = refl
  exact_type k (NullOf p) f without = refl
  exact_type k (ThisOf p t) f without = read_at P C x ns tys chain reads k 0 (class_type t true) (exact t f) ∙ exact t f
  exact_type k (LocalOf p y t) f without = read_at P C x ns tys chain reads k (number ns y) t (reads.locals y t f) ∙ reads.locals y t f
  exact_type k (ResultOf p t) f without = read_at P C x ns tys chain reads k ns.outcome f.0 (reads.result f.0 f.2) ∙ reads.result f.0 f.2 ∙ ap bare (sym f.1)
  exact_type k (BoundOf p n) f without = unmarked k (BoundOf p n) f without refl
  exact_type k (IffOf p a b) f without = unmarked k (IffOf p a b) f without refl
  exact_type k (ImpliesOf p a b) f without = unmarked k (ImpliesOf p a b) f without refl
  exact_type k (BinaryOf p o a b) f without = unmarked k (BinaryOf p o a b) f without (operation_unmarked o)
  exact_type k (IsOf p e t) f without = unmarked k (IsOf p e t) f without refl
  exact_type k (AsOf p e t) f without = unmarked k (AsOf p e t) f without refl
  exact_type k (NegateOf p e) f without = unmarked k (NegateOf p e) f without refl
  exact_type k (NotOf p e) f without = unmarked k (NotOf p e) f without refl
  exact_type k (CastOf p t non_null e) f without = let r : is_reference (In k e) ≡ true = lower_reference C (In k e) (type_of e) (lower k e f.0 without) ∙ f.1 in rw (r, f.2) refl
  exact_type k (FieldOf p e g t) f without =
      let r = f.1 in
      let has = lower_below C (In k e) (type_of e) chain r.field.class (lower k e f.0 without) r.has in
      ap (types.field_read_type C (In k e)) r.there ∙ (rw has refl) ∙ ap (λ u. Some (nullable u)) r.type
  exact_type k (ElementOf p a i) f without = unmarked k (ElementOf p a i) f without (element_unmarked (type_of a))
  exact_type k (LengthOf p e) f without = unmarked k (LengthOf p e) f without refl
  exact_type k (OldOf p e) f without = exact_type k e f without
  exact_type k (QuantifiedOf p q name low high e) f without = unmarked k (QuantifiedOf p q name low high e) f without refl
  exact_type k (StateOf p w e) f without = unmarked k (StateOf p w e) f without refl
  exact_type k (OwnersOf p w a b) f without = unmarked k (OwnersOf p w a b) f without refl
  exact_type k (NewOf p t es) f without = absurd (false≢true (sym without))
  exact_type k (NewArrayOf p t e) f without = absurd (false≢true (sym without))
  exact_type k (CallOf p e m t es) f without = absurd (false≢true (sym without))
  exact_type k (StaticOf p n t es) f without = absurd (false≢true (sym without))
  exact_type k (BaseOf p m t es) f without = absurd (false≢true (sym without))
