-- Elaboration adds temporaries after those that are made so far.
use Rattle.std.proofs.Common.{◌≡◌, ℕ, zero, suc, List, [], ◌∷◌, ◌++◌, length, Some, refl}
use Rattle.std.specs.Prelude.{◌&&◌, slice_get}
use Rattle.ss_core.specs.declared.names.Place.{Place}
use Rattle.ss_core.specs.declared.names.Ty.{Ty}
use Rattle.ss_core.specs.declared.names.Ty.TheVariants as ty
use Rattle.ss_core.specs.declared.expr.Operator.{Operator}
use Rattle.ss_core.specs.declared.expr.Operator.TheVariants as op
use Rattle.ss_core.specs.Tree as core
use Rattle.ss_core.specs.Tree.{NotExpr, BinaryExpr}
use Rattle.ss_typed.specs.Tree.{ExprTree, IffOf, ImpliesOf, BinaryOf, IsOf, AsOf, NegateOf, NotOf, CastOf, FieldOf, ElementOf, LengthOf, NewOf, NewArrayOf, CallOf, StaticOf, BaseOf, Arguments, NoMore, Argument}
use Rattle.ss_typed.specs.Types.{type_of}
use Rattle.ss_expand_rules.specs.Numbers.{Numbers, plain, plain_arguments}
use Rattle.ss_expand_rules.specs.Calls.{has_call, have_call, is_lazy}
use Rattle.ss_typed.specs.Shapes.{place_of}
use Rattle.ss_expand_rules.specs.Program.{above_of}
use Rattle.ss_expand_rules.specs.Lifting.{ElaborationContext, Source, Pure, Created, CreatedArray, Called, Lifted, Valued, Listed, unlifted, temporary_type, any_object, in_temporary, valued_from, valued, lifted_of, operand, unary, binary, lazily, holds, fails, negated, operation, first_type, other_types, no_operands, operands_of, and_operands, static_class, types_of_constructor, types_of_written, types_of_method, lifted, in_temporaries, right_side, value}
use Rattle.ss_expand_formed.proofs.Choosing.{on_either}

-- what stands at a place of the first list stands there in the second
abbrev pub Begins : List Ty → List Ty → Type 0
Begins ts us = (i : ℕ) (t : Ty) → slice_get ts i ≡ Some t → slice_get us i ≡ Some t

pub begins_itself : (ts : List Ty) → Begins ts ts
begins_itself ts i t h = h

pub begins_append : (ts us : List Ty) → Begins ts (ts ++ us)
begins_append [] us i t h = absurd (let x : ⊥ = cc in x)
begins_append (u ∷ ts) us zero t h = h
begins_append (u ∷ ts) us (suc i) t h = begins_append ts us i t h

pub then_begins : (ts us vs : List Ty) → Begins ts us → Begins us vs → Begins ts vs
then_begins ts us vs h g i t e = g i t (h i t e)

-- the one after the list
pub last_at : (ts : List Ty) (t : Ty) → slice_get (ts ++ t ∷ []) (length ts) ≡ Some t
last_at [] t = refl
last_at (u ∷ ts) t = last_at ts t

abbrev pub Lifts : (List Ty → Lifted) → Type 0
Lifts f = (made : List Ty) → Begins made (f made).made

abbrev pub Values : (List Ty → Valued) → Type 0
Values f = (made : List Ty) → Begins made (f made).made

abbrev pub Lists : (List Ty → Listed) → Type 0
Lists f = (made : List Ty) → Begins made (f made).made

-- ---- operands

pub valued_from_begins : (ns : Numbers) (e : ExprTree) (l : Lifted) (v : Source) → Begins l.made (valued_from ns e l v).made
valued_from_begins ns e l (Pure x) = begins_itself l.made
valued_from_begins ns e l (Created p t es) = begins_append l.made (temporary_type any_object (type_of e) ∷ [])
valued_from_begins ns e l (CreatedArray p t n) = begins_append l.made (temporary_type any_object (type_of e) ∷ [])
valued_from_begins ns e l (Called p callee es) = begins_append l.made (temporary_type any_object (type_of e) ∷ [])

pub lifted_of_begins : (ns : Numbers) (e : ExprTree) (f : List Ty → Lifted) → Lifts f → Lifts (lifted_of ns e f)
lifted_of_begins ns e f h made = on_either (λ (l : Lifted). Begins made l.made) (has_call e) (f made) (unlifted (plain ns e) made) (h made) (begins_itself made)

pub operand_begins : (ns : Numbers) (t : Ty) (e : ExprTree) (f : List Ty → Lifted) → Lifts f → Values (operand ns t e f)
operand_begins ns t e f h made =
    let l = lifted_of ns e f made in
    let u = temporary_type t (type_of e) in
    on_either (λ (v : Valued). Begins made v.made) (is_lazy e && has_call e) (valued ns e (f made)) (in_temporary ns (place_of e) u l)
    (then_begins made (f made).made (valued ns e (f made)).made (h made) (valued_from_begins ns e (f made) (f made).source))
    (then_begins made l.made (l.made ++ u ∷ []) (lifted_of_begins ns e f h made) (begins_append l.made (u ∷ [])))

binary_begins : (ns : Numbers) (a b : ExprTree) (f g : List Ty → Lifted) (h : core.ExprTree → core.ExprTree → core.ExprTree) → Lifts f → Lifts g → Lifts (λ made. binary h (operand ns any_object a f made) (operand ns any_object b g))
binary_begins ns a b f g h i j made =
    let v = operand ns any_object a f made in
    then_begins made v.made (operand ns any_object b g v.made).made (operand_begins ns any_object a f i made) (operand_begins ns any_object b g j v.made)

lazily_begins : (ns : Numbers) (p : Place) (a b : ExprTree) (test : core.ExprTree → core.ExprTree) (made : List Ty) (first : Lifted) (second : List Ty → Lifted) → Begins made first.made → Lifts second → Begins made (lazily ns p a b test first second).made
lazily_begins ns p a b test made first second h g =
    let n = first.made ++ ty.Bool ∷ [] in
    then_begins made n (second n).made (then_begins made first.made n h (begins_append first.made (ty.Bool ∷ []))) (g n)

negated_begins : (ns : Numbers) (a : ExprTree) (f : List Ty → Lifted) → Lifts f → Lifts (negated ns a f)
negated_begins ns a f h made =
    on_either (λ (l : Lifted). Begins made l.made) (has_call a) (unary (NotExpr (place_of a)) (operand ns ty.Bool a f made)) (unlifted (NotExpr (place_of a) (plain ns a)) made)
    (operand_begins ns ty.Bool a f h made) (begins_itself made)

operation_begins : (ns : Numbers) (p : Place) (o : Operator) (a b : ExprTree) (f g : List Ty → Lifted) → Lifts f → Lifts g → Lifts (operation ns p o a b f g)
operation_begins ns p op.And a b f g h i made = lazily_begins ns p a b holds made (lifted_of ns a f made) (lifted_of ns b g) (lifted_of_begins ns a f h made) (lifted_of_begins ns b g i)
operation_begins ns p op.Or a b f g h i made = lazily_begins ns p a b (fails p) made (lifted_of ns a f made) (lifted_of ns b g) (lifted_of_begins ns a f h made) (lifted_of_begins ns b g i)
operation_begins ns p o a b f g h i made = binary_begins ns a b f g (BinaryExpr p o) h i made

-- ---- calls

operands_begin : (ns : Numbers) (es : Arguments) (f : List Ty → Listed) → Lists f → Lists (operands_of ns es f)
operands_begin ns es f h made = on_either (λ (l : Listed). Begins made l.made) (have_call es) (f made) (record { code = []; values = plain_arguments ns es; made = made }) (h made) (begins_itself made)

and_begins : (made : List Ty) (v : Valued) (f : List Ty → Listed) → Begins made v.made → Lists f → Begins made (and_operands v f).made
and_begins made v f h g = then_begins made v.made (f v.made).made h (g v.made)

mutual
  pub lifted_begins : (s : ElaborationContext) (e : ExprTree) → Lifts (lifted s e)
  lifted_begins s (IffOf p a b) made = binary_begins s.numbers a b (lifted s a) (lifted s b) (core.IffExpr p) (lifted_begins s a) (lifted_begins s b) made
  lifted_begins s (ImpliesOf p a b) made = lazily_begins s.numbers p a b (fails p) made (negated s.numbers a (lifted s a) made) (lifted_of s.numbers b (lifted s b)) (negated_begins s.numbers a (lifted s a) (lifted_begins s a) made) (lifted_of_begins s.numbers b (lifted s b) (lifted_begins s b))
  lifted_begins s (BinaryOf p o a b) made = operation_begins s.numbers p o a b (lifted s a) (lifted s b) (lifted_begins s a) (lifted_begins s b) made
  lifted_begins s (IsOf p e t) made = operand_begins s.numbers any_object e (lifted s e) (lifted_begins s e) made
  lifted_begins s (AsOf p e t) made = operand_begins s.numbers any_object e (lifted s e) (lifted_begins s e) made
  lifted_begins s (NegateOf p e) made = operand_begins s.numbers any_object e (lifted s e) (lifted_begins s e) made
  lifted_begins s (NotOf p e) made = operand_begins s.numbers any_object e (lifted s e) (lifted_begins s e) made
  lifted_begins s (CastOf p t non_null e) made = operand_begins s.numbers any_object e (lifted s e) (lifted_begins s e) made
  lifted_begins s (FieldOf p e f t) made = operand_begins s.numbers any_object e (lifted s e) (lifted_begins s e) made
  lifted_begins s (ElementOf p a i) made = binary_begins s.numbers a i (lifted s a) (lifted s i) (core.ElementExpr p) (lifted_begins s a) (lifted_begins s i) made
  lifted_begins s (LengthOf p e) made = operand_begins s.numbers any_object e (lifted s e) (lifted_begins s e) made
  lifted_begins s (NewOf p t es) made = operands_begin s.numbers es (in_temporaries s (types_of_constructor s t) es) (in_temporaries_begin s (types_of_constructor s t) es) made
  lifted_begins s (NewArrayOf p t e) made =
      operands_begin s.numbers (Argument e NoMore) (λ m. and_operands (operand s.numbers any_object e (lifted s e) m) no_operands)
      (λ m. and_begins m (operand s.numbers any_object e (lifted s e) m) no_operands (operand_begins s.numbers any_object e (lifted s e) (lifted_begins s e) m) begins_itself) made
  lifted_begins s (CallOf p e m t es) made =
      operands_begin s.numbers (Argument e es) (λ k. and_operands (operand s.numbers any_object e (lifted s e) k) (in_temporaries s (types_of_method s (static_class e) m) es))
      (λ k. and_begins k (operand s.numbers any_object e (lifted s e) k) (in_temporaries s (types_of_method s (static_class e) m) es) (operand_begins s.numbers any_object e (lifted s e) (lifted_begins s e) k) (in_temporaries_begin s (types_of_method s (static_class e) m) es)) made
  lifted_begins s (StaticOf p n t es) made = operands_begin s.numbers es (in_temporaries s (types_of_written s n) es) (in_temporaries_begin s (types_of_written s n) es) made
  lifted_begins s (BaseOf p m t es) made = operands_begin s.numbers es (in_temporaries s (types_of_method s (above_of s.program s.body.class) m) es) (in_temporaries_begin s (types_of_method s (above_of s.program s.body.class) m) es) made
  lifted_begins s e made = begins_itself made

  pub in_temporaries_begin : (s : ElaborationContext) (ts : List Ty) (es : Arguments) → Lists (in_temporaries s ts es)
  in_temporaries_begin s ts NoMore made = begins_itself made
  in_temporaries_begin s ts (Argument e es) made =
      and_begins made (operand s.numbers (first_type ts) e (lifted s e) made) (in_temporaries s (other_types ts) es) (operand_begins s.numbers (first_type ts) e (lifted s e) (lifted_begins s e) made) (in_temporaries_begin s (other_types ts) es)

pub right_begins : (s : ElaborationContext) (e : ExprTree) → Lifts (right_side s e)
right_begins s e made = lifted_of_begins s.numbers e (lifted s e) (lifted_begins s e) made

pub value_begins : (s : ElaborationContext) (e : ExprTree) → Values (value s e)
value_begins s e made = then_begins made (right_side s e made).made (value s e made).made (right_begins s e made) (valued_from_begins s.numbers e (right_side s e made) (right_side s e made).source)
