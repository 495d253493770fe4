-- One more part of a chain or a path is resolved.
use Rattle.std.proofs.Common.{ℕ, length, ◌≡◌, ◌+◌, ◌-◌, true, List, Option, refl, sym, ap, ◌∙◌, map, arith}
use Rattle.std.specs.Prelude.{option_and_then}
use Rattle.ss_core.specs.declared.names.Place.{Place}
use Rattle.ss_core.specs.declared.names.Ty.{Ty}
use Rattle.ss_core.specs.declared.expr.Operator.{Operator}
use Rattle.ss_ast.specs.Expressions.{TypeTree, arguments}
use Rattle.ss_ast.specs.Expressions as text
use Rattle.ss_tables.specs.Types.{written_type, array_type, class_of, element_type}
use Rattle.ss_tables.specs.Statics.{Receiver, static, receiver, call_type, called_with, count, cast_type}
use Rattle.ss_typed.specs.Tree.{ExprTree, BinaryOf, IsOf, AsOf, ElementOf}
use Rattle.ss_typed.specs.Tree as typed
use Rattle.ss_resolver_rules.specs.Names.{Env}
use Rattle.ss_resolver_rules.specs.Numbers.{class_id, written_class, array_class}
use Rattle.ss_resolver_rules.specs.Expressions.{expr, call}
use Rattle.ss_resolver_expressions.specs.Environments.{Part, AnOther, part, part_value, part_type, part_callee, part_called}
use Rattle.ss_resolver_expressions.specs.LocalContext.{LocalContext, within_member, after_member}
use Rattle.ss_resolver_expressions.proofs.PartIs.{value_is, type_is, callee_is, called_is, args_are, count_is}

read : (e : Env) (t : text.ExprTree) (x : Part) (left : ExprTree) → x ≡ part e t → left ≡ part_value e x → left ≡ expr e t
read e t x left h l = l ∙ ap (part_value e) h ∙ value_is e t

pub paren_done : (e : Env) (at : Place) (t : text.ExprTree) (x : Part) (inner : ExprTree) (y : Option Ty)
    → x ≡ part e t → y ≡ part_type e x → inner ≡ part_value e x → AnOther y inner ≡ part e (text.ParenOf at t)
paren_done e at t x inner y h z l =
    ap (λ v. AnOther v inner) (z ∙ ap (part_type e) h ∙ type_is e t) ∙ ap (AnOther (static e.scope t)) (read e t x inner h l)

pub old_done : (e : Env) (p : Place) (t : text.ExprTree) (x : Part) (inner whole : ExprTree) (y : Option Ty)
    → x ≡ part e t → y ≡ part_type e x → inner ≡ part_value e x → whole ≡ typed.OldOf p inner → AnOther y whole ≡ part e (text.OldOf p t)
old_done e p t x inner whole y h z l w =
    ap (λ v. AnOther v whole) (z ∙ ap (part_type e) h ∙ type_is e t) ∙ ap (AnOther (static e.scope t)) (w ∙ ap (typed.OldOf p) (read e t x inner h l))

pub cast_done : (e : Env) (p : Place) (c : TypeTree) (t : text.ExprTree) (inner whole : ExprTree) (k : ℕ) (y : Option Ty)
    → inner ≡ expr e t → k ≡ written_class e.scope.classes c → whole ≡ typed.CastOf p k c.non_null inner → y ≡ cast_type (written_type e.scope.classes c)
    → AnOther y whole ≡ part e (text.CastOf p c t)
cast_done e p c t inner whole k y h j w z =
    ap (λ v. AnOther v whole) z ∙ ap (AnOther (cast_type (written_type e.scope.classes c))) (w ∙ ap (λ k. typed.CastOf p k c.non_null inner) j ∙ ap (typed.CastOf p (written_class e.scope.classes c) c.non_null) h)

pub new_done : (e : Env) (p : Place) (n : text.NameTree) (es : List text.ExprTree) (given : List ExprTree) (whole : ExprTree) (k : ℕ) (y : Option Ty)
    → given ≡ map (expr e) es → k ≡ class_id e.scope.classes n.text → whole ≡ typed.NewOf p k (typed.arguments given) → y ≡ static e.scope (text.NewOf p n (arguments es))
    → AnOther y whole ≡ part e (text.NewOf p n (arguments es))
new_done e p n es given whole k y h j w z =
    ap (λ v. AnOther v whole) z
    ∙ ap (AnOther (static e.scope (text.NewOf p n (arguments es)))) (w ∙ ap (λ k. typed.NewOf p k (typed.arguments given)) j ∙ ap (typed.NewOf p (class_id e.scope.classes n.text)) (ap typed.arguments h ∙ args_are e es))

pub new_array_done : (e : Env) (p q : Place) (n : text.TypeNameTree) (t : text.ExprTree) (size whole : ExprTree) (k : ℕ) (y : Option Ty)
    → size ≡ expr e t → k ≡ array_class e.scope.classes n → whole ≡ typed.NewArrayOf p k size → y ≡ array_type e.scope.classes true n
    → AnOther y whole ≡ part e (text.NewArrayOf p q n t)
new_array_done e p q n t size whole k y h j w z =
    ap (λ v. AnOther v whole) z ∙ ap (AnOther (array_type e.scope.classes true n)) (w ∙ ap (λ k. typed.NewArrayOf p k size) j ∙ ap (typed.NewArrayOf p (array_class e.scope.classes n)) h)

pub operation_done : (e : Env) (p : Place) (t u : text.ExprTree) (o : Operator) (x : Part) (left right whole : ExprTree)
    → x ≡ part e t → left ≡ part_value e x → right ≡ expr e u → whole ≡ BinaryOf p o left right
    → whole ≡ expr e (text.BinaryOf p o t u)
operation_done e p t u o x left right whole h l i w =
    let same = read e t x left h l in
    w ∙ ap (λ a. BinaryOf p o a right) same ∙ ap (λ b. BinaryOf p o (expr e t) b) i

pub is_done : (e : Env) (p : Place) (t : text.ExprTree) (c : TypeTree) (x : Part) (left whole : ExprTree) (k : ℕ)
    → x ≡ part e t → left ≡ part_value e x → k ≡ written_class e.scope.classes c → whole ≡ IsOf p left k
    → whole ≡ expr e (text.IsOf p t c)
is_done e p t c x left whole k h l j w =
    let same = read e t x left h l in
    w ∙ ap (λ k. IsOf p left k) j ∙ ap (λ a. IsOf p a (written_class e.scope.classes c)) same

pub as_done : (e : Env) (p : Place) (t : text.ExprTree) (c : TypeTree) (x : Part) (left whole : ExprTree) (k : ℕ)
    → x ≡ part e t → left ≡ part_value e x → k ≡ written_class e.scope.classes c → whole ≡ AsOf p left k
    → whole ≡ expr e (text.AsOf p t c)
as_done e p t c x left whole k h l j w =
    let same = read e t x left h l in
    w ∙ ap (λ k. AsOf p left k) j ∙ ap (λ a. AsOf p a (written_class e.scope.classes c)) same

pub element_done : (e : Env) (p : Place) (t u : text.ExprTree) (x : Part) (object index whole : ExprTree) (y z : Option Ty)
    → x ≡ part e t → object ≡ part_value e x → index ≡ expr e u → whole ≡ ElementOf p object index → z ≡ part_type e x → y ≡ option_and_then element_type (option_and_then class_of z)
    → AnOther y whole ≡ part e (text.ElementOf p t u)
element_done e p t u x object index whole y z h l i w k j =
    let same = read e t x object h l in
    ap (λ v. AnOther y v) (w ∙ ap (λ a. ElementOf p a index) same ∙ ap (λ b. ElementOf p (expr e t) b) i)
    ∙ ap (λ y. AnOther y (ElementOf p (expr e t) (expr e u))) (j ∙ ap (λ z. option_and_then element_type (option_and_then class_of z)) (k ∙ ap (part_type e) h ∙ type_is e t))

pub call_done : (e : Env) (p : Place) (t : text.ExprTree) (es : List text.ExprTree) (x : Part) (given : List ExprTree) (whole : ExprTree) (n : ℕ) (y : Option Ty)
    → x ≡ part e t → given ≡ map (expr e) es → whole ≡ part_called e p (arguments es) (typed.arguments given) x → n ≡ length given
    → y ≡ call_type e.scope.classes (called_with n (part_callee e x))
    → AnOther y whole ≡ part e (text.CallOf p t (arguments es))
call_done e p t es x given whole n y h g w many z =
    ap (λ v. AnOther y v) (w ∙ ap (λ x. part_called e p (arguments es) (typed.arguments given) x) h ∙ called_is e p (arguments es) (typed.arguments given) t
    ∙ ap (λ g. call e p (arguments es) g t) (ap typed.arguments g ∙ args_are e es))
    ∙ ap (λ y. AnOther y (expr e (text.CallOf p t (arguments es)))) (z ∙ ap (λ k. call_type e.scope.classes (called_with k (part_callee e x))) (many ∙ ap length g ∙ count_is e es)
    ∙ ap (λ x. call_type e.scope.classes (called_with (count (arguments es)) (part_callee e x))) h ∙ ap (λ c. call_type e.scope.classes (called_with (count (arguments es)) c)) (callee_is e t))

pub member_left : (a : LocalContext) (n : List ℕ) → after_member (within_member a n) ≡ a
member_left a n = let e : a.bound + 1 - 1 ≡ a.bound = omega arith in ap (λ b. record a { bound = b }) e
