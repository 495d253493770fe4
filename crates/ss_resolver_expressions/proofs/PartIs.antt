-- What is known of an expression along a path is what it is.
use Rattle.std.proofs.Common.{ℕ, suc, add-one, length, ◌≡◌, List, [], ◌∷◌, Option, Some, None, refl, sym, ap, ◌∙◌, map}
use Rattle.std.specs.Prelude.{unwrap_or, slice_get}
use Rattle.ss_core.specs.declared.names.Place.{Place}
use Rattle.ss_ast.specs.Expressions.{NameOf, BaseOf, MemberOf, Arguments, NoMore, Argument, arguments}
use Rattle.ss_ast.specs.Expressions as text
use Rattle.ss_tables.specs.Statics.{static, receiver, callee, count}
use Rattle.ss_typed.specs.Tree as typed
use Rattle.ss_resolver_rules.specs.Names.{Env}
use Rattle.ss_resolver_rules.specs.Expressions.{expr, call, args, class_named_by, first_class, third_class}
use Rattle.ss_resolver_expressions.specs.Environments.{part, part_value, part_type, part_receiver, part_callee, part_called, part_class}

pub value_is : (e : Env) (t : text.ExprTree) → part_value e (part e t) ≡ expr e t
value_is e (NameOf p n) = refl
value_is e (BaseOf p) = refl
value_is e (MemberOf p a n) = refl
value_is e t = refl

pub type_is : (e : Env) (t : text.ExprTree) → part_type e (part e t) ≡ static e.scope t
type_is e (NameOf p n) = refl
type_is e (BaseOf p) = refl
type_is e (MemberOf p a n) = refl
type_is e t = refl

pub receiver_is : (e : Env) (t : text.ExprTree) → part_receiver e (part e t) ≡ receiver e.scope t (static e.scope t)
receiver_is e (NameOf p n) = refl
receiver_is e (BaseOf p) = refl
receiver_is e (MemberOf p a n) = refl
receiver_is e t = refl

pub callee_is : (e : Env) (t : text.ExprTree) → part_callee e (part e t) ≡ callee e.scope t
callee_is e (NameOf p n) = refl
callee_is e (BaseOf p) = refl
callee_is e (MemberOf p a n) = refl
callee_is e t = refl

pub called_is : (e : Env) (p : Place) (es : Arguments) (given : typed.Arguments) (t : text.ExprTree) → part_called e p es given (part e t) ≡ call e p es given t
called_is e p es given (NameOf q n) = refl
called_is e p es given (BaseOf q) = refl
called_is e p es given (MemberOf q a n) = refl
called_is e p es given t = refl

pub class_is : (e : Env) (t : text.ExprTree) → part_class e (part e t) ≡ class_named_by e t
class_is e (NameOf p n) = refl
class_is e (BaseOf p) = refl
class_is e (MemberOf p a n) = refl
class_is e t = refl

-- ---- arguments

pub args_are : (e : Env) (ts : List text.ExprTree) → typed.arguments (map (expr e) ts) ≡ args e (arguments ts)
args_are e [] = refl
args_are e (t ∷ ts) = ap (typed.Argument (expr e t)) (args_are e ts)

pub count_is : (e : Env) (ts : List text.ExprTree) → length (map (expr e) ts) ≡ count (arguments ts)
count_is e [] = refl
count_is e (t ∷ ts) = ap suc (count_is e ts) ∙ sym (add-one (count (arguments ts)))

pub first_is : (e : Env) (ts : List text.ExprTree) → unwrap_or (slice_get (map (class_named_by e) ts) 0) 0 ≡ first_class e (arguments ts)
first_is e [] = refl
first_is e (t ∷ ts) = refl

pub third_is : (e : Env) (ts : List text.ExprTree) → unwrap_or (slice_get (map (class_named_by e) ts) 2) 0 ≡ third_class e (arguments ts)
third_is e [] = refl
third_is e (t ∷ []) = refl
third_is e (t ∷ u ∷ []) = refl
third_is e (t ∷ u ∷ v ∷ ts) = refl
