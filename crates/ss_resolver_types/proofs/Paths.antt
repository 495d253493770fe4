-- What a path by its postfixes is: an own field, or a call of `base`.
use Rattle.std.proofs.Common.{◌≡◌, ◌<◌, ◌≤◌, ℕ, length, get_or, true≢false, List, [], ◌∷◌, map, true, false, Some, None, Vec, Box, Global, refl, sym, ap, subst, ◌∙◌, arith}
use Rattle.std.specs.Prelude.{◌==◌, ◌&&◌}
use Rattle.ss_core.specs.declared.names.Place.{Place}
use Rattle.ss_ast.specs.declared.expr.Expr.{Expr}
use Rattle.ss_ast.specs.declared.expr.Expr.TheViews as view
use Rattle.ss_ast.specs.declared.expr.Expr.TheOpen as shape
use Rattle.ss_ast.specs.declared.expr.Expr.TheOpen.{Postfix-F}
use Rattle.ss_ast.specs.declared.expr.Postfix.{Postfix}
use Rattle.ss_ast.specs.Expressions.{ExprTree, Behind, grouped, postfix_step, Arguments, CallOf, BaseOf, name_tree, expr_tree}
use Rattle.ss_tables.specs.Scopes.{Scope}
use Rattle.ss_ast.specs.Parts.{postfix_after}
use Rattle.ss_resolver_types_expressions.specs.Members.{is_this, has_field, is_own_field}
use Rattle.ss_ast.proofs.Grouping.{postfix_shape, path_is}
use Rattle.ss_resolver_types.specs.Bodies.{is_base, base_arguments}

this_after : (x : Postfix-F ExprTree Behind Behind) (at : Place) (t : ExprTree) → is_this (postfix_step x at t) ≡ false
this_after (shape.Member n) at t = refl
this_after (shape.Element e) at t = refl
this_after (shape.Call es) at t = refl

base_after : (x : Postfix-F ExprTree Behind Behind) (at : Place) (t : ExprTree) → is_base (postfix_step x at t) ≡ false
base_after (shape.Member n) at t = refl
base_after (shape.Element e) at t = refl
base_after (shape.Call es) at t = refl

own_after : (k : ℕ) (s : Scope) (x : Postfix-F ExprTree Behind Behind) (at : Place) (t : ExprTree) → is_this t ≡ false → is_own_field k s (postfix_step x at t) ≡ false
own_after k s (shape.Member n) at t h = ap (λ b. b && has_field s.classes k (name_tree n).text) h
own_after k s (shape.Element e) at t h = refl
own_after k s (shape.Call es) at t h = refl

no_base : (p : Place) (t : ExprTree) (es : Arguments) → is_base t ≡ false → base_arguments (CallOf p t es) ≡ None
no_base p (BaseOf q) es h = absurd cc
no_base p t es h = refl

arguments_after : (x : Postfix-F ExprTree Behind Behind) (at : Place) (t : ExprTree) → is_base t ≡ false → base_arguments (postfix_step x at t) ≡ None
arguments_after (shape.Member n) at t h = refl
arguments_after (shape.Element e) at t h = refl
arguments_after (shape.Call es) at t h = no_base at t _ h

own_path : (k : ℕ) (s : Scope) (at : Place) (t : ExprTree) (l : Postfix) (ls : List Postfix) → is_this t ≡ false → is_own_field k s (grouped at t (map postfix_after (l ∷ ls))) ≡ false
own_path k s at t l [] h = ap (λ (b : Behind). is_own_field k s (b at t)) (postfix_shape l).is ∙ own_after k s (postfix_shape l).shape at t h
own_path k s at t l (m ∷ ls) h = own_path k s at (postfix_after l at t) m ls (ap (λ (b : Behind). is_this (b at t)) (postfix_shape l).is ∙ this_after (postfix_shape l).shape at t)

-- a path with two postfixes is no own field, and no call of `base`
pub own_long : (k : ℕ) (s : Scope) (at : Place) (t : ExprTree) (ls : List Postfix) → 2 ≤ length ls → is_own_field k s (grouped at t (map postfix_after ls)) ≡ false
own_long k s at t [] h = absurd (omega arith)
own_long k s at t (l ∷ []) h = absurd (omega arith)
own_long k s at t (l ∷ m ∷ ls) h = own_path k s at (postfix_after l at t) m ls (ap (λ (b : Behind). is_this (b at t)) (postfix_shape l).is ∙ this_after (postfix_shape l).shape at t)

arguments_path : (at : Place) (t : ExprTree) (l : Postfix) (ls : List Postfix) → is_base t ≡ false → base_arguments (grouped at t (map postfix_after (l ∷ ls))) ≡ None
arguments_path at t l [] h = ap (λ (b : Behind). base_arguments (b at t)) (postfix_shape l).is ∙ arguments_after (postfix_shape l).shape at t h
arguments_path at t l (m ∷ ls) h = arguments_path at (postfix_after l at t) m ls (ap (λ (b : Behind). is_base (b at t)) (postfix_shape l).is ∙ base_after (postfix_shape l).shape at t)

pub arguments_long : (at : Place) (t : ExprTree) (ls : List Postfix) → 2 ≤ length ls → base_arguments (grouped at t (map postfix_after ls)) ≡ None
arguments_long at t [] h = absurd (omega arith)
arguments_long at t (l ∷ []) h = absurd (omega arith)
arguments_long at t (l ∷ m ∷ ls) h = arguments_path at (postfix_after l at t) m ls (ap (λ (b : Behind). is_base (b at t)) (postfix_shape l).is ∙ base_after (postfix_shape l).shape at t)

pub no_call : (p : Place) (t : ExprTree) (es : Arguments) → false ≡ is_base t → base_arguments (CallOf p t es) ≡ None
no_call p t es h = no_base p t es (sym h)

pub is_call : (p : Place) (t : ExprTree) (es : Arguments) → true ≡ is_base t → base_arguments (CallOf p t es) ≡ Some (p, es)
is_call p (BaseOf q) es h = refl
is_call p t es h = absurd cc

-- a path with one postfix
pub one_after : (at : Place) (t : ExprTree) (ls : List Postfix) (l : Postfix) → l ≡ get_or ls 0 l → 0 < length ls → length ls < 2 → grouped at t (map postfix_after ls) ≡ postfix_after l at t
one_after at t [] l e h k = absurd (omega arith)
one_after at t (x ∷ []) l e h k = ap (λ (y : Postfix). postfix_after y at t) (sym e)
one_after at t (x ∷ y ∷ ls) l e h k = absurd (omega arith)

pub own_one : (k : ℕ) (s : Scope) (at : Place) (t : ExprTree) (ls : List Postfix) (l : Postfix) → l ≡ get_or ls 0 l → 0 < length ls → length ls < 2
    → is_own_field k s (grouped at t (map postfix_after ls)) ≡ is_own_field k s (postfix_after l at t)
own_one k s at t ls l e h m = ap (is_own_field k s) (one_after at t ls l e h m)

pub arguments_one : (at : Place) (t : ExprTree) (ls : List Postfix) (l : Postfix) → l ≡ get_or ls 0 l → 0 < length ls → length ls < 2
    → base_arguments (grouped at t (map postfix_after ls)) ≡ base_arguments (postfix_after l at t)
arguments_one at t ls l e h m = ap base_arguments (one_after at t ls l e h m)

-- there is a postfix
pub some_postfix : (ls : List Postfix) (n : ℕ) → n ≡ length ls → false ≡ (n == 0) → 0 < length ls
some_postfix [] n e h = absurd (true≢false (sym (h ∙ ap (λ k. k == 0) e)))
some_postfix (l ∷ ls) n e h = omega arith

-- what a path with a postfix is, by its parts as the code has them
pub path_there : {X : Type 0} (shown : ExprTree → X) (at : Place) (first : Box Expr Global) (postfixes : Vec Postfix Global) (e f : Expr) (ls : List Postfix) (x : X) (n : ℕ)
    → (0 < length ls → x ≡ shown (grouped at (expr_tree f) (map postfix_after ls))) → e ≡ view.Path at first postfixes → f ≡ first.value → ls ≡ postfixes.items
    → n ≡ length postfixes.items → false ≡ (n == 0) → x ≡ shown (expr_tree e)
path_there shown at first postfixes e f ls x n here is f_is ls_is n_is some =
    let more : 0 < length ls = subst (λ (xs : List Postfix). 0 < length xs) (sym ls_is) (some_postfix postfixes.items n n_is some) in
    here more ∙ ap (λ (y : Expr). shown (grouped at (expr_tree y) (map postfix_after ls))) f_is
    ∙ ap (λ (xs : List Postfix). shown (grouped at (expr_tree first.value) (map postfix_after xs))) ls_is
    ∙ sym (ap (λ (y : Expr). shown (expr_tree y)) is ∙ ap shown (path_is at first postfixes))
