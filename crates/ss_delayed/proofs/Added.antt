-- What the parts of chains and paths add to the places where `this` stands.
use Rattle.std.proofs.Common.{◌≡◌, ◌++◌, ℕ, List, [], ◌∷◌, map, Bool, true, false, Vec, Box, Global, String, refl, sym, ap, ◌∙◌, append_assoc, append-nil}
use Rattle.std.specs.Prelude.{◌&&◌, Option}
use Rattle.ss_core.specs.declared.names.Place.{Place}
use Rattle.ss_core.specs.declared.names.Ty.{Ty}
use Rattle.ss_core.specs.declared.expr.Quantifier.{Quantifier}
use Rattle.ss_typed.specs.declared.expr.TypedExpr.{TypedExpr}
use Rattle.ss_typed.specs.declared.expr.TypedLink.{TypedLink}
use Rattle.ss_typed.specs.declared.expr.TypedStep.{TypedStep}
use Rattle.ss_typed.specs.declared.expr.TypedExpr.TheFolds.{fold-roll-TypedExpr}
use Rattle.ss_typed.specs.declared.expr.TypedExpr.TheViews as view
use Rattle.ss_typed.specs.declared.expr.TypedExpr.TheVariants.{rolls-Base}
use Rattle.ss_typed.specs.declared.expr.TypedExpr.TheOpen as shape
use Rattle.ss_typed.specs.declared.expr.TypedExpr.TheOpen.{TypedLink-F, TypedStep-F}
use Rattle.ss_typed.specs.Tree.{ExprTree, FieldOf, BaseOf, arguments}
use Rattle.ss_typed.specs.View.{Behind, grouped, expr_step, link_step, step_step, expr}
use Rattle.ss_typed.specs.Shapes.{is_this}
use Rattle.ss_delayed_rules.specs.Escapes.{Use, ForFields, NotAtAll, may_read, uses, uses_each}
use Rattle.ss_typed.specs.Parts.{link_after, step_after}
use Rattle.ss_typed.proofs.Grouping.{chain_is, link_shape, path_is, step_shape, quantified_is}
use Rattle.ss_typed.proofs.OwnFields.{no_this_after}
use Rattle.ss_delayed.specs.Parts.{no_place, nothing, link_uses, links_uses, step_uses, steps_uses, is_field, is_allowed_read, unless}

-- ---- chains

link_added : (u : Use) (s : TypedLink-F ExprTree Behind Behind) (p : Place) (t : ExprTree) → uses u (link_step s p t) ≡ uses u t ++ uses u (link_step s no_place nothing)
link_added u (shape.Operation op e) p t = refl
link_added u (shape.Is c) p t = sym (append-nil (uses u t))
link_added u (shape.As c) p t = sym (append-nil (uses u t))

uses_link : (u : Use) (l : TypedLink) (p : Place) (t : ExprTree) → uses u (link_after l p t) ≡ uses u t ++ link_uses u l
uses_link u l p t =
    let s = link_shape l in
    ap (λ (b : Behind). uses u (b p t)) s.is ∙ link_added u s.shape p t ∙ sym (ap (λ (b : Behind). uses u t ++ uses u (b no_place nothing)) s.is)

uses_links : (u : Use) (p : Place) (t : ExprTree) (ls : List TypedLink) → uses u (grouped p t (map link_after ls)) ≡ uses u t ++ links_uses u ls
uses_links u p t [] = sym (append-nil (uses u t))
uses_links u p t (l ∷ ls) =
    uses_links u p (link_after l p t) ls
    ∙ ap (λ x. x ++ links_uses u ls) (uses_link u l p t)
    ∙ append_assoc (uses u t) (link_uses u l) (links_uses u ls)

-- after a chain
pub chain_found : (u : Use) (p : Place) (first : Box TypedExpr Global) (links : Vec TypedLink Global) (e : TypedExpr) (l : List TypedLink) (x : TypedExpr) (f0 f1 f2 : List Place)
    → e ≡ view.Chain p first links → x ≡ first.value → l ≡ links.items → f1 ≡ f0 ++ uses u (expr x) → f2 ≡ f1 ++ links_uses u l → f2 ≡ f0 ++ uses u (expr e)
chain_found u p first links e l x f0 f1 f2 is x_is l_is a b =
    b ∙ ap (λ z. z ++ links_uses u l) a ∙ append_assoc f0 (uses u (expr x)) (links_uses u l)
    ∙ ap (λ z. f0 ++ (uses u (expr z) ++ links_uses u l)) x_is
    ∙ ap (λ z. f0 ++ (uses u (expr first.value) ++ links_uses u z)) l_is
    ∙ ap (λ z. f0 ++ z) (sym (uses_links u p (expr first.value) links.items))
    ∙ ap (λ z. f0 ++ uses u z) (sym (chain_is p first links))
    ∙ ap (λ z. f0 ++ uses u (expr z)) (sym is)

-- ---- paths

field_adds_none : (u : Use) (p : Place) (f : ℕ) (ty : Ty) → uses u (FieldOf p nothing f ty) ≡ []
field_adds_none ForFields p f ty = refl
field_adds_none NotAtAll p f ty = refl

step_added : (u : Use) (s : TypedStep-F ExprTree Behind Behind) (p : Place) (t : ExprTree)
    → uses u (step_step s p t) ≡ unless (is_field (step_step s no_place nothing) && (may_read u && is_this t)) (uses u t) ++ uses u (step_step s no_place nothing)
step_added u (shape.Field f ty) p t =
    let before = unless (may_read u && is_this t) (uses u t) in
    sym (ap (λ z. before ++ z) (field_adds_none u no_place f.0 ty) ∙ append-nil before)
step_added u (shape.Element e) p t = refl
step_added u shape.Length p t = sym (append-nil (uses u t))
step_added u (shape.Call m ty es) p t = refl

uses_step : (u : Use) (s : TypedStep) (p : Place) (t : ExprTree)
    → uses u (step_after s p t) ≡ unless (is_field (step_after s no_place nothing) && (may_read u && is_this t)) (uses u t) ++ step_uses u s
uses_step u s p t =
    let made = step_shape s in
    ap (λ (b : Behind). uses u (b p t)) made.is ∙ step_added u made.shape p t
    ∙ sym (ap (λ (b : Behind). unless (is_field (b no_place nothing) && (may_read u && is_this t)) (uses u t) ++ uses u (b no_place nothing)) made.is)

never : (a b : Bool) → (a && (b && false)) ≡ false
never true true = refl
never true false = refl
never false b = refl

-- no field of `this` is read after what isn't `this`
not_this_read : (u : Use) (a : Bool) (t : ExprTree) → is_this t ≡ false → unless (a && (may_read u && is_this t)) (uses u t) ≡ uses u t
not_this_read u a t n = ap (λ x. unless (a && (may_read u && x)) (uses u t)) n ∙ ap (λ x. unless x (uses u t)) (never a (may_read u))

uses_steps : (u : Use) (p : Place) (t : ExprTree) (ss : List TypedStep) → is_this t ≡ false → uses u (grouped p t (map step_after ss)) ≡ uses u t ++ steps_uses u ss
uses_steps u p t [] n = sym (append-nil (uses u t))
uses_steps u p t (s ∷ ss) n =
    uses_steps u p (step_after s p t) ss (no_this_after s p t)
    ∙ ap (λ x. x ++ steps_uses u ss) (uses_step u s p t ∙ ap (λ x. x ++ step_uses u s) (not_this_read u (is_field (step_after s no_place nothing)) t n))
    ∙ append_assoc (uses u t) (step_uses u s) (steps_uses u ss)

uses_path : (u : Use) (p : Place) (t : ExprTree) (ss : List TypedStep) → uses u (grouped p t (map step_after ss)) ≡ unless (is_allowed_read u t ss) (uses u t) ++ steps_uses u ss
uses_path u p t [] = sym (append-nil (uses u t))
uses_path u p t (s ∷ ss) =
    uses_steps u p (step_after s p t) ss (no_this_after s p t)
    ∙ ap (λ x. x ++ steps_uses u ss) (uses_step u s p t)
    ∙ append_assoc (unless (is_allowed_read u t (s ∷ ss)) (uses u t)) (step_uses u s) (steps_uses u ss)

-- after a path
pub path_found : (u : Use) (p : Place) (first : Box TypedExpr Global) (steps : Vec TypedStep Global) (e : TypedExpr) (l m : List TypedStep) (x y : TypedExpr) (b : Bool) (f0 f1 f2 : List Place)
    → e ≡ view.Path p first steps → x ≡ first.value → y ≡ first.value → l ≡ steps.items → m ≡ steps.items → b ≡ is_allowed_read u (expr y) m
    → f1 ≡ f0 ++ unless b (uses u (expr x)) → f2 ≡ f1 ++ steps_uses u l → f2 ≡ f0 ++ uses u (expr e)
path_found u p first steps e l m x y b f0 f1 f2 is x_is y_is l_is m_is b_is f1_is f2_is =
    f2_is ∙ ap (λ z. z ++ steps_uses u l) f1_is ∙ append_assoc f0 (unless b (uses u (expr x))) (steps_uses u l)
    ∙ ap (λ z. f0 ++ (unless z (uses u (expr x)) ++ steps_uses u l)) (b_is ∙ ap (λ z. is_allowed_read u (expr z) m) y_is ∙ ap (λ z. is_allowed_read u (expr first.value) z) m_is)
    ∙ ap (λ z. f0 ++ (unless (is_allowed_read u (expr first.value) steps.items) (uses u (expr z)) ++ steps_uses u l)) x_is
    ∙ ap (λ z. f0 ++ (unless (is_allowed_read u (expr first.value) steps.items) (uses u (expr first.value)) ++ steps_uses u z)) l_is
    ∙ ap (λ z. f0 ++ z) (sym (uses_path u p (expr first.value) steps.items))
    ∙ ap (λ z. f0 ++ uses u z) (sym (path_is p first steps))
    ∙ ap (λ z. f0 ++ uses u (expr z)) (sym is)

-- ---- quantifiers and calls of `base`

three_added : (f0 f1 f2 f3 a b c : List Place) → f1 ≡ f0 ++ a → f2 ≡ f1 ++ b → f3 ≡ f2 ++ c → f3 ≡ f0 ++ (a ++ b ++ c)
three_added f0 f1 f2 f3 a b c x y z =
    z ∙ ap (λ w. w ++ c) (y ∙ ap (λ w. w ++ b) x ∙ append_assoc f0 a b) ∙ append_assoc f0 (a ++ b) c

pub quantified_found : (u : Use) (p : Place) (q : Quantifier) (n : String Global) (low high m : Box TypedExpr Global) (e x y z : TypedExpr) (f0 f1 f2 f3 : List Place)
    → e ≡ view.Quantified p q n low high m → x ≡ low.value → y ≡ high.value → z ≡ m.value
    → f1 ≡ f0 ++ uses u (expr x) → f2 ≡ f1 ++ uses u (expr y) → f3 ≡ f2 ++ uses u (expr z) → f3 ≡ f0 ++ uses u (expr e)
quantified_found u p q n low high m e x y z f0 f1 f2 f3 is x_is y_is z_is a b c =
    three_added f0 f1 f2 f3 (uses u (expr x)) (uses u (expr y)) (uses u (expr z)) a b c
    ∙ ap (λ w. f0 ++ (uses u (expr w) ++ uses u (expr y) ++ uses u (expr z))) x_is
    ∙ ap (λ w. f0 ++ (uses u (expr low.value) ++ uses u (expr w) ++ uses u (expr z))) y_is
    ∙ ap (λ w. f0 ++ (uses u (expr low.value) ++ uses u (expr high.value) ++ uses u (expr w))) z_is
    ∙ ap (λ w. f0 ++ uses u w) (sym (quantified_is p q n low high m))
    ∙ ap (λ w. f0 ++ uses u (expr w)) (sym is)

base_is : (p : Place) (m : ℕ) (t : Option Ty) (list : Vec TypedExpr Global) → expr (view.Base p m t list) ≡ BaseOf p m t (arguments (map expr list.items))
base_is p m t list = ap expr (sym (rolls-Base p m t list)) ∙ fold-roll-TypedExpr ExprTree Behind Behind expr_step link_step step_step (shape.Base p m t list)

pub base_found : (u : Use) (p : Place) (m : ℕ) (t : Option Ty) (list : Vec TypedExpr Global) (e : TypedExpr) (l : List TypedExpr) (f0 f1 f2 : List Place)
    → e ≡ view.Base p m t list → l ≡ list.items → f1 ≡ f0 ++ p ∷ [] → f2 ≡ f1 ++ uses_each u (arguments (map expr l)) → f2 ≡ f0 ++ uses u (expr e)
base_found u p m t list e l f0 f1 f2 is l_is a b =
    b ∙ ap (λ w. w ++ uses_each u (arguments (map expr l))) a
    ∙ append_assoc f0 (p ∷ []) (uses_each u (arguments (map expr l)))
    ∙ ap (λ w. f0 ++ p ∷ uses_each u (arguments (map expr w))) l_is
    ∙ ap (λ w. f0 ++ uses u w) (sym (base_is p m t list))
    ∙ ap (λ w. f0 ++ uses u (expr w)) (sym is)
