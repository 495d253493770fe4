-- What the parts of chains and paths add to the places of words.
use Rattle.std.proofs.Common.{◌≡◌, ◌++◌, List, [], ◌∷◌, map, Vec, Box, Global, String, refl, sym, ap, ◌∙◌, append_assoc, append-nil}
use Rattle.ss_core.specs.declared.names.Place.{Place}
use Rattle.ss_core.specs.declared.expr.Quantifier.{Quantifier}
use Rattle.ss_typed.specs.declared.expr.TypedExpr.{TypedExpr}
use Rattle.ss_typed.specs.declared.expr.TypedLink.{TypedLink}
use Rattle.ss_typed.specs.declared.expr.TypedStep.{TypedStep}
use Rattle.ss_typed.specs.declared.expr.TypedExpr.TheViews as view
use Rattle.ss_typed.specs.declared.expr.TypedExpr.TheOpen as shape
use Rattle.ss_typed.specs.declared.expr.TypedExpr.TheOpen.{TypedLink-F, TypedStep-F}
use Rattle.ss_typed.specs.Tree.{ExprTree}
use Rattle.ss_typed.specs.View.{Behind, grouped, link_step, step_step, expr}
use Rattle.ss_typed.specs.Parts.{link_after, step_after}
use Rattle.ss_typed.proofs.Grouping.{chain_is, link_shape, path_is, step_shape, quantified_is}
use Rattle.ss_owners_rules.specs.Words.{Allowed, misplaced}
use Rattle.ss_owners.specs.Parts.{no_place, nothing, link_words, links_words, step_words, steps_words}

-- one list after another
pub joined : (f0 f1 f2 x y : List Place) → f1 ≡ f0 ++ x → f2 ≡ f1 ++ y → f2 ≡ f0 ++ (x ++ y)
joined f0 f1 f2 x y p q = q ∙ ap (λ (l : List Place). l ++ y) p ∙ append_assoc f0 x y

pub three_joined : (f0 f1 f2 f3 a b c : List Place) → f1 ≡ f0 ++ a → f2 ≡ f1 ++ b → f3 ≡ f2 ++ c → f3 ≡ f0 ++ (a ++ b ++ c)
three_joined f0 f1 f2 f3 a b c x y z = joined f0 f2 f3 (a ++ b) c (joined f0 f1 f2 a b x y) z

-- ---- chains

link_added : (a : Allowed) (s : TypedLink-F ExprTree Behind Behind) (p : Place) (t : ExprTree) → misplaced a (link_step s p t) ≡ misplaced a t ++ misplaced a (link_step s no_place nothing)
link_added a (shape.Operation op e) p t = refl
link_added a (shape.Is c) p t = sym (append-nil (misplaced a t))
link_added a (shape.As c) p t = sym (append-nil (misplaced a t))

words_link : (a : Allowed) (l : TypedLink) (p : Place) (t : ExprTree) → misplaced a (link_after l p t) ≡ misplaced a t ++ link_words a l
words_link a l p t =
    let s = link_shape l in
    ap (λ (b : Behind). misplaced a (b p t)) s.is ∙ link_added a s.shape p t ∙ sym (ap (λ (b : Behind). misplaced a t ++ misplaced a (b no_place nothing)) s.is)

words_links : (a : Allowed) (p : Place) (t : ExprTree) (ls : List TypedLink) → misplaced a (grouped p t (map link_after ls)) ≡ misplaced a t ++ links_words a ls
words_links a p t [] = sym (append-nil (misplaced a t))
words_links a p t (l ∷ ls) =
    words_links a p (link_after l p t) ls
    ∙ ap (λ x. x ++ links_words a ls) (words_link a l p t)
    ∙ append_assoc (misplaced a t) (link_words a l) (links_words a ls)

pub chain_found : (a : Allowed) (p : Place) (first : Box TypedExpr Global) (links : Vec TypedLink Global) (e : TypedExpr) (l : List TypedLink) (x : TypedExpr) (f0 f1 f2 : List Place)
    → e ≡ view.Chain p first links → x ≡ first.value → l ≡ links.items → f1 ≡ f0 ++ misplaced a (expr x) → f2 ≡ f1 ++ links_words a l → f2 ≡ f0 ++ misplaced a (expr e)
chain_found a p first links e l x f0 f1 f2 is x_is l_is f1_is f2_is =
    joined f0 f1 f2 (misplaced a (expr x)) (links_words a l) f1_is f2_is
    ∙ ap (λ z. f0 ++ (misplaced a (expr z) ++ links_words a l)) x_is
    ∙ ap (λ z. f0 ++ (misplaced a (expr first.value) ++ links_words a z)) l_is
    ∙ ap (λ z. f0 ++ z) (sym (words_links a p (expr first.value) links.items))
    ∙ ap (λ z. f0 ++ misplaced a z) (sym (chain_is p first links))
    ∙ ap (λ z. f0 ++ misplaced a (expr z)) (sym is)

-- ---- paths

step_added : (a : Allowed) (s : TypedStep-F ExprTree Behind Behind) (p : Place) (t : ExprTree) → misplaced a (step_step s p t) ≡ misplaced a t ++ misplaced a (step_step s no_place nothing)
step_added a (shape.Field f ty) p t = sym (append-nil (misplaced a t))
step_added a (shape.Element e) p t = refl
step_added a shape.Length p t = sym (append-nil (misplaced a t))
step_added a (shape.Call m ty es) p t = refl

words_step : (a : Allowed) (s : TypedStep) (p : Place) (t : ExprTree) → misplaced a (step_after s p t) ≡ misplaced a t ++ step_words a s
words_step a s p t =
    let made = step_shape s in
    ap (λ (b : Behind). misplaced a (b p t)) made.is ∙ step_added a made.shape p t ∙ sym (ap (λ (b : Behind). misplaced a t ++ misplaced a (b no_place nothing)) made.is)

words_steps : (a : Allowed) (p : Place) (t : ExprTree) (ss : List TypedStep) → misplaced a (grouped p t (map step_after ss)) ≡ misplaced a t ++ steps_words a ss
words_steps a p t [] = sym (append-nil (misplaced a t))
words_steps a p t (s ∷ ss) =
    words_steps a p (step_after s p t) ss
    ∙ ap (λ x. x ++ steps_words a ss) (words_step a s p t)
    ∙ append_assoc (misplaced a t) (step_words a s) (steps_words a ss)

pub path_found : (a : Allowed) (p : Place) (first : Box TypedExpr Global) (steps : Vec TypedStep Global) (e : TypedExpr) (l : List TypedStep) (x : TypedExpr) (f0 f1 f2 : List Place)
    → e ≡ view.Path p first steps → x ≡ first.value → l ≡ steps.items → f1 ≡ f0 ++ misplaced a (expr x) → f2 ≡ f1 ++ steps_words a l → f2 ≡ f0 ++ misplaced a (expr e)
path_found a p first steps e l x f0 f1 f2 is x_is l_is f1_is f2_is =
    joined f0 f1 f2 (misplaced a (expr x)) (steps_words a l) f1_is f2_is
    ∙ ap (λ z. f0 ++ (misplaced a (expr z) ++ steps_words a l)) x_is
    ∙ ap (λ z. f0 ++ (misplaced a (expr first.value) ++ steps_words a z)) l_is
    ∙ ap (λ z. f0 ++ z) (sym (words_steps a p (expr first.value) steps.items))
    ∙ ap (λ z. f0 ++ misplaced a z) (sym (path_is p first steps))
    ∙ ap (λ z. f0 ++ misplaced a (expr z)) (sym is)

-- ---- quantifiers

pub quantified_found : (a : Allowed) (p : Place) (q : Quantifier) (n : String Global) (low high m : Box TypedExpr Global) (e x y z : TypedExpr) (f0 f1 f2 f3 : List Place)
    → e ≡ view.Quantified p q n low high m → x ≡ low.value → y ≡ high.value → z ≡ m.value
    → f1 ≡ f0 ++ misplaced a (expr x) → f2 ≡ f1 ++ misplaced a (expr y) → f3 ≡ f2 ++ misplaced a (expr z) → f3 ≡ f0 ++ misplaced a (expr e)
quantified_found a p q n low high m e x y z f0 f1 f2 f3 is x_is y_is z_is f1_is f2_is f3_is =
    three_joined f0 f1 f2 f3 (misplaced a (expr x)) (misplaced a (expr y)) (misplaced a (expr z)) f1_is f2_is f3_is
    ∙ ap (λ w. f0 ++ (misplaced a (expr w) ++ misplaced a (expr y) ++ misplaced a (expr z))) x_is
    ∙ ap (λ w. f0 ++ (misplaced a (expr low.value) ++ misplaced a (expr w) ++ misplaced a (expr z))) y_is
    ∙ ap (λ w. f0 ++ (misplaced a (expr low.value) ++ misplaced a (expr high.value) ++ misplaced a (expr w))) z_is
    ∙ ap (λ w. f0 ++ misplaced a w) (sym (quantified_is p q n low high m))
    ∙ ap (λ w. f0 ++ misplaced a (expr w)) (sym is)
