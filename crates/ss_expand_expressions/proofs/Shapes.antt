-- Chains and paths link by link.
use Rattle.std.proofs.Common.{◌≡◌, ◌++◌, ℕ, suc, length, List, [], ◌∷◌, map, take, get_or, ◌<◌, Bool, true, false, Vec, Box, Global, refl, sym, ap, ◌∙◌}
use Rattle.std.specs.Prelude.{◌||◌}
use Rattle.ss_core.specs.declared.names.Place.{Place}
use Rattle.ss_core.specs.declared.expr.Expr.{Expr}
use Rattle.ss_core.specs.declared.expr.Link.{Link}
use Rattle.ss_core.specs.declared.expr.Step.{Step}
use Rattle.ss_core.specs.declared.expr.Expr.TheFolds as core_fold
use Rattle.ss_core.specs.declared.expr.Expr.TheVariants as core_variant
use Rattle.ss_core.specs.declared.expr.Expr.TheOpen as core_shape
use Rattle.ss_core.specs.Tree as tree
use Rattle.ss_core.specs.View as core
use Rattle.ss_core.specs.Parts as core_parts
use Rattle.ss_typed.specs.declared.expr.TypedLink.{TypedLink}
use Rattle.ss_typed.specs.declared.expr.TypedStep.{TypedStep}
use Rattle.ss_typed.specs.declared.expr.TypedExpr.TheOpen as shape
use Rattle.ss_typed.specs.declared.expr.TypedExpr.TheOpen.{TypedLink-F, TypedStep-F}
use Rattle.ss_typed.specs.Tree.{ExprTree}
use Rattle.ss_typed.specs.View.{Behind, link_step, step_step}
use Rattle.ss_typed.specs.Parts.{link_after, linked, step_after, stepped}
use Rattle.ss_typed.proofs.Grouping.{link_shape, step_shape, linked_push, stepped_push}
use Rattle.ss_expand_rules.specs.Calls.{has_call}
use Rattle.std.proofs.lemmas.List.{map-append}
use Rattle.ss_ast.proofs.Loops.{take_item}

pub core_chain_is : (p : Place) (first : Box Expr Global) (links : Vec Link Global) → core.expr (core_variant.Chain p first links) ≡ core_parts.chain_front p (core.expr first.value) links.items
core_chain_is p first links = ap core.expr (sym (core_variant.rolls-Chain p first links)) ∙ core_fold.fold-roll-Expr tree.ExprTree core.Behind core.Behind core.expr_step core.link_step core.step_step (core_shape.Chain p first links)

pub core_path_is : (p : Place) (first : Box Expr Global) (steps : Vec Step Global) → core.expr (core_variant.Path p first steps) ≡ core_parts.path_front p (core.expr first.value) steps.items
core_path_is p first steps = ap core.expr (sym (core_variant.rolls-Path p first steps)) ∙ core_fold.fold-roll-Expr tree.ExprTree core.Behind core.Behind core.expr_step core.link_step core.step_step (core_shape.Path p first steps)

-- ---- one more at the end

pub core_grouped_push : (p : Place) (e : tree.ExprTree) (bs : List core.Behind) (b : core.Behind) → core.grouped p e (bs ++ b ∷ []) ≡ b p (core.grouped p e bs)
core_grouped_push p e [] b = refl
core_grouped_push p e (x ∷ bs) b = core_grouped_push p (x p e) bs b

pub core_linked_push : (p : Place) (e : tree.ExprTree) (ls : List Link) (l : Link) → core_parts.chain_front p e (ls ++ l ∷ []) ≡ core_parts.link_after l p (core_parts.chain_front p e ls)
core_linked_push p e ls l = ap (λ bs. core.grouped p e bs) (map-append core_parts.link_after ls (l ∷ [])) ∙ core_grouped_push p e (map core_parts.link_after ls) (core_parts.link_after l)

pub core_stepped_push : (p : Place) (e : tree.ExprTree) (ls : List Step) (l : Step) → core_parts.path_front p e (ls ++ l ∷ []) ≡ core_parts.step_after l p (core_parts.path_front p e ls)
core_stepped_push p e ls l = ap (λ bs. core.grouped p e bs) (map-append core_parts.step_after ls (l ∷ [])) ∙ core_grouped_push p e (map core_parts.step_after ls) (core_parts.step_after l)

-- the first links up to one more
pub linked_next : (p : Place) (e : ExprTree) (ls : List TypedLink) (i : ℕ) (l : TypedLink) → i < length ls → l ≡ get_or ls i l → linked p e (take (suc i) ls) ≡ link_after l p (linked p e (take i ls))
linked_next p e ls i l h g = ap (λ xs. linked p e xs) (take_item ls i l h g) ∙ linked_push p e (take i ls) l

pub stepped_next : (p : Place) (e : ExprTree) (ls : List TypedStep) (i : ℕ) (l : TypedStep) → i < length ls → l ≡ get_or ls i l → stepped p e (take (suc i) ls) ≡ step_after l p (stepped p e (take i ls))
stepped_next p e ls i l h g = ap (λ xs. stepped p e xs) (take_item ls i l h g) ∙ stepped_push p e (take i ls) l

-- ---- a call before them stays one

or_true : (b : Bool) → (b || true) ≡ true
or_true true = refl
or_true false = refl

link_keeps : (s : TypedLink-F ExprTree Behind Behind) (p : Place) (e : ExprTree) → has_call e ≡ true → has_call (link_step s p e) ≡ true
link_keeps (shape.Operation op b) p e h = ap (λ x. x || has_call b) h
link_keeps (shape.Is t) p e h = h
link_keeps (shape.As t) p e h = h

step_keeps : (s : TypedStep-F ExprTree Behind Behind) (p : Place) (e : ExprTree) → has_call e ≡ true → has_call (step_step s p e) ≡ true
step_keeps (shape.Field f t) p e h = h
step_keeps (shape.Element i) p e h = ap (λ x. x || has_call i) h
step_keeps shape.Length p e h = h
step_keeps (shape.Call m t es) p e h = refl

pub links_keep : (p : Place) (e : ExprTree) (ls : List TypedLink) → has_call e ≡ true → has_call (linked p e ls) ≡ true
links_keep p e [] h = h
links_keep p e (l ∷ ls) h = links_keep p (link_after l p e) ls (ap (λ (b : Behind). has_call (b p e)) (link_shape l).is ∙ link_keeps (link_shape l).shape p e h)

pub steps_keep : (p : Place) (e : ExprTree) (ls : List TypedStep) → has_call e ≡ true → has_call (stepped p e ls) ≡ true
steps_keep p e [] h = h
steps_keep p e (l ∷ ls) h = steps_keep p (step_after l p e) ls (ap (λ (b : Behind). has_call (b p e)) (step_shape l).is ∙ step_keeps (step_shape l).shape p e h)

-- ---- whether a call stands in the whole rests on whether one stands before

link_same : (s : TypedLink-F ExprTree Behind Behind) (p : Place) (e f : ExprTree) → has_call e ≡ has_call f → has_call (link_step s p e) ≡ has_call (link_step s p f)
link_same (shape.Operation op b) p e f h = ap (λ x. x || has_call b) h
link_same (shape.Is t) p e f h = h
link_same (shape.As t) p e f h = h

step_same : (s : TypedStep-F ExprTree Behind Behind) (p : Place) (e f : ExprTree) → has_call e ≡ has_call f → has_call (step_step s p e) ≡ has_call (step_step s p f)
step_same (shape.Field n t) p e f h = h
step_same (shape.Element i) p e f h = ap (λ x. x || has_call i) h
step_same shape.Length p e f h = h
step_same (shape.Call m t es) p e f h = refl

one_link_same : (l : TypedLink) (p : Place) (e f : ExprTree) → has_call e ≡ has_call f → has_call (link_after l p e) ≡ has_call (link_after l p f)
one_link_same l p e f h = ap (λ (b : Behind). has_call (b p e)) (link_shape l).is ∙ link_same (link_shape l).shape p e f h ∙ sym (ap (λ (b : Behind). has_call (b p f)) (link_shape l).is)

one_step_same : (l : TypedStep) (p : Place) (e f : ExprTree) → has_call e ≡ has_call f → has_call (step_after l p e) ≡ has_call (step_after l p f)
one_step_same l p e f h = ap (λ (b : Behind). has_call (b p e)) (step_shape l).is ∙ step_same (step_shape l).shape p e f h ∙ sym (ap (λ (b : Behind). has_call (b p f)) (step_shape l).is)

pub links_same : (p : Place) (e f : ExprTree) (ls : List TypedLink) → has_call e ≡ has_call f → has_call (linked p e ls) ≡ has_call (linked p f ls)
links_same p e f [] h = h
links_same p e f (l ∷ ls) h = links_same p (link_after l p e) (link_after l p f) ls (one_link_same l p e f h)

pub steps_same : (p : Place) (e f : ExprTree) (ls : List TypedStep) → has_call e ≡ has_call f → has_call (stepped p e ls) ≡ has_call (stepped p f ls)
steps_same p e f [] h = h
steps_same p e f (l ∷ ls) h = steps_same p (step_after l p e) (step_after l p f) ls (one_step_same l p e f h)

or_false : (b : Bool) → (b || false) ≡ b
or_false true = refl
or_false false = refl

-- a link without a call may be left out
pub link_without : (p : Place) (e : ExprTree) (l : TypedLink) (ls : List TypedLink) → has_call (link_after l p e) ≡ (has_call e || false) → has_call (linked p e (l ∷ ls)) ≡ has_call (linked p e ls)
link_without p e l ls h = links_same p (link_after l p e) e ls (h ∙ or_false (has_call e))

pub step_without : (p : Place) (e : ExprTree) (l : TypedStep) (ls : List TypedStep) → has_call (step_after l p e) ≡ (has_call e || false) → has_call (stepped p e (l ∷ ls)) ≡ has_call (stepped p e ls)
step_without p e l ls h = steps_same p (step_after l p e) e ls (h ∙ or_false (has_call e))

-- after one with a call there is one
pub link_with : (p : Place) (e : ExprTree) (l : TypedLink) (ls : List TypedLink) → has_call (link_after l p e) ≡ (has_call e || true) → has_call (linked p e (l ∷ ls)) ≡ (has_call e || true)
link_with p e l ls h = links_keep p (link_after l p e) ls (h ∙ or_true (has_call e)) ∙ sym (or_true (has_call e))

pub step_with : (p : Place) (e : ExprTree) (l : TypedStep) (ls : List TypedStep) → has_call (step_after l p e) ≡ (has_call e || true) → has_call (stepped p e (l ∷ ls)) ≡ (has_call e || true)
step_with p e l ls h = steps_keep p (step_after l p e) ls (h ∙ or_true (has_call e)) ∙ sym (or_true (has_call e))
