-- Chains and paths in two parts.
use Rattle.std.proofs.Common.{◌≡◌, ℕ, zero, suc, ◌+◌, ◌<◌, List, [], ◌∷◌, length, take, drop, get_or, Bool, true, false, refl, ap, sym, ◌∙◌, subst, add-one, arith}
use Rattle.std.specs.Prelude.{◌||◌}
use Rattle.std.specs.Global.{Vec}
use Rattle.ss_core.specs.declared.names.Place.{Place}
use Rattle.ss_core.specs.declared.names.Ty.{Ty}
use Rattle.ss_core.specs.declared.stmt.Stmt.{Stmt}
use Rattle.ss_core.specs.Tree as core
use Rattle.ss_typed.specs.declared.expr.TypedLink.{TypedLink}
use Rattle.ss_typed.specs.declared.expr.TypedStep.{TypedStep}
use Rattle.ss_typed.specs.declared.expr.TypedExpr.TheOpen as shape
use Rattle.ss_typed.specs.declared.expr.TypedExpr.TheOpen.{TypedLink-F, TypedStep-F}
use Rattle.ss_typed.specs.Tree.{ExprTree}
use Rattle.ss_typed.specs.View.{Behind, link_step, step_step}
use Rattle.ss_expand_rules.specs.Calls.{has_call, is_lazy}
use Rattle.ss_typed.specs.Shapes.{is_this, place_of}
use Rattle.ss_expand_rules.specs.Numbers.{plain}
use Rattle.ss_expand_rules.specs.Lifting.{ElaborationContext, Source, Pure, Lifted, right_side}
use Rattle.ss_typed.specs.Parts.{link_after, linked, step_after, stepped}
use Rattle.ss_expand_expressions.specs.Sources.{lifted_after}
use Rattle.ss_expand_expressions.specs.Operands.{IsOperand}
use Rattle.ss_expand_expressions.specs.declared.operands.Operand.{Operand}
use Rattle.ss_ast.proofs.Loops.{drop_item}
use Rattle.ss_expand_expressions.proofs.Shapes.{links_keep, steps_keep, linked_next, stepped_next}
use Rattle.ss_typed.proofs.Grouping.{link_shape, step_shape}
use Rattle.ss_expand_lifting.specs.Fronts.{link_begins, step_begins, LinksGoOn, StepsGoOn}
use Rattle.ss_expand_lifting.proofs.Joins.{lifted_as, without_call}

or_true : (b : Bool) → (b || true) ≡ true
or_true true = refl
or_true false = refl

or_false : (b : Bool) → (b || false) ≡ b
or_false true = refl
or_false false = refl

-- ---- the first of two parts

pub linked_split : (p : Place) (e : ExprTree) (ls : List TypedLink) (n : ℕ) → linked p (linked p e (take n ls)) (drop n ls) ≡ linked p e ls
linked_split p e [] zero = refl
linked_split p e [] (suc n) = refl
linked_split p e (l ∷ ls) zero = refl
linked_split p e (l ∷ ls) (suc n) = linked_split p (link_after l p e) ls n

pub stepped_split : (p : Place) (e : ExprTree) (ls : List TypedStep) (n : ℕ) → stepped p (stepped p e (take n ls)) (drop n ls) ≡ stepped p e ls
stepped_split p e [] zero = refl
stepped_split p e [] (suc n) = refl
stepped_split p e (l ∷ ls) zero = refl
stepped_split p e (l ∷ ls) (suc n) = stepped_split p (step_after l p e) ls n

-- one more without a call
pub link_adds_none : (p : Place) (e : ExprTree) (ls : List TypedLink) (i : ℕ) (l : TypedLink) (call : Bool) → i < length ls → l ≡ get_or ls i l
    → has_call (link_after l p (linked p e (take i ls))) ≡ (has_call (linked p e (take i ls)) || call) → call ≡ false → has_call (linked p e (take i ls)) ≡ has_call e
    → has_call (linked p e (take (i + 1) ls)) ≡ has_call e
link_adds_none p e ls i l call h g k f before =
    ap (λ n. has_call (linked p e (take n ls))) (add-one i) ∙ ap has_call (linked_next p e ls i l h g) ∙ k
    ∙ ap (λ b. has_call (linked p e (take i ls)) || b) f ∙ or_false (has_call (linked p e (take i ls))) ∙ before

pub step_adds_none : (p : Place) (e : ExprTree) (ls : List TypedStep) (i : ℕ) (l : TypedStep) (call : Bool) → i < length ls → l ≡ get_or ls i l
    → has_call (step_after l p (stepped p e (take i ls))) ≡ (has_call (stepped p e (take i ls)) || call) → call ≡ false → has_call (stepped p e (take i ls)) ≡ has_call e
    → has_call (stepped p e (take (i + 1) ls)) ≡ has_call e
step_adds_none p e ls i l call h g k f before =
    ap (λ n. has_call (stepped p e (take n ls))) (add-one i) ∙ ap has_call (stepped_next p e ls i l h g) ∙ k
    ∙ ap (λ b. has_call (stepped p e (take i ls)) || b) f ∙ or_false (has_call (stepped p e (take i ls))) ∙ before

-- ---- the part from the first call on

pub link_starts : (p : Place) (e : ExprTree) (ls : List TypedLink) (i : ℕ) (l : TypedLink) (call : Bool) → i < length ls → l ≡ get_or ls i l
    → has_call (link_after l p e) ≡ (has_call e || call) → call ≡ true → link_begins p e (drop i ls)
link_starts p e ls i l call h g k t =
    let P : List TypedLink → Type 0 = λ xs. link_begins p e xs in
    subst P (sym (drop_item ls i l h g)) (k ∙ ap (λ b. has_call e || b) t ∙ or_true (has_call e))

pub step_starts : (p : Place) (e : ExprTree) (ls : List TypedStep) (i : ℕ) (l : TypedStep) (call : Bool) → i < length ls → l ≡ get_or ls i l
    → has_call (step_after l p e) ≡ (has_call e || call) → call ≡ true → step_begins p e (drop i ls)
step_starts p e ls i l call h g k t =
    let P : List TypedStep → Type 0 = λ xs. step_begins p e xs in
    subst P (sym (drop_item ls i l h g)) (k ∙ ap (λ b. has_call e || b) t ∙ or_true (has_call e))

pub links_go_on : (p : Place) (e : ExprTree) (ls : List TypedLink) → link_begins p e ls → LinksGoOn p e ls
links_go_on p e [] h = record { each = λ k lt. absurd (omega arith) }
links_go_on p e (l ∷ ls) h = record { each = λ k lt. ap (λ n. has_call (linked p e (take n (l ∷ ls)))) (add-one k) ∙ links_keep p (link_after l p e) (take k ls) h }

pub steps_go_on : (p : Place) (e : ExprTree) (ls : List TypedStep) → step_begins p e ls → StepsGoOn p e ls
steps_go_on p e [] h = record { each = λ k lt. absurd (omega arith) }
steps_go_on p e (l ∷ ls) h = record { each = λ k lt. ap (λ n. has_call (stepped p e (take n (l ∷ ls)))) (add-one k) ∙ steps_keep p (step_after l p e) (take k ls) h }

pub links_after_call : (p : Place) (e : ExprTree) (ls : List TypedLink) → has_call e ≡ true → LinksGoOn p e ls
links_after_call p e ls h = record { each = λ k lt. links_keep p e (take (k + 1) ls) h }

pub steps_after_call : (p : Place) (e : ExprTree) (ls : List TypedStep) → has_call e ≡ true → StepsGoOn p e ls
steps_after_call p e ls h = record { each = λ k lt. steps_keep p e (take (k + 1) ls) h }

-- the next of these
pub link_next_calls : (p : Place) (e : ExprTree) (ls : List TypedLink) (i : ℕ) (l : TypedLink) → LinksGoOn p e ls → i < length ls → l ≡ get_or ls i l → has_call (link_after l p (linked p e (take i ls))) ≡ true
link_next_calls p e ls i l c h g = ap has_call (sym (linked_next p e ls i l h g)) ∙ ap (λ n. has_call (linked p e (take n ls))) (sym (add-one i)) ∙ c.each i h

pub step_next_calls : (p : Place) (e : ExprTree) (ls : List TypedStep) (i : ℕ) (l : TypedStep) → StepsGoOn p e ls → i < length ls → l ≡ get_or ls i l → has_call (step_after l p (stepped p e (take i ls))) ≡ true
step_next_calls p e ls i l c h g = ap has_call (sym (stepped_next p e ls i l h g)) ∙ ap (λ n. has_call (stepped p e (take n ls))) (sym (add-one i)) ∙ c.each i h

-- ---- without a call

-- what an expression without calls is lifted to
pub plain_source : (s : ElaborationContext) (e : ExprTree) (before code : List core.StmtTree) (types made : List Ty) (x : Source)
    → lifted_as code x made ≡ lifted_after before (right_side s e types) → has_call e ≡ false → x ≡ Pure (plain s.numbers e)
plain_source s e before code types made x h n = ap (λ (l : Lifted). l.source) (h ∙ ap (lifted_after before) (without_call s e types n))

-- another without calls in its place
pub plain_lifted : (s : ElaborationContext) (e f : ExprTree) (before code : List core.StmtTree) (types made : List Ty) (x y : Source)
    → lifted_as code x made ≡ lifted_after before (right_side s e types) → has_call e ≡ false → has_call f ≡ false → y ≡ Pure (plain s.numbers f)
    → lifted_as code y made ≡ lifted_after before (right_side s f types)
plain_lifted s e f before code types made x y h n m q =
    ap (λ z. lifted_as code z made) q
    ∙ ap (λ (l : Lifted). lifted_as l.code (Pure (plain s.numbers f)) l.made) (h ∙ ap (lifted_after before) (without_call s e types n))
    ∙ ap (lifted_after before) (sym (without_call s f types m))

-- ---- forms

link_form_place : (s : TypedLink-F ExprTree Behind Behind) (p : Place) (e : ExprTree) → place_of (link_step s p e) ≡ p
link_form_place (shape.Operation op b) p e = refl
link_form_place (shape.Is t) p e = refl
link_form_place (shape.As t) p e = refl

pub step_form_place : (s : TypedStep-F ExprTree Behind Behind) (p : Place) (e : ExprTree) → place_of (step_step s p e) ≡ p
step_form_place (shape.Field n t) p e = refl
step_form_place (shape.Element i) p e = refl
step_form_place shape.Length p e = refl
step_form_place (shape.Call m t es) p e = refl

pub step_form_lazy : (s : TypedStep-F ExprTree Behind Behind) (p : Place) (e : ExprTree) → is_lazy (step_step s p e) ≡ false
step_form_lazy (shape.Field n t) p e = refl
step_form_lazy (shape.Element i) p e = refl
step_form_lazy shape.Length p e = refl
step_form_lazy (shape.Call m t es) p e = refl

pub step_form_this : (s : TypedStep-F ExprTree Behind Behind) (p : Place) (e : ExprTree) → is_this (step_step s p e) ≡ false
step_form_this (shape.Field n t) p e = refl
step_form_this (shape.Element i) p e = refl
step_form_this shape.Length p e = refl
step_form_this (shape.Call m t es) p e = refl

pub link_place : (l : TypedLink) (p : Place) (e : ExprTree) → place_of (link_after l p e) ≡ p
link_place l p e = ap (λ (b : Behind). place_of (b p e)) (link_shape l).is ∙ link_form_place (link_shape l).shape p e

pub step_place : (l : TypedStep) (p : Place) (e : ExprTree) → place_of (step_after l p e) ≡ p
step_place l p e = ap (λ (b : Behind). place_of (b p e)) (step_shape l).is ∙ step_form_place (step_shape l).shape p e

pub step_lazy : (l : TypedStep) (p : Place) (e : ExprTree) → is_lazy (step_after l p e) ≡ false
step_lazy l p e = ap (λ (b : Behind). is_lazy (b p e)) (step_shape l).is ∙ step_form_lazy (step_shape l).shape p e

-- ---- operands

pub operand_along : (s : ElaborationContext) (e f : ExprTree) (before : List core.StmtTree) (types : List Ty) (code : Vec Stmt) (made : Vec Ty) (o : Operand) → e ≡ f → IsOperand s e before types code made o → IsOperand s f before types code made o
operand_along s e f before types code made o h x = let P : ExprTree → Type 0 = λ y. IsOperand s y before types code made o in subst P h x

pub links_go_along : (p : Place) (e : ExprTree) (ls ms : List TypedLink) → ms ≡ ls → LinksGoOn p e ls → LinksGoOn p e ms
links_go_along p e ls ms h x = let P : List TypedLink → Type 0 = λ y. LinksGoOn p e y in subst P (sym h) x

pub steps_go_along : (p : Place) (e : ExprTree) (ls ms : List TypedStep) → ms ≡ ls → StepsGoOn p e ls → StepsGoOn p e ms
steps_go_along p e ls ms h x = let P : List TypedStep → Type 0 = λ y. StepsGoOn p e y in subst P (sym h) x
