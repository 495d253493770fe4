-- Resolved paths that read a field at their end.
use Rattle.std.proofs.Common.{ℕ, ◌≡◌, ◌-◌, ◌++◌, List, [], ◌∷◌, length, map, take, false, true≢false, refl, sym, ap, subst, ◌∙◌, arith, length-append}
use Rattle.std.specs.Prelude.{◌==◌, Option, Some, None, IfSome, IfNone}
use Rattle.ss_core.specs.declared.names.Place.{Place}
use Rattle.ss_core.specs.declared.names.FieldId.{FieldId}
use Rattle.ss_typed.specs.declared.expr.TypedLink.{TypedLink}
use Rattle.ss_typed.specs.declared.expr.TypedStep.{TypedStep}
use Rattle.ss_typed.specs.declared.expr.TypedExpr.TheOpen as shape
use Rattle.ss_typed.specs.declared.expr.TypedExpr.TheOpen.{TypedLink-F}
use Rattle.ss_typed.specs.Tree.{ExprTree, OneOf, AllOf}
use Rattle.ss_typed.specs.View.{Behind, grouped, link_step}
use Rattle.ss_resolver_rules.specs.Programs.{one_of}
use Rattle.ss_typed.specs.Parts.{link_after as typed_link, step_after as typed_step}
use Rattle.ss_typed.proofs.Grouping.{link_shape, stepped_push}

-- ---- chains

other_link : (s : TypedLink-F ExprTree Behind Behind) (at : Place) (t : ExprTree) → one_of (link_step s at t) ≡ AllOf (link_step s at t)
other_link (shape.Operation op e) at t = refl
other_link (shape.Is u) at t = refl
other_link (shape.As u) at t = refl

pub other_chain : (at : Place) (t : ExprTree) (l : TypedLink) (ls : List TypedLink) → one_of (grouped at t (map typed_link (l ∷ ls))) ≡ AllOf (grouped at t (map typed_link (l ∷ ls)))
other_chain at t l [] = subst (λ (b : Behind). one_of (b at t) ≡ AllOf (b at t)) (sym (link_shape l).is) (other_link (link_shape l).shape at t)
other_chain at t l (m ∷ ls) = other_chain at (typed_link l at t) m ls

-- ---- the last step

take_front : {X : Type 0} (xs ys : List X) → take (length xs) (xs ++ ys) ≡ xs
take_front [] ys = refl
take_front (x ∷ xs) ys = ap (λ z. x ∷ z) (take_front xs ys)

front_is : {X : Type 0} (xs : List X) (x : X) → take (length (xs ++ x ∷ []) - 1) (xs ++ x ∷ []) ≡ xs
front_is xs x = let e : length (xs ++ x ∷ []) - 1 ≡ length xs = omega (arith, length-append xs (x ∷ [])) in ap (λ n. take n (xs ++ x ∷ [])) e ∙ take_front xs (x ∷ [])

pub front_taken : (ss front : List TypedStep) (last : TypedStep) → ss ≡ front ++ last ∷ [] → take (length ss - 1) ss ≡ front
front_taken ss front last h = ap (λ zs. take (length zs - 1) zs) h ∙ front_is front last

-- a path whose last step reads a field
pub last_reads : (ss front : List TypedStep) (last : TypedStep) → ss ≡ front ++ last ∷ [] → (f : ℕ) → ((at : Place) (o : ExprTree) → one_of (typed_step last at o) ≡ OneOf o f)
    → (at : Place) (o : ExprTree) → one_of (grouped at o (map typed_step ss)) ≡ OneOf (grouped at o (map typed_step (take (length ss - 1) ss))) f
last_reads ss front last h f k at o =
    ap (λ zs. one_of (grouped at o (map typed_step zs))) h
    ∙ ap one_of (stepped_push at o front last)
    ∙ k at (grouped at o (map typed_step front))
    ∙ ap (λ zs. OneOf (grouped at o (map typed_step zs)) f) (sym (front_taken ss front last h))

-- one whose last step reads none
pub last_other : (ss front : List TypedStep) (last : TypedStep) → ss ≡ front ++ last ∷ [] → ((at : Place) (o : ExprTree) → one_of (typed_step last at o) ≡ AllOf (typed_step last at o))
    → (at : Place) (o : ExprTree) → one_of (grouped at o (map typed_step ss)) ≡ AllOf (grouped at o (map typed_step ss))
last_other ss front last h k at o =
    let e = ap (λ zs. grouped at o (map typed_step zs)) h ∙ stepped_push at o front last in
    ap one_of e ∙ k at (grouped at o (map typed_step front)) ∙ ap (λ t. AllOf t) (sym e)

-- a chain with at least one link
pub other_some : (at : Place) (t : ExprTree) (ls : List TypedLink) (n : ℕ) → n ≡ length ls → false ≡ (n == 0) → one_of (grouped at t (map typed_link ls)) ≡ AllOf (grouped at t (map typed_link ls))
other_some at t [] n e h = absurd (true≢false (sym (h ∙ ap (λ k. k == 0) e)))
other_some at t (l ∷ ls) n e h = other_chain at t l ls

pub if_some : (o : Option FieldId) (P Q : FieldId → Type 0) → ((f : FieldId) → P f → Q f) → IfSome o P → IfSome o Q
if_some None P Q k h = h
if_some (Some f) P Q k h = k f h

pub if_none : (o : Option FieldId) (P Q : Type 0) → (P → Q) → IfNone o P → IfNone o Q
if_none None P Q k h = k h
if_none (Some f) P Q k h = h
