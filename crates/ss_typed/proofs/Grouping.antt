-- Chains and paths by their parts.
use Rattle.std.proofs.Common.{◌≡◌, ◌<◌, ◌+◌, ◌-◌, ◌++◌, ℕ, zero, suc, length, take, get_or, List, [], ◌∷◌, map, true, false, Some, None, Vec, Box, Global, String, string_bytes, refl, sym, ap, ◌∙◌, arith, true≢false, ⊎_elim}
use Rattle.std.specs.Prelude.{◌==◌, Option, slice_get}
use Rattle.std.proofs.lemmas.List.{map-append, take_more}
use Rattle.std.proofs.lemmas.Option.{slice_get-get_or, get_or_from_slice_get}
use Rattle.std.proofs.lemmas.Bool.Decides.{eqb_tells}
use Rattle.ss_core.specs.declared.names.Place.{Place}
use Rattle.ss_typed.specs.declared.expr.TypedExpr.{TypedExpr}
use Rattle.ss_typed.specs.declared.expr.TypedLink.{TypedLink}
use Rattle.ss_typed.specs.declared.expr.TypedStep.{TypedStep}
use Rattle.ss_typed.specs.declared.expr.TypedExpr.TheFolds.{fold-roll-TypedExpr, fold_out-TypedLink, fold_out-TypedStep}
use Rattle.ss_typed.specs.declared.expr.TypedExpr.TheViews as view
use Rattle.ss_typed.specs.declared.expr.TypedExpr.TheVariants.{rolls-Chain, rolls-Path, rolls-Quantified}
use Rattle.ss_typed.specs.declared.expr.TypedExpr.TheOpen as shape
use Rattle.ss_typed.specs.declared.expr.TypedExpr.TheOpen.{TypedLink-F, TypedStep-F}
use Rattle.ss_typed.specs.View.{Behind, grouped, expr_step, link_step, step_step, expr}
use Rattle.ss_typed.specs.Tree.{ExprTree, BinaryOf, IsOf, AsOf, FieldOf, ElementOf, LengthOf, CallOf, QuantifiedOf, arguments}
use Rattle.ss_typed.specs.declared.expr.TypedLink.TheVariants as link
use Rattle.ss_typed.specs.declared.expr.TypedStep.TheVariants as step
use Rattle.ss_typed.specs.declared.expr.TypedExpr.TheFolds.{fold-roll-TypedLink, fold-roll-TypedStep}
use Rattle.ss_core.specs.declared.names.ClassId.{ClassId}
use Rattle.ss_core.specs.declared.names.FieldId.{FieldId}
use Rattle.ss_core.specs.declared.names.Ty.{Ty}
use Rattle.ss_core.specs.declared.expr.Operator.{Operator}
use Rattle.ss_core.specs.declared.expr.Quantifier.{Quantifier}
use Rattle.ss_typed.specs.Parts.{link_after, step_after, linked, stepped}

pub chain_is : (at : Place) (first : Box TypedExpr Global) (links : Vec TypedLink Global) → expr (view.Chain at first links) ≡ grouped at (expr first.value) (map link_after links.items)
chain_is at first links = ap expr (sym (rolls-Chain at first links)) ∙ fold-roll-TypedExpr ExprTree Behind Behind expr_step link_step step_step (shape.Chain at first links)

pub path_is : (at : Place) (first : Box TypedExpr Global) (steps : Vec TypedStep Global) → expr (view.Path at first steps) ≡ grouped at (expr first.value) (map step_after steps.items)
path_is at first steps = ap expr (sym (rolls-Path at first steps)) ∙ fold-roll-TypedExpr ExprTree Behind Behind expr_step link_step step_step (shape.Path at first steps)

-- what a link or a step makes
pub record LinkShape (l : TypedLink) : Type 0 where
  pub shape : TypedLink-F ExprTree Behind Behind
  pub is : link_after l ≡ link_step shape

pub link_shape : (l : TypedLink) → LinkShape l
link_shape l = record { shape = _; is = fold_out-TypedLink ExprTree Behind Behind expr_step link_step step_step l }

pub record StepShape (l : TypedStep) : Type 0 where
  pub shape : TypedStep-F ExprTree Behind Behind
  pub is : step_after l ≡ step_step shape

pub step_shape : (l : TypedStep) → StepShape l
step_shape l = record { shape = _; is = fold_out-TypedStep ExprTree Behind Behind expr_step link_step step_step l }

-- a chain is of the kind of its last link, and a path of that of its last step
pub chain_all : {X : Type 0} (f : ExprTree → X) (x : Place → X) → ((s : TypedLink-F ExprTree Behind Behind) (at : Place) (t : ExprTree) → f (link_step s at t) ≡ x at) → (at : Place) (t : ExprTree) (l : TypedLink) (ls : List TypedLink) → f (grouped at t (map link_after (l ∷ ls))) ≡ x at
chain_all f x h at t l [] = ap (λ (b : Behind). f (b at t)) (link_shape l).is ∙ h (link_shape l).shape at t
chain_all f x h at t l (m ∷ ls) = chain_all f x h at (link_after l at t) m ls

pub path_all : {X : Type 0} (f : ExprTree → X) (x : Place → X) → ((s : TypedStep-F ExprTree Behind Behind) (at : Place) (t : ExprTree) → f (step_step s at t) ≡ x at) → (at : Place) (t : ExprTree) (l : TypedStep) (ls : List TypedStep) → f (grouped at t (map step_after (l ∷ ls))) ≡ x at
path_all f x h at t l [] = ap (λ (b : Behind). f (b at t)) (step_shape l).is ∙ h (step_shape l).shape at t
path_all f x h at t l (m ∷ ls) = path_all f x h at (step_after l at t) m ls

some_length : (n : ℕ) → n ≡ 0 → false ≡ (n == 0) → ⊥
some_length n e h = true≢false (sym (h ∙ ap (λ k. k == 0) e))

no_length : (n m : ℕ) → n ≡ suc m → true ≡ (n == 0) → ⊥
no_length n m e h = ⊎_elim (λ d. let x : n ≡ 0 = d.1 in omega arith) (λ d. true≢false (h ∙ d.0)) (eqb_tells n 0)

-- the same where a length says that there is one
pub chain_some : {X : Type 0} (f : ExprTree → X) (x : Place → X) → ((s : TypedLink-F ExprTree Behind Behind) (at : Place) (t : ExprTree) → f (link_step s at t) ≡ x at) → (at : Place) (t : ExprTree) (ls : List TypedLink) (n : ℕ) → n ≡ length ls → false ≡ (n == 0) → f (grouped at t (map link_after ls)) ≡ x at
chain_some f x k at t [] n e h = absurd (some_length n e h)
chain_some f x k at t (l ∷ ls) n e h = chain_all f x k at t l ls

pub path_some : {X : Type 0} (f : ExprTree → X) (x : Place → X) → ((s : TypedStep-F ExprTree Behind Behind) (at : Place) (t : ExprTree) → f (step_step s at t) ≡ x at) → (at : Place) (t : ExprTree) (ls : List TypedStep) (n : ℕ) → n ≡ length ls → false ≡ (n == 0) → f (grouped at t (map step_after ls)) ≡ x at
path_some f x k at t [] n e h = absurd (some_length n e h)
path_some f x k at t (l ∷ ls) n e h = path_all f x k at t l ls

-- without links or steps it is what it begins with
pub chain_alone : (at : Place) (t : ExprTree) (ls : List TypedLink) (n : ℕ) → n ≡ length ls → true ≡ (n == 0) → grouped at t (map link_after ls) ≡ t
chain_alone at t [] n e h = refl
chain_alone at t (l ∷ ls) n e h = absurd (no_length n (length ls) e h)

pub path_alone : (at : Place) (t : ExprTree) (ls : List TypedStep) (n : ℕ) → n ≡ length ls → true ≡ (n == 0) → grouped at t (map step_after ls) ≡ t
path_alone at t [] n e h = refl
path_alone at t (l ∷ ls) n e h = absurd (no_length n (length ls) e h)

-- ---- one part more

pub grouped_push : (at : Place) (e : ExprTree) (bs : List Behind) (b : Behind) → grouped at e (bs ++ b ∷ []) ≡ b at (grouped at e bs)
grouped_push at e [] b = refl
grouped_push at e (x ∷ bs) b = grouped_push at (x at e) bs b

-- one more part after those that a loop has gone over
pub grouped_more : {X : Type 0} (behind : X → Behind) (at : Place) (e : ExprTree) (xs : List X) (i : ℕ) (x : X) → i < length xs → x ≡ get_or xs i x
    → grouped at e (map behind (take (i + 1) xs)) ≡ behind x at (grouped at e (map behind (take i xs)))
grouped_more behind at e xs i x l g =
    ap (λ ys. grouped at e (map behind ys)) (take_more xs i x l)
    ∙ ap (grouped at e) (map-append behind (take i xs) (get_or xs i x ∷ []))
    ∙ grouped_push at e (map behind (take i xs)) (behind (get_or xs i x))
    ∙ ap (λ y. behind y at (grouped at e (map behind (take i xs)))) (sym g)

pub linked_push : (p : Place) (e : ExprTree) (ls : List TypedLink) (l : TypedLink) → linked p e (ls ++ l ∷ []) ≡ link_after l p (linked p e ls)
linked_push p e ls l = ap (λ bs. grouped p e bs) (map-append link_after ls (l ∷ [])) ∙ grouped_push p e (map link_after ls) (link_after l)

pub stepped_push : (p : Place) (e : ExprTree) (ls : List TypedStep) (l : TypedStep) → stepped p e (ls ++ l ∷ []) ≡ step_after l p (stepped p e ls)
stepped_push p e ls l = ap (λ bs. grouped p e bs) (map-append step_after ls (l ∷ [])) ∙ grouped_push p e (map step_after ls) (step_after l)

-- ---- the last part

-- a chain is of the kind of its last link
pub chain_last : {X : Type 0} (f : ExprTree → X) (x : X) (p : Place) (e : ExprTree) (ls : List TypedLink) (k : ℕ) (l d : TypedLink) → suc k ≡ length ls → get_or ls k d ≡ l → ((before : ExprTree) → f (link_after l p before) ≡ x) → f (linked p e ls) ≡ x
chain_last f x p e [] k l d n g h = absurd (omega arith)
chain_last f x p e (m ∷ []) zero l d n g h = ap (λ (y : TypedLink). f (link_after y p e)) g ∙ h e
chain_last f x p e (m ∷ []) (suc k) l d n g h = absurd (omega arith)
chain_last f x p e (m ∷ o ∷ ls) zero l d n g h = absurd (omega arith)
chain_last f x p e (m ∷ o ∷ ls) (suc k) l d n g h = chain_last f x p (link_after m p e) (o ∷ ls) k l d (omega arith) g h

some_not_none : {X : Type 0} (x : X) → Some x ≡ None → ⊥
some_not_none x h = cc

pub chain_last_some : {X : Type 0} (f : ExprTree → X) (x : X) (p : Place) (e : ExprTree) (ls : List TypedLink) (l : TypedLink) → Some l ≡ slice_get ls (length ls - 1) → ((before : ExprTree) → f (link_after l p before) ≡ x) → f (linked p e ls) ≡ x
chain_last_some f x p e [] l g h = absurd (some_not_none l g)
chain_last_some f x p e (m ∷ ms) l g h =
    let at : length (m ∷ ms) - 1 ≡ length ms = omega arith in
    let got : slice_get (m ∷ ms) (length ms) ≡ Some l = ap (λ k. slice_get (m ∷ ms) k) (sym at) ∙ sym g in
    chain_last f x p e (m ∷ ms) (length ms) l m (omega arith) (get_or_from_slice_get (m ∷ ms) (length ms) l m got) h

pub chain_last_none : (p : Place) (e : ExprTree) (ls : List TypedLink) → None ≡ slice_get ls (length ls - 1) → linked p e ls ≡ e
chain_last_none p e [] g = refl
chain_last_none p e (m ∷ ms) g =
    let at : length (m ∷ ms) - 1 ≡ length ms = omega arith in
    let got : slice_get (m ∷ ms) (length ms) ≡ Some (get_or (m ∷ ms) (length ms) m) = slice_get-get_or (m ∷ ms) (length ms) m (omega arith) in
    absurd (some_not_none (get_or (m ∷ ms) (length ms) m) (sym got ∙ ap (λ k. slice_get (m ∷ ms) k) (sym at) ∙ sym g))

-- ---- each part by its form

pub operation_is : (op : Operator) (b : TypedExpr) (at : Place) (e : ExprTree) → link_after (link.Operation op b) at e ≡ BinaryOf at op e (expr b)
operation_is op b at e = ap (λ (l : TypedLink). link_after l at e) (sym (link.rolls-Operation op b)) ∙ ap (λ (f : Behind). f at e) (fold-roll-TypedLink ExprTree Behind Behind expr_step link_step step_step (shape.Operation op b))

pub is_is : (t : ClassId) (at : Place) (e : ExprTree) → link_after (link.Is t) at e ≡ IsOf at e t.0
is_is t at e = ap (λ (l : TypedLink). link_after l at e) (sym (link.rolls-Is t)) ∙ ap (λ (f : Behind). f at e) (fold-roll-TypedLink ExprTree Behind Behind expr_step link_step step_step (shape.Is t))

pub as_is : (t : ClassId) (at : Place) (e : ExprTree) → link_after (link.As t) at e ≡ AsOf at e t.0
as_is t at e = ap (λ (l : TypedLink). link_after l at e) (sym (link.rolls-As t)) ∙ ap (λ (f : Behind). f at e) (fold-roll-TypedLink ExprTree Behind Behind expr_step link_step step_step (shape.As t))

pub field_is : (f : FieldId) (t : Ty) (at : Place) (e : ExprTree) → step_after (step.Field f t) at e ≡ FieldOf at e f.0 t
field_is f t at e = ap (λ (l : TypedStep). step_after l at e) (sym (step.rolls-Field f t)) ∙ ap (λ (g : Behind). g at e) (fold-roll-TypedStep ExprTree Behind Behind expr_step link_step step_step (shape.Field f t))

pub element_is : (i : TypedExpr) (at : Place) (e : ExprTree) → step_after (step.Element i) at e ≡ ElementOf at e (expr i)
element_is i at e = ap (λ (l : TypedStep). step_after l at e) (sym (step.rolls-Element i)) ∙ ap (λ (g : Behind). g at e) (fold-roll-TypedStep ExprTree Behind Behind expr_step link_step step_step (shape.Element i))

pub length_is : (at : Place) (e : ExprTree) → step_after step.Length at e ≡ LengthOf at e
length_is at e = ap (λ (l : TypedStep). step_after l at e) (sym step.rolls-Length) ∙ ap (λ (g : Behind). g at e) (fold-roll-TypedStep ExprTree Behind Behind expr_step link_step step_step shape.Length)

pub call_is : (m : ℕ) (t : Option Ty) (es : Vec TypedExpr Global) (at : Place) (e : ExprTree) → step_after (step.Call m t es) at e ≡ CallOf at e m t (arguments (map expr es.items))
call_is m t es at e = ap (λ (l : TypedStep). step_after l at e) (sym (step.rolls-Call m t es)) ∙ ap (λ (g : Behind). g at e) (fold-roll-TypedStep ExprTree Behind Behind expr_step link_step step_step (shape.Call m t es))

-- ---- quantifiers

pub quantified_is : (at : Place) (q : Quantifier) (n : String Global) (low high body : Box TypedExpr Global) → expr (view.Quantified at q n low high body) ≡ QuantifiedOf at q (string_bytes n) (expr low.value) (expr high.value) (expr body.value)
quantified_is at q n low high body = ap expr (sym (rolls-Quantified at q n low high body)) ∙ fold-roll-TypedExpr ExprTree Behind Behind expr_step link_step step_step (shape.Quantified at q n low high body)
