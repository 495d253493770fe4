-- Chains and paths by their parts.
use Rattle.std.proofs.Common.{◌≡◌, ℕ, length, List, [], ◌∷◌, ◌++◌, map, true, false, refl, sym, ap, ◌∙◌, arith, suc, true≢false, ⊎_elim, take, get_or, ◌<◌, ◌≤◌, ◌+◌}
use Rattle.std.specs.Prelude.{◌==◌}
use Rattle.std.proofs.lemmas.Bool.Decides.{eqb_tells}
use Rattle.std.specs.Global.{Vec, Box}
use Rattle.std.proofs.lemmas.List.{take_more, take_all}
use Rattle.ss_core.specs.declared.names.Place.{Place}
use Rattle.ss_core.specs.declared.names.ClassId.{ClassId}
use Rattle.ss_core.specs.declared.names.FieldId.{FieldId}
use Rattle.ss_core.specs.declared.expr.Operator.{Operator}
use Rattle.ss_core.specs.declared.expr.Link.{Link}
use Rattle.ss_core.specs.declared.expr.Step.{Step}
use Rattle.ss_core.specs.declared.expr.Link.TheVariants as link
use Rattle.ss_core.specs.declared.expr.Step.TheVariants as step
use Rattle.ss_core.specs.declared.expr.Expr.{Expr}
use Rattle.ss_core.specs.declared.expr.Expr.TheFolds.{fold-roll-Expr, fold_out-Link, fold_out-Step, fold-roll-Link, fold-roll-Step}
use Rattle.ss_core.specs.declared.expr.Expr.TheVariants.{Chain, rolls-Chain, Path, rolls-Path}
use Rattle.ss_core.specs.declared.expr.Expr.TheOpen as shape
use Rattle.ss_core.specs.declared.expr.Expr.TheOpen.{Link-F, Step-F}
use Rattle.ss_core.specs.Tree.{ExprTree, BinaryExpr, IsExpr, AsExpr, FieldExpr, ElementExpr, LengthExpr}
use Rattle.ss_core.specs.View.{Behind, grouped, expr, expr_step, link_step, step_step}
use Rattle.ss_core.specs.Parts.{link_after, step_after, chain_front, path_front}

-- ---- the trees of a chain and of a path

pub chain_is : (p : Place) (first : Box Expr) (links : Vec Link) → expr (Chain p first links) ≡ chain_front p (expr first.value) links.items
chain_is p first links = ap expr (sym (rolls-Chain p first links)) ∙ fold-roll-Expr ExprTree Behind Behind expr_step link_step step_step (shape.Chain p first links)

pub path_is : (p : Place) (first : Box Expr) (steps : Vec Step) → expr (Path p first steps) ≡ path_front p (expr first.value) steps.items
path_is p first steps = ap expr (sym (rolls-Path p first steps)) ∙ fold-roll-Expr ExprTree Behind Behind expr_step link_step step_step (shape.Path p first steps)

-- ---- what a link or a step makes

pub operation_is : (op : Operator) (b : Expr) (p : Place) (e : ExprTree) → link_after (link.Operation op b) p e ≡ BinaryExpr p op e (expr b)
operation_is op b p e = ap (λ (l : Link). link_after l p e) (sym (link.rolls-Operation op b)) ∙ ap (λ (f : Behind). f p e) (fold-roll-Link ExprTree Behind Behind expr_step link_step step_step (shape.Operation op b))

pub is_is : (t : ClassId) (p : Place) (e : ExprTree) → link_after (link.Is t) p e ≡ IsExpr p e t.0
is_is t p e = ap (λ (l : Link). link_after l p e) (sym (link.rolls-Is t)) ∙ ap (λ (f : Behind). f p e) (fold-roll-Link ExprTree Behind Behind expr_step link_step step_step (shape.Is t))

pub as_is : (t : ClassId) (p : Place) (e : ExprTree) → link_after (link.As t) p e ≡ AsExpr p e t.0
as_is t p e = ap (λ (l : Link). link_after l p e) (sym (link.rolls-As t)) ∙ ap (λ (f : Behind). f p e) (fold-roll-Link ExprTree Behind Behind expr_step link_step step_step (shape.As t))

pub field_is : (f : FieldId) (p : Place) (e : ExprTree) → step_after (step.Field f) p e ≡ FieldExpr p e f.0
field_is f p e = ap (λ (l : Step). step_after l p e) (sym (step.rolls-Field f)) ∙ ap (λ (g : Behind). g p e) (fold-roll-Step ExprTree Behind Behind expr_step link_step step_step (shape.Field f))

pub element_is : (i : Expr) (p : Place) (e : ExprTree) → step_after (step.Element i) p e ≡ ElementExpr p e (expr i)
element_is i p e = ap (λ (l : Step). step_after l p e) (sym (step.rolls-Element i)) ∙ ap (λ (g : Behind). g p e) (fold-roll-Step ExprTree Behind Behind expr_step link_step step_step (shape.Element i))

pub length_is : (p : Place) (e : ExprTree) → step_after step.Length p e ≡ LengthExpr p e
length_is p e = ap (λ (l : Step). step_after l p e) (sym step.rolls-Length) ∙ ap (λ (g : Behind). g p e) (fold-roll-Step ExprTree Behind Behind expr_step link_step step_step shape.Length)

pub record LinkShape (l : Link) : Type 0 where
  pub shape : Link-F ExprTree Behind Behind
  pub is : link_after l ≡ link_step shape

pub link_shape : (l : Link) → LinkShape l
link_shape l = record { shape = _; is = fold_out-Link ExprTree Behind Behind expr_step link_step step_step l }

pub record StepShape (l : Step) : Type 0 where
  pub shape : Step-F ExprTree Behind Behind
  pub is : step_after l ≡ step_step shape

pub step_shape : (l : Step) → StepShape l
step_shape l = record { shape = _; is = fold_out-Step ExprTree Behind Behind expr_step link_step step_step l }

-- ---- a chain is of the kind of its last link, and a path of that of its last step

pub chain_all : {X : Type 0} (f : ExprTree → X) (x : X) → ((s : Link-F ExprTree Behind Behind) (p : Place) (t : ExprTree) → f (link_step s p t) ≡ x) → (p : Place) (t : ExprTree) (l : Link) (ls : List Link) → f (chain_front p t (l ∷ ls)) ≡ x
chain_all f x h p t l [] = ap (λ (b : Behind). f (b p t)) (link_shape l).is ∙ h (link_shape l).shape p t
chain_all f x h p t l (m ∷ ls) = chain_all f x h p (link_after l p t) m ls

pub path_all : {X : Type 0} (f : ExprTree → X) (x : X) → ((s : Step-F ExprTree Behind Behind) (p : Place) (t : ExprTree) → f (step_step s p t) ≡ x) → (p : Place) (t : ExprTree) (l : Step) (ls : List Step) → f (path_front p t (l ∷ ls)) ≡ x
path_all f x h p t l [] = ap (λ (b : Behind). f (b p t)) (step_shape l).is ∙ h (step_shape l).shape p t
path_all f x h p t l (m ∷ ls) = path_all f x h p (step_after l p t) m ls

some_length : (n : ℕ) → n ≡ 0 → false ≡ (n == 0) → ⊥
some_length n e h = true≢false (sym (h ∙ ap (λ k. k == 0) e))

no_length : (n m : ℕ) → n ≡ suc m → true ≡ (n == 0) → ⊥
no_length n m e h = ⊎_elim (λ d. let x : n ≡ 0 = d.1 in omega arith) (λ d. true≢false (h ∙ d.0)) (eqb_tells n 0)

-- the same where a length says that there is one
pub chain_some : {X : Type 0} (f : ExprTree → X) (x : X) → ((s : Link-F ExprTree Behind Behind) (p : Place) (t : ExprTree) → f (link_step s p t) ≡ x) → (p : Place) (t : ExprTree) (ls : List Link) (n : ℕ) → n ≡ length ls → false ≡ (n == 0) → f (chain_front p t ls) ≡ x
chain_some f x k p t [] n e h = absurd (some_length n e h)
chain_some f x k p t (l ∷ ls) n e h = chain_all f x k p t l ls

pub path_some : {X : Type 0} (f : ExprTree → X) (x : X) → ((s : Step-F ExprTree Behind Behind) (p : Place) (t : ExprTree) → f (step_step s p t) ≡ x) → (p : Place) (t : ExprTree) (ls : List Step) (n : ℕ) → n ≡ length ls → false ≡ (n == 0) → f (path_front p t ls) ≡ x
path_some f x k p t [] n e h = absurd (some_length n e h)
path_some f x k p t (l ∷ ls) n e h = path_all f x k p t l ls

-- without links or steps it is what it begins with
pub chain_alone : (p : Place) (t : ExprTree) (ls : List Link) (n : ℕ) → n ≡ length ls → true ≡ (n == 0) → chain_front p t ls ≡ t
chain_alone p t [] n e h = refl
chain_alone p t (l ∷ ls) n e h = absurd (no_length n (length ls) e h)

pub path_alone : (p : Place) (t : ExprTree) (ls : List Step) (n : ℕ) → n ≡ length ls → true ≡ (n == 0) → path_front p t ls ≡ t
path_alone p t [] n e h = refl
path_alone p t (l ∷ ls) n e h = absurd (no_length n (length ls) e h)

-- one link or step more
pub grouped_more : (p : Place) (e : ExprTree) (bs : List Behind) (b : Behind) → grouped p e (bs ++ b ∷ []) ≡ b p (grouped p e bs)
grouped_more p e [] b = refl
grouped_more p e (a ∷ bs) b = grouped_more p (a p e) bs b

pub map_more : {X Y : Type 0} (f : X → Y) (xs : List X) (x : X) → map f (xs ++ x ∷ []) ≡ map f xs ++ f x ∷ []
map_more f [] x = refl
map_more f (y ∷ xs) x = ap (λ z. f y ∷ z) (map_more f xs x)

pub front_more : (p : Place) (e : ExprTree) (ls : List Link) (l : Link) → chain_front p e (ls ++ l ∷ []) ≡ link_after l p (chain_front p e ls)
front_more p e ls l = ap (grouped p e) (map_more link_after ls l) ∙ grouped_more p e (map link_after ls) (link_after l)

pub path_more : (p : Place) (e : ExprTree) (ls : List Step) (l : Step) → path_front p e (ls ++ l ∷ []) ≡ step_after l p (path_front p e ls)
path_more p e ls l = ap (grouped p e) (map_more step_after ls l) ∙ grouped_more p e (map step_after ls) (step_after l)

pub front_next : (p : Place) (e : ExprTree) (ls : List Link) (i : ℕ) (l : Link) → i < length ls → l ≡ get_or ls i l → chain_front p e (take (i + 1) ls) ≡ link_after l p (chain_front p e (take i ls))
front_next p e ls i l lt is = ap (chain_front p e) (take_more ls i l lt ∙ ap (λ x. take i ls ++ x ∷ []) (sym is)) ∙ front_more p e (take i ls) l

pub path_next : (p : Place) (e : ExprTree) (ls : List Step) (i : ℕ) (l : Step) → i < length ls → l ≡ get_or ls i l → path_front p e (take (i + 1) ls) ≡ step_after l p (path_front p e (take i ls))
path_next p e ls i l lt is = ap (path_front p e) (take_more ls i l lt ∙ ap (λ x. take i ls ++ x ∷ []) (sym is)) ∙ path_more p e (take i ls) l

pub front_whole : (p : Place) (e : ExprTree) (ls : List Link) (i : ℕ) → length ls ≤ i → chain_front p e (take i ls) ≡ chain_front p e ls
front_whole p e ls i le = ap (chain_front p e) (take_all i ls le)

pub path_whole : (p : Place) (e : ExprTree) (ls : List Step) (i : ℕ) → length ls ≤ i → path_front p e (take i ls) ≡ path_front p e ls
path_whole p e ls i le = ap (path_front p e) (take_all i ls le)
