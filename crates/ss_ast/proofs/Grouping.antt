-- Chains and paths by their parts, and other expressions by theirs.
use Rattle.std.proofs.Common.{◌≡◌, ◌<◌, ◌+◌, ◌++◌, ℕ, suc, length, take, get_or, List, [], ◌∷◌, map, true, false, Vec, Box, Global, refl, sym, ap, ◌∙◌, arith, true≢false, ⊎_elim}
use Rattle.std.specs.Prelude.{◌==◌}
use Rattle.std.proofs.lemmas.List.{map-append, take_more}
use Rattle.std.proofs.lemmas.Bool.Decides.{eqb_tells}
use Rattle.ss_core.specs.declared.names.Place.{Place}
use Rattle.ss_ast.specs.declared.expr.Expr.{Expr}
use Rattle.ss_ast.specs.declared.expr.Name.{Name}
use Rattle.ss_core.specs.declared.expr.Quantifier.{Quantifier}
use Rattle.ss_ast.specs.declared.expr.Link.{Link}
use Rattle.ss_ast.specs.declared.expr.Postfix.{Postfix}
use Rattle.ss_ast.specs.declared.expr.Expr.TheFolds.{fold-roll-Expr, fold-roll-Link, fold-roll-Postfix, fold_out-Link, fold_out-Postfix}
use Rattle.ss_ast.specs.declared.expr.Link.TheVariants as link
use Rattle.ss_ast.specs.declared.expr.Postfix.TheVariants as postfix
use Rattle.ss_core.specs.declared.expr.Operator.{Operator}
use Rattle.ss_ast.specs.declared.expr.TypeRef.{TypeRef}
use Rattle.ss_ast.specs.declared.expr.Expr.TheViews as view
use Rattle.ss_ast.specs.declared.expr.Expr.TheVariants as plain
use Rattle.ss_ast.specs.declared.expr.TypeName.{TypeName}
use Rattle.ss_ast.specs.declared.expr.Expr.TheVariants.{rolls-Chain, rolls-Path, rolls-Quantified, rolls-This, rolls-Result, rolls-Paren, rolls-Old, rolls-Negate, rolls-Not, rolls-Iff, rolls-Implies, rolls-Cast, rolls-New, rolls-NewArray}
use Rattle.ss_ast.specs.declared.expr.Expr.TheOpen as shape
use Rattle.ss_ast.specs.declared.expr.Expr.TheOpen.{Link-F, Postfix-F}
use Rattle.ss_ast.specs.Expressions.{ExprTree, BinaryOf, IsOf, AsOf, MemberOf, ElementOf, CallOf, QuantifiedOf, ThisOf, ResultOf, ParenOf, OldOf, NegateOf, NotOf, IffOf, ImpliesOf, CastOf, NewOf, NewArrayOf, arguments, type_tree, type_name_tree, Behind, grouped, expr_step, link_step, postfix_step, expr_tree, name_tree}
use Rattle.ss_ast.specs.Parts.{link_after, postfix_after}

pub chain_is : (at : Place) (first : Box Expr Global) (links : Vec Link Global) → expr_tree (view.Chain at first links) ≡ grouped at (expr_tree first.value) (map link_after links.items)
chain_is at first links = ap expr_tree (sym (rolls-Chain at first links)) ∙ fold-roll-Expr ExprTree Behind Behind expr_step link_step postfix_step (shape.Chain at first links)

pub path_is : (at : Place) (first : Box Expr Global) (postfixes : Vec Postfix Global) → expr_tree (view.Path at first postfixes) ≡ grouped at (expr_tree first.value) (map postfix_after postfixes.items)
path_is at first postfixes = ap expr_tree (sym (rolls-Path at first postfixes)) ∙ fold-roll-Expr ExprTree Behind Behind expr_step link_step postfix_step (shape.Path at first postfixes)

pub this_is : (at : Place) → expr_tree (plain.This at) ≡ ThisOf at
this_is at = ap expr_tree (sym (rolls-This at)) ∙ fold-roll-Expr ExprTree Behind Behind expr_step link_step postfix_step (shape.This at)

pub result_is : (at : Place) → expr_tree (plain.Result at) ≡ ResultOf at
result_is at = ap expr_tree (sym (rolls-Result at)) ∙ fold-roll-Expr ExprTree Behind Behind expr_step link_step postfix_step (shape.Result at)

pub paren_is : (at : Place) (inner : Box Expr Global) → expr_tree (view.Paren at inner) ≡ ParenOf at (expr_tree inner.value)
paren_is at inner = ap expr_tree (sym (rolls-Paren at inner)) ∙ fold-roll-Expr ExprTree Behind Behind expr_step link_step postfix_step (shape.Paren at inner)

pub old_is : (at : Place) (inner : Box Expr Global) → expr_tree (view.Old at inner) ≡ OldOf at (expr_tree inner.value)
old_is at inner = ap expr_tree (sym (rolls-Old at inner)) ∙ fold-roll-Expr ExprTree Behind Behind expr_step link_step postfix_step (shape.Old at inner)

pub negate_is : (at : Place) (inner : Box Expr Global) → expr_tree (view.Negate at inner) ≡ NegateOf at (expr_tree inner.value)
negate_is at inner = ap expr_tree (sym (rolls-Negate at inner)) ∙ fold-roll-Expr ExprTree Behind Behind expr_step link_step postfix_step (shape.Negate at inner)

pub not_is : (at : Place) (inner : Box Expr Global) → expr_tree (view.Not at inner) ≡ NotOf at (expr_tree inner.value)
not_is at inner = ap expr_tree (sym (rolls-Not at inner)) ∙ fold-roll-Expr ExprTree Behind Behind expr_step link_step postfix_step (shape.Not at inner)

pub iff_is : (at : Place) (a b : Box Expr Global) → expr_tree (view.Iff at a b) ≡ IffOf at (expr_tree a.value) (expr_tree b.value)
iff_is at a b = ap expr_tree (sym (rolls-Iff at a b)) ∙ fold-roll-Expr ExprTree Behind Behind expr_step link_step postfix_step (shape.Iff at a b)

pub implies_is : (at : Place) (a b : Box Expr Global) → expr_tree (view.Implies at a b) ≡ ImpliesOf at (expr_tree a.value) (expr_tree b.value)
implies_is at a b = ap expr_tree (sym (rolls-Implies at a b)) ∙ fold-roll-Expr ExprTree Behind Behind expr_step link_step postfix_step (shape.Implies at a b)

pub cast_is : (at : Place) (t : TypeRef) (inner : Box Expr Global) → expr_tree (view.Cast at t inner) ≡ CastOf at (type_tree t) (expr_tree inner.value)
cast_is at t inner = ap expr_tree (sym (rolls-Cast at t inner)) ∙ fold-roll-Expr ExprTree Behind Behind expr_step link_step postfix_step (shape.Cast at t inner)

pub new_is : (at : Place) (n : Name) (es : Vec Expr Global) → expr_tree (view.New at n es) ≡ NewOf at (name_tree n) (arguments (map expr_tree es.items))
new_is at n es = ap expr_tree (sym (rolls-New at n es)) ∙ fold-roll-Expr ExprTree Behind Behind expr_step link_step postfix_step (shape.New at n es)

pub new_array_is : (at of : Place) (t : TypeName) (n : Box Expr Global) → expr_tree (view.NewArray at of t n) ≡ NewArrayOf at of (type_name_tree t) (expr_tree n.value)
new_array_is at of t n = ap expr_tree (sym (rolls-NewArray at of t n)) ∙ fold-roll-Expr ExprTree Behind Behind expr_step link_step postfix_step (shape.NewArray at of t n)

pub quantified_is : (at : Place) (q : Quantifier) (n : Name) (low high body : Box Expr Global) → expr_tree (view.Quantified at q n low high body) ≡ QuantifiedOf at q (name_tree n) (expr_tree low.value) (expr_tree high.value) (expr_tree body.value)
quantified_is at q n low high body = ap expr_tree (sym (rolls-Quantified at q n low high body)) ∙ fold-roll-Expr ExprTree Behind Behind expr_step link_step postfix_step (shape.Quantified at q n low high body)

pub operation_is : (op : Operator) (b : Expr) (at : Place) (e : ExprTree) → link_after (link.Operation op b) at e ≡ BinaryOf at op e (expr_tree b)
operation_is op b at e = ap (λ (l : Link). link_after l at e) (sym (link.rolls-Operation op b)) ∙ ap (λ (f : Behind). f at e) (fold-roll-Link ExprTree Behind Behind expr_step link_step postfix_step (shape.Operation op b))

pub is_is : (t : TypeRef) (at : Place) (e : ExprTree) → link_after (link.Is t) at e ≡ IsOf at e (type_tree t)
is_is t at e = ap (λ (l : Link). link_after l at e) (sym (link.rolls-Is t)) ∙ ap (λ (f : Behind). f at e) (fold-roll-Link ExprTree Behind Behind expr_step link_step postfix_step (shape.Is t))

pub as_is : (t : TypeRef) (at : Place) (e : ExprTree) → link_after (link.As t) at e ≡ AsOf at e (type_tree t)
as_is t at e = ap (λ (l : Link). link_after l at e) (sym (link.rolls-As t)) ∙ ap (λ (f : Behind). f at e) (fold-roll-Link ExprTree Behind Behind expr_step link_step postfix_step (shape.As t))

pub member_is : (n : Name) (at : Place) (e : ExprTree) → postfix_after (postfix.Member n) at e ≡ MemberOf at e (name_tree n)
member_is n at e = ap (λ (l : Postfix). postfix_after l at e) (sym (postfix.rolls-Member n)) ∙ ap (λ (f : Behind). f at e) (fold-roll-Postfix ExprTree Behind Behind expr_step link_step postfix_step (shape.Member n))

pub element_is : (i : Expr) (at : Place) (e : ExprTree) → postfix_after (postfix.Element i) at e ≡ ElementOf at e (expr_tree i)
element_is i at e = ap (λ (l : Postfix). postfix_after l at e) (sym (postfix.rolls-Element i)) ∙ ap (λ (f : Behind). f at e) (fold-roll-Postfix ExprTree Behind Behind expr_step link_step postfix_step (shape.Element i))

pub call_is : (es : Vec Expr Global) (at : Place) (e : ExprTree) → postfix_after (postfix.Call es) at e ≡ CallOf at e (arguments (map expr_tree es.items))
call_is es at e = ap (λ (l : Postfix). postfix_after l at e) (sym (postfix.rolls-Call es)) ∙ ap (λ (f : Behind). f at e) (fold-roll-Postfix ExprTree Behind Behind expr_step link_step postfix_step (shape.Call es))

-- ---- of what kind a chain or a path is

-- what a link or a postfix makes
pub record LinkShape (l : Link) : Type 0 where
  pub shape : Link-F ExprTree Behind Behind
  pub is : link_after l ≡ link_step shape

pub link_shape : (l : Link) → LinkShape l
link_shape l = record { shape = _; is = fold_out-Link ExprTree Behind Behind expr_step link_step postfix_step l }

pub record PostfixShape (l : Postfix) : Type 0 where
  pub shape : Postfix-F ExprTree Behind Behind
  pub is : postfix_after l ≡ postfix_step shape

pub postfix_shape : (l : Postfix) → PostfixShape l
postfix_shape l = record { shape = _; is = fold_out-Postfix ExprTree Behind Behind expr_step link_step postfix_step l }

-- a chain is of the kind of its last link, and a path of that of its last postfix
pub chain_all : {X : Type 0} (f : ExprTree → X) (x : Place → X) → ((s : Link-F ExprTree Behind Behind) (at : Place) (t : ExprTree) → f (link_step s at t) ≡ x at) → (at : Place) (t : ExprTree) (l : Link) (ls : List Link) → f (grouped at t (map link_after (l ∷ ls))) ≡ x at
chain_all f x h at t l [] = ap (λ (b : Behind). f (b at t)) (link_shape l).is ∙ h (link_shape l).shape at t
chain_all f x h at t l (m ∷ ls) = chain_all f x h at (link_after l at t) m ls

pub path_all : {X : Type 0} (f : ExprTree → X) (x : Place → X) → ((s : Postfix-F ExprTree Behind Behind) (at : Place) (t : ExprTree) → f (postfix_step s at t) ≡ x at) → (at : Place) (t : ExprTree) (l : Postfix) (ls : List Postfix) → f (grouped at t (map postfix_after (l ∷ ls))) ≡ x at
path_all f x h at t l [] = ap (λ (b : Behind). f (b at t)) (postfix_shape l).is ∙ h (postfix_shape l).shape at t
path_all f x h at t l (m ∷ ls) = path_all f x h at (postfix_after l at t) m ls

pub some_length : (n : ℕ) → n ≡ 0 → false ≡ (n == 0) → ⊥
some_length n e h = true≢false (sym (h ∙ ap (λ k. k == 0) e))

no_length : (n m : ℕ) → n ≡ suc m → true ≡ (n == 0) → ⊥
no_length n m e h = ⊎_elim (λ d. let x : n ≡ 0 = d.1 in omega arith) (λ d. true≢false (h ∙ d.0)) (eqb_tells n 0)

-- the same where a length says that there is one
pub chain_some : {X : Type 0} (f : ExprTree → X) (x : Place → X) → ((s : Link-F ExprTree Behind Behind) (at : Place) (t : ExprTree) → f (link_step s at t) ≡ x at) → (at : Place) (t : ExprTree) (ls : List Link) (n : ℕ) → n ≡ length ls → false ≡ (n == 0) → f (grouped at t (map link_after ls)) ≡ x at
chain_some f x k at t [] n e h = absurd (some_length n e h)
chain_some f x k at t (l ∷ ls) n e h = chain_all f x k at t l ls

pub path_some : {X : Type 0} (f : ExprTree → X) (x : Place → X) → ((s : Postfix-F ExprTree Behind Behind) (at : Place) (t : ExprTree) → f (postfix_step s at t) ≡ x at) → (at : Place) (t : ExprTree) (ls : List Postfix) (n : ℕ) → n ≡ length ls → false ≡ (n == 0) → f (grouped at t (map postfix_after ls)) ≡ x at
path_some f x k at t [] n e h = absurd (some_length n e h)
path_some f x k at t (l ∷ ls) n e h = path_all f x k at t l ls

-- without links or postfixes it is what it begins with
pub chain_alone : (at : Place) (t : ExprTree) (ls : List Link) (n : ℕ) → n ≡ length ls → true ≡ (n == 0) → grouped at t (map link_after ls) ≡ t
chain_alone at t [] n e h = refl
chain_alone at t (l ∷ ls) n e h = absurd (no_length n (length ls) e h)

pub path_alone : (at : Place) (t : ExprTree) (ls : List Postfix) (n : ℕ) → n ≡ length ls → true ≡ (n == 0) → grouped at t (map postfix_after ls) ≡ t
path_alone at t [] n e h = refl
path_alone at t (l ∷ ls) n e h = absurd (no_length n (length ls) e h)

-- ---- one part more

pub grouped_push : (at : Place) (e : ExprTree) (bs : List Behind) (b : Behind) → grouped at e (bs ++ b ∷ []) ≡ b at (grouped at e bs)
grouped_push at e [] b = refl
grouped_push at e (x ∷ bs) b = grouped_push at (x at e) bs b

-- one more part after those that a loop has gone over
pub grouped_more : {X : Type 0} (behind : X → Behind) (at : Place) (e : ExprTree) (xs : List X) (i : ℕ) (x : X) → i < length xs → x ≡ get_or xs i x
    → grouped at e (map behind (take (i + 1) xs)) ≡ behind x at (grouped at e (map behind (take i xs)))
grouped_more behind at e xs i x l g =
    ap (λ ys. grouped at e (map behind ys)) (take_more xs i x l)
    ∙ ap (grouped at e) (map-append behind (take i xs) (get_or xs i x ∷ []))
    ∙ grouped_push at e (map behind (take i xs)) (behind (get_or xs i x))
    ∙ ap (λ y. behind y at (grouped at e (map behind (take i xs)))) (sym g)

-- a path by its last postfix
pub path_last : (at : Place) (first : Box Expr Global) (postfixes : Vec Postfix Global) (front : List Postfix) (last : Postfix) → postfixes.items ≡ front ++ last ∷ []
    → expr_tree (view.Path at first postfixes) ≡ postfix_after last at (grouped at (expr_tree first.value) (map postfix_after front))
path_last at first postfixes front last e =
    path_is at first postfixes
    ∙ ap (λ ps. grouped at (expr_tree first.value) (map postfix_after ps)) e
    ∙ ap (grouped at (expr_tree first.value)) (map-append postfix_after front (last ∷ []))
    ∙ grouped_push at (expr_tree first.value) (map postfix_after front) (postfix_after last)
