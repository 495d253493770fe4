-- Chains and paths: what stands after an expression without a value has none, and a link or a step at a time gives the value.
use Rattle.std.proofs.Common.{◌≡◌, ℕ, suc, ◌<◌, length, drop, map, get_or, List, [], ◌∷◌, sym, ap, subst, ◌∙◌, arith, ◌+◌, ◌≤◌}
use Rattle.std.specs.Prelude.{Ok, Err}
use Rattle.std.specs.Global.{Vec, Box}
use Rattle.std.proofs.Math.Seq.{drop-cons}
use Rattle.std.proofs.Math.ListN.{drop_of_length-le}
use Rattle.ss_core.specs.declared.names.Place.{Place}
use Rattle.ss_core.specs.declared.expr.Link.{Link}
use Rattle.ss_core.specs.declared.expr.Step.{Step}
use Rattle.ss_core.specs.declared.expr.Expr.{Expr}
use Rattle.ss_core.specs.declared.expr.Expr.TheFolds.{fold-roll-Expr, fold_out-Link, fold_out-Step}
use Rattle.ss_core.specs.declared.expr.Expr.TheVariants.{Chain, rolls-Chain, Path, rolls-Path}
use Rattle.ss_core.specs.declared.expr.Expr.TheOpen as shape
use Rattle.ss_core.specs.declared.expr.Expr.TheOpen.{Link-F, Step-F}
use Rattle.ss_core.specs.Tree.{ExprTree}
use Rattle.ss_core.specs.View.{Behind, grouped, expr, expr_step, link_step, step_step}
use Rattle.ss_store_rules.specs.declared.Value.{Value}
use Rattle.ss_store_rules.specs.declared.Undefined.{Undefined}
use Rattle.ss_store_rules.specs.Reads.{as_int}
use Rattle.ss_store_rules.specs.Numbers.{Outcome}
use Rattle.ss_store_rules.specs.Values.{Setting, truth, and_then, operation, field_value, element_value, length_value, is_of, value_of}
use Rattle.ss_store_rules.specs.declared.Value.TheVariants as value
use Rattle.std.specs.Prelude.{if◌then◌else◌}
use Rattle.ss_store.specs.Grouped.{link_after, step_after, IsAfter}

-- ---- what a link or a step makes

pub record LinkShape (l : Link) : Type 0 where
  pub shape : Link-F ExprTree Behind Behind
  pub is : link_after l ≡ link_step shape

pub link_shape : (l : Link) → LinkShape l
link_shape l = record { shape = _; is = fold_out-Link ExprTree Behind Behind expr_step link_step step_step l }

pub record StepShape (s : Step) : Type 0 where
  pub shape : Step-F ExprTree Behind Behind
  pub is : step_after s ≡ step_step shape

pub step_shape : (s : Step) → StepShape s
step_shape s = record { shape = _; is = fold_out-Step ExprTree Behind Behind expr_step link_step step_step s }

-- ---- nothing has a value after what has none

-- it has no value after an expression without one
abbrev pub IsStrict : Setting → Place → Behind → Type 0
IsStrict c p b = (e : ExprTree) (u : Undefined) → value_of e c ≡ Err u → value_of (b p e) c ≡ Err u

link_step_strict : (c : Setting) (p : Place) (l : Link-F ExprTree Behind Behind) → IsStrict c p (link_step l)
link_step_strict c p (shape.Operation o a) e u h = ap (λ r. operation o p r (value_of a c)) h
link_step_strict c p (shape.Is t) e u h = ap (λ (r : Outcome). and_then r (λ v. truth (is_of c t.0 v))) h
link_step_strict c p (shape.As t) e u h = ap (λ (r : Outcome). and_then r (λ v. Ok (if is_of c t.0 v then v else value.Null))) h

step_step_strict : (c : Setting) (p : Place) (s : Step-F ExprTree Behind Behind) → IsStrict c p (step_step s)
step_step_strict c p (shape.Field f) e u h = ap (λ (r : Outcome). and_then r (λ v. field_value c p v f.0)) h
step_step_strict c p (shape.Element i) e u h = ap (λ (r : Outcome). and_then r (λ v. and_then (value_of i c) (λ w. element_value c p v (as_int w)))) h
step_step_strict c p shape.Length e u h = ap (λ (r : Outcome). and_then r (λ v. length_value c p v)) h

link_strict : (c : Setting) (p : Place) (l : Link) → IsStrict c p (link_after l)
link_strict c p l e u h = ap (λ (b : Behind). value_of (b p e) c) (link_shape l).is ∙ link_step_strict c p (link_shape l).shape e u h

step_strict : (c : Setting) (p : Place) (s : Step) → IsStrict c p (step_after s)
step_strict c p s e u h = ap (λ (b : Behind). value_of (b p e) c) (step_shape s).is ∙ step_step_strict c p (step_shape s).shape e u h

pub links_strict : (c : Setting) (p : Place) (ls : List Link) (e : ExprTree) (u : Undefined) → value_of e c ≡ Err u → value_of (grouped p e (map link_after ls)) c ≡ Err u
links_strict c p [] e u h = h
links_strict c p (l ∷ ls) e u h = links_strict c p ls (link_after l p e) u (link_strict c p l e u h)

pub steps_strict : (c : Setting) (p : Place) (ss : List Step) (e : ExprTree) (u : Undefined) → value_of e c ≡ Err u → value_of (grouped p e (map step_after ss)) c ≡ Err u
steps_strict c p [] e u h = h
steps_strict c p (s ∷ ss) e u h = steps_strict c p ss (step_after s p e) u (step_strict c p s e u h)

-- ---- the trees of a chain and of a path

pub chain_is : (p : Place) (first : Box Expr) (links : Vec Link) → expr (Chain p first links) ≡ grouped p (expr first.value) (map link_after links.items)
chain_is p first links = ap expr (sym (rolls-Chain p first links)) ∙ fold-roll-Expr ExprTree Behind Behind expr_step link_step step_step (shape.Chain p first links)

pub path_is : (p : Place) (first : Box Expr) (steps : Vec Step) → expr (Path p first steps) ≡ grouped p (expr first.value) (map step_after steps.items)
path_is p first steps = ap expr (sym (rolls-Path p first steps)) ∙ fold-roll-Expr ExprTree Behind Behind expr_step link_step step_step (shape.Path p first steps)

pub chain_strict : (c : Setting) (p : Place) (first : Box Expr) (links : Vec Link) (u : Undefined) → value_of (expr first.value) c ≡ Err u → value_of (expr (Chain p first links)) c ≡ Err u
chain_strict c p first links u h = ap (λ e. value_of e c) (chain_is p first links) ∙ links_strict c p links.items (expr first.value) u h

pub path_strict : (c : Setting) (p : Place) (first : Box Expr) (steps : Vec Step) (u : Undefined) → value_of (expr first.value) c ≡ Err u → value_of (expr (Path p first steps)) c ≡ Err u
path_strict c p first steps u h = ap (λ e. value_of e c) (path_is p first steps) ∙ steps_strict c p steps.items (expr first.value) u h

-- ---- one at a time

-- what comes of the rest comes of the whole
abbrev pub Leads : Setting → Place → Value → List Behind → Value → List Behind → Type 0
Leads c p v bs first all = (r : Outcome) → IsAfter c p v bs r → IsAfter c p first all r

pub one_after : (c : Setting) (p : Place) (v w : Value) (b : Behind) (bs : List Behind) (r : Outcome) → IsAfter c p v (b ∷ []) (Ok w) → IsAfter c p w bs r → IsAfter c p v (b ∷ bs) r
one_after c p v w b bs r one rest e h = rest (b p e) (sym (one e h))

pub no_links_after : (c : Setting) (p : Place) (v : Value) (b : Behind) (ls : List Link) (u : Undefined) → IsAfter c p v (b ∷ []) (Err u) → IsAfter c p v (b ∷ map link_after ls) (Err u)
no_links_after c p v b ls u one e h = sym (links_strict c p ls (b p e) u (sym (one e h)))

pub no_steps_after : (c : Setting) (p : Place) (v : Value) (b : Behind) (ss : List Step) (u : Undefined) → IsAfter c p v (b ∷ []) (Err u) → IsAfter c p v (b ∷ map step_after ss) (Err u)
no_steps_after c p v b ss u one e h = sym (steps_strict c p ss (b p e) u (sym (one e h)))

pub map_drop : {A : Type 0} (f : A → Behind) (xs : List A) (i : ℕ) (x : A) → i < length xs → x ≡ get_or xs i x → map f (drop i xs) ≡ f x ∷ map f (drop (i + 1) xs)
map_drop f xs i x lt is =
    let next : suc i ≡ i + 1 = omega arith in
    ap (map f) (drop-cons xs i x lt)
    ∙ ap (λ y. f y ∷ map f (drop (suc i) xs)) (sym is)
    ∙ ap (λ n. f x ∷ map f (drop n xs)) next

pub leads_on : (c : Setting) (p : Place) (v w : Value) (b : Behind) (bs rest : List Behind) (first : Value) (all : List Behind) → bs ≡ b ∷ rest → IsAfter c p v (b ∷ []) (Ok w) → Leads c p v bs first all → Leads c p w rest first all
leads_on c p v w b bs rest first all eq one lead r h = lead r (subst (λ x. IsAfter c p v x r) (sym eq) (one_after c p v w b rest r one h))

pub link_ends : (c : Setting) (p : Place) (v : Value) (u : Undefined) (b : Behind) (bs : List Behind) (ls : List Link) (first : Value) (all : List Behind) → bs ≡ b ∷ map link_after ls → IsAfter c p v (b ∷ []) (Err u) → Leads c p v bs first all → IsAfter c p first all (Err u)
link_ends c p v u b bs ls first all eq one lead = lead (Err u) (subst (λ x. IsAfter c p v x (Err u)) (sym eq) (no_links_after c p v b ls u one))

pub step_ends : (c : Setting) (p : Place) (v : Value) (u : Undefined) (b : Behind) (bs : List Behind) (ss : List Step) (first : Value) (all : List Behind) → bs ≡ b ∷ map step_after ss → IsAfter c p v (b ∷ []) (Err u) → Leads c p v bs first all → IsAfter c p first all (Err u)
step_ends c p v u b bs ss first all eq one lead = lead (Err u) (subst (λ x. IsAfter c p v x (Err u)) (sym eq) (no_steps_after c p v b ss u one))

pub leads_home : {A : Type 0} (f : A → Behind) (xs : List A) (i : ℕ) (c : Setting) (p : Place) (v first : Value) (all : List Behind) → length xs ≤ i → Leads c p v (map f (drop i xs)) first all → IsAfter c p first all (Ok v)
leads_home f xs i c p v first all le lead =
    let none : map f (drop i xs) ≡ [] = ap (map f) (drop_of_length-le xs le) in
    lead (Ok v) (subst (λ bs. IsAfter c p v bs (Ok v)) (sym none) (λ e h. sym h))
