-- The texts of chains and of paths, link by link and step by step.
use Rattle.std.proofs.Common.{◌≡◌, ℕ, zero, suc, List, [], ◌∷◌, ◌++◌, map, length, refl, ap, sym, ◌∙◌, append_assoc}
use Rattle.std.proofs.lemmas.List.{append-nil}
use Rattle.std.specs.Prelude.{replicate}
use Rattle.ss_core.specs.declared.names.Place.{Place}
use Rattle.ss_core.specs.declared.expr.Link.{Link}
use Rattle.ss_core.specs.declared.expr.Step.{Step}
use Rattle.ss_core.specs.declared.expr.Expr.TheFolds.{fold_out-Link, fold_out-Step}
use Rattle.ss_core.specs.declared.expr.Expr.TheOpen as shape
use Rattle.ss_core.specs.declared.expr.Expr.TheOpen.{Link-F, Step-F}
use Rattle.ss_core.specs.Tree.{ClassTree, ExprTree}
use Rattle.ss_core.specs.View.{Behind, grouped, expr_step, link_step, step_step}
use Rattle.ss_report_core.specs.Exprs.{expr_text}
use Rattle.ss_report_core.specs.Afters.{link_after, step_after, link_text, step_text, links_text, steps_text}

record LinkShape (l : Link) : Type 0 where
  shape : Link-F ExprTree Behind Behind
  is : link_after l ≡ link_step shape

link_shape : (l : Link) → LinkShape l
link_shape l = record { shape = _; is = fold_out-Link ExprTree Behind Behind expr_step link_step step_step l }

record StepShape (s : Step) : Type 0 where
  shape : Step-F ExprTree Behind Behind
  is : step_after s ≡ step_step shape

step_shape : (s : Step) → StepShape s
step_shape s = record { shape = _; is = fold_out-Step ExprTree Behind Behind expr_step link_step step_step s }

-- an open parenthesis, the operand, and what the link writes
abbrev WritesLink : List ClassTree → List (List ℕ) → Place → ExprTree → Behind → Type 0
WritesLink cs names p e b = expr_text cs names (b p e) ≡ 40 ∷ (expr_text cs names e ++ link_text cs names b)

link_step_writes : (cs : List ClassTree) (names : List (List ℕ)) (p : Place) (e : ExprTree) (l : Link-F ExprTree Behind Behind) → WritesLink cs names p e (link_step l)
link_step_writes cs names p e (shape.Operation o a) = simp append_assoc
link_step_writes cs names p e (shape.Is t) = simp append_assoc
link_step_writes cs names p e (shape.As t) = simp append_assoc

link_writes : (cs : List ClassTree) (names : List (List ℕ)) (p : Place) (e : ExprTree) (l : Link) → WritesLink cs names p e (link_after l)
link_writes cs names p e l = let w = link_shape l in rw w.is (link_step_writes cs names p e w.shape)

-- the beginning of the path, and what the step writes
abbrev WritesStep : List ClassTree → List (List ℕ) → Place → ExprTree → Behind → Type 0
WritesStep cs names p e b = expr_text cs names (b p e) ≡ expr_text cs names e ++ step_text cs names b

step_step_writes : (cs : List ClassTree) (names : List (List ℕ)) (p : Place) (e : ExprTree) (s : Step-F ExprTree Behind Behind) → WritesStep cs names p e (step_step s)
step_step_writes cs names p e (shape.Field f) = simp append_assoc
step_step_writes cs names p e (shape.Element a) = simp append_assoc
step_step_writes cs names p e shape.Length = refl

step_writes : (cs : List ClassTree) (names : List (List ℕ)) (p : Place) (e : ExprTree) (s : Step) → WritesStep cs names p e (step_after s)
step_writes cs names p e s = let w = step_shape s in rw w.is (step_step_writes cs names p e w.shape)

pub one_more_open : (n : ℕ) (xs : List ℕ) → replicate n 40 ++ 40 ∷ xs ≡ 40 ∷ (replicate n 40 ++ xs)
one_more_open zero xs = refl
one_more_open (suc n) xs = ap (λ ys. 40 ∷ ys) (one_more_open n xs)

-- a chain: an open parenthesis for each link, the first operand, and what the links write
pub chain_text : (cs : List ClassTree) (names : List (List ℕ)) (p : Place) (e : ExprTree) (ls : List Link)
    → expr_text cs names (grouped p e (map link_after ls)) ≡ replicate (length ls) 40 ++ (expr_text cs names e ++ links_text cs names (map link_after ls))
chain_text cs names p e [] = sym (append-nil (expr_text cs names e))
chain_text cs names p e (l ∷ ls) =
    let lt = link_text cs names (link_after l) in
    let rest = links_text cs names (map link_after ls) in
    let opens = replicate (length ls) 40 in
    chain_text cs names p (link_after l p e) ls
    ∙ ap (λ t. opens ++ (t ++ rest)) (link_writes cs names p e l)
    ∙ one_more_open (length ls) ((expr_text cs names e ++ lt) ++ rest)
    ∙ ap (λ t. 40 ∷ (opens ++ t)) (append_assoc (expr_text cs names e) lt rest)

-- a path: what it begins with, and what the steps write
pub path_text : (cs : List ClassTree) (names : List (List ℕ)) (p : Place) (e : ExprTree) (ss : List Step)
    → expr_text cs names (grouped p e (map step_after ss)) ≡ expr_text cs names e ++ steps_text cs names (map step_after ss)
path_text cs names p e [] = sym (append-nil (expr_text cs names e))
path_text cs names p e (s ∷ ss) =
    let st = step_text cs names (step_after s) in
    let rest = steps_text cs names (map step_after ss) in
    path_text cs names p (step_after s p e) ss
    ∙ ap (λ t. t ++ rest) (step_writes cs names p e s)
    ∙ append_assoc (expr_text cs names e) st rest
