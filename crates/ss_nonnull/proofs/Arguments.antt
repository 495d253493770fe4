-- Arguments, one by one.
use Rattle.std.proofs.Common.{◌≡◌, ◌++◌, ◌<◌, ◌≤◌, ◌+◌, ℕ, zero, suc, length, List, [], ◌∷◌, Option, map, drop, get_or, refl, sym, ap, ◌∙◌, add-one, append_assoc, append-nil}
use Rattle.std.specs.Prelude.{slice_get}
use Rattle.ss_faults.specs.declared.Fault.{Fault}
use Rattle.ss_core.specs.declared.names.Ty.{Ty}
use Rattle.ss_typed.specs.declared.expr.TypedExpr.{TypedExpr}
use Rattle.ss_typed.specs.Tree.{ExprTree, Arguments, NoMore, Argument, arguments}
use Rattle.ss_typed.specs.View.{expr}
use Rattle.ss_nonnull_rules.specs.NonNull.{NullContext, Known}
use Rattle.ss_nonnull_rules.specs.Faults.{inside, handed, wanted_if}
use Rattle.std.proofs.lemmas.List.{drop_all}
use Rattle.ss_ast.proofs.Loops.{drop_item}

no_arguments : (s : NullContext) (k : Option Known) (ts : List Ty) → handed s k NoMore ts ≡ []
no_arguments s k [] = refl
no_arguments s k (t ∷ ts) = refl

-- the next argument stands where its parameter's type is wanted
next_argument : (s : NullContext) (k : Option Known) (ts : List Ty) (i : ℕ) (e : ExprTree) (rest : Arguments)
    → handed s k (Argument e rest) (drop i ts) ≡ (inside s k e ++ wanted_if s k e (slice_get ts i)) ++ handed s k rest (drop (suc i) ts)
next_argument s k [] zero e rest = ap (λ (l : List Fault). l ++ handed s k rest []) (sym (append-nil (inside s k e)))
next_argument s k [] (suc i) e rest = ap (λ (l : List Fault). l ++ handed s k rest []) (sym (append-nil (inside s k e)))
next_argument s k (t ∷ ts) zero e rest = refl
next_argument s k (t ∷ ts) (suc i) e rest = next_argument s k ts i e rest

-- ---- a loop over arguments

pub one_more : (s : NullContext) (k : Option Known) (ts : List Ty) (list : List TypedExpr) (i : ℕ) (e : TypedExpr) (f0 f1 total : List Fault)
    → i < length list → e ≡ get_or list i e → f1 ≡ f0 ++ (inside s k (expr e) ++ wanted_if s k (expr e) (slice_get ts i))
    → f0 ++ handed s k (arguments (map expr (drop i list))) (drop i ts) ≡ total
    → f1 ++ handed s k (arguments (map expr (drop (i + 1) list))) (drop (i + 1) ts) ≡ total
one_more s k ts list i e f0 f1 total l is q h =
    let rest = arguments (map expr (drop (suc i) list)) in
    let here = inside s k (expr e) ++ wanted_if s k (expr e) (slice_get ts i) in
    ap (λ (n : ℕ). f1 ++ handed s k (arguments (map expr (drop n list))) (drop n ts)) (add-one i)
    ∙ ap (λ (f : List Fault). f ++ handed s k rest (drop (suc i) ts)) q
    ∙ append_assoc f0 here (handed s k rest (drop (suc i) ts))
    ∙ ap (λ (x : List Fault). f0 ++ x) (sym (next_argument s k ts i (expr e) rest))
    ∙ ap (λ (es : List TypedExpr). f0 ++ handed s k (arguments (map expr es)) (drop i ts)) (sym (drop_item list i e l is))
    ∙ h

pub all_done : (s : NullContext) (k : Option Known) (ts : List Ty) (list : List TypedExpr) (i : ℕ) (f total : List Fault) → length list ≤ i
    → f ++ handed s k (arguments (map expr (drop i list))) (drop i ts) ≡ total → f ≡ total
all_done s k ts list i f total l h =
    sym (append-nil f)
    ∙ ap (λ (x : List Fault). f ++ x) (sym (no_arguments s k (drop i ts)))
    ∙ ap (λ (es : List TypedExpr). f ++ handed s k (arguments (map expr es)) (drop i ts)) (sym (drop_all i list l))
    ∙ h
