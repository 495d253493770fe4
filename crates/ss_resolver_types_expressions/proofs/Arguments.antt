-- Arguments, one by one.
use Rattle.std.proofs.Common.{◌≡◌, ◌++◌, ◌<◌, ◌≤◌, ◌+◌, ℕ, zero, suc, length, List, [], ◌∷◌, Bool, true, false, cond, map, drop, get_or, refl, sym, ap, ◌∙◌, add-one, append_assoc, append-nil}
use Rattle.std.specs.Prelude.{slice_get, not, ◌&&◌}
use Rattle.ss_ast.specs.Expressions.{ExprTree, Arguments, NoMore, Argument, arguments, expr_tree}
use Rattle.ss_ast.specs.declared.expr.Expr.{Expr}
use Rattle.ss_tables.specs.Statics.{count}
use Rattle.ss_faults.specs.declared.Fault.{Fault}
use Rattle.ss_resolver_types_heads.specs.Faults.{bad_type, call_in_condition, fault_where}
use Rattle.ss_resolver_types_heads.specs.Wants.{Want, Printable, ClassName, bare, place_within}
use Rattle.ss_core.specs.declared.names.Place.{Place}
use Rattle.ss_resolver_types_heads.specs.Calls.{ExprContext, Called, whole_call, is_wrong_call, argument_wants}
use Rattle.ss_resolver_types_heads.specs.Expressions.{argument_faults, argument_where, argument, wanted, is_name, is_text, condition_faults}
use Rattle.ss_resolver_types_heads.specs.Heads.{names_class, is_printed, call_faults}
use Rattle.ss_resolver_types_heads.proofs.Endings.{joined}
use Rattle.std.proofs.lemmas.List.{drop_all}
use Rattle.ss_ast.proofs.Loops.{drop_item}

no_arguments : (a : ExprContext) (ws : List Want) → argument_faults a ws NoMore ≡ []
no_arguments a [] = refl
no_arguments a (w ∷ ws) = refl

-- the next argument is what is wanted in its place
pub next_argument : (a : ExprContext) (ws : List Want) (i : ℕ) (e : ExprTree) (rest : Arguments) → argument_faults a (drop i ws) (Argument e rest) ≡ argument_where a (slice_get ws i) e ++ argument_faults a (drop (suc i) ws) rest
next_argument a [] zero e rest = refl
next_argument a [] (suc i) e rest = refl
next_argument a (w ∷ ws) zero e rest = refl
next_argument a (w ∷ ws) (suc i) e rest = next_argument a ws i e rest

-- ---- a loop over arguments

pub one_more : (a : ExprContext) (ws : List Want) (list : List Expr) (i : ℕ) (e : Expr) (f0 f1 total : List Fault)
    → i < length list → e ≡ get_or list i e → f1 ≡ f0 ++ argument_where a (slice_get ws i) (expr_tree e)
    → f0 ++ argument_faults a (drop i ws) (arguments (map expr_tree (drop i list))) ≡ total
    → f1 ++ argument_faults a (drop (i + 1) ws) (arguments (map expr_tree (drop (i + 1) list))) ≡ total
one_more a ws list i e f0 f1 total l is q h =
    let rest = arguments (map expr_tree (drop (suc i) list)) in
    ap (λ k. f1 ++ argument_faults a (drop k ws) (arguments (map expr_tree (drop k list)))) (add-one i)
    ∙ ap (λ f. f ++ argument_faults a (drop (suc i) ws) rest) q
    ∙ append_assoc f0 (argument_where a (slice_get ws i) (expr_tree e)) (argument_faults a (drop (suc i) ws) rest)
    ∙ ap (λ x. f0 ++ x) (sym (next_argument a ws i (expr_tree e) rest))
    ∙ ap (λ es. f0 ++ argument_faults a (drop i ws) (arguments (map expr_tree es))) (sym (drop_item list i e l is))
    ∙ h

pub all_done : (a : ExprContext) (ws : List Want) (list : List Expr) (i : ℕ) (f total : List Fault) → length list ≤ i
    → f ++ argument_faults a (drop i ws) (arguments (map expr_tree (drop i list))) ≡ total → f ≡ total
all_done a ws list i f total l h =
    sym (append-nil f)
    ∙ ap (λ x. f ++ x) (sym (no_arguments a (drop i ws)))
    ∙ ap (λ es. f ++ argument_faults a (drop i ws) (arguments (map expr_tree es))) (sym (drop_all i list l))
    ∙ h

-- ---- what is wanted of an argument

pub class_argument : (a : ExprContext) (w : Want) (e : ExprTree) (within : List Fault) → names_class w ≡ true → argument a w e within ≡ fault_where (not (is_name e)) (bad_type (place_within e))
class_argument a ClassName e within h = refl
class_argument a w e within h = absurd cc

pub text_argument : (a : ExprContext) (w : Want) (e : ExprTree) (within : List Fault) → (is_printed w && is_text (bare e)) ≡ true → argument a w e within ≡ []
text_argument a Printable e within h = ap (λ b. cond b [] (wanted a Printable e within)) h
text_argument a w e within h = absurd cc

pub value_argument : (a : ExprContext) (w : Want) (e : ExprTree) (within : List Fault) → names_class w ≡ false → (is_printed w && is_text (bare e)) ≡ false → argument a w e within ≡ wanted a w e within
value_argument a ClassName e within h k = absurd cc
value_argument a Printable e within h k = ap (λ b. cond b [] (wanted a Printable e within)) k
value_argument a w e within h k = refl

-- ---- calls

pub whole_noted : (a : ExprContext) (p : Place) (b x : Bool) (n : ℕ) (c : Called) (f0 f1 f2 : List Fault)
    → f1 ≡ f0 ++ fault_where (a.in_condition && b) (call_in_condition p) → x ≡ is_wrong_call n c → f2 ≡ f1 ++ fault_where x (bad_type p)
    → f2 ≡ f0 ++ (condition_faults a p b ++ whole_call p n c)
whole_noted a p b x n c f0 f1 f2 q is r =
    joined f0 f1 f2 (condition_faults a p b) (fault_where x (bad_type p)) q r
    ∙ ap (λ y. f0 ++ (condition_faults a p b ++ fault_where y (bad_type p))) is

pub call_noted : (a : ExprContext) (p : Place) (b : Bool) (n : ℕ) (c : Called) (es : Arguments) (ws : List Want) (f0 f1 f2 : List Fault)
    → n ≡ count es → f1 ≡ f0 ++ (condition_faults a p b ++ whole_call p n c) → ws ≡ argument_wants n c → f2 ≡ f1 ++ argument_faults a ws es
    → f2 ≡ f0 ++ call_faults a p b c es
call_noted a p b n c es ws f0 f1 f2 is q ws_is r =
    joined f0 f1 f2 (condition_faults a p b ++ whole_call p n c) (argument_faults a ws es) q r
    ∙ ap (λ w. f0 ++ (condition_faults a p b ++ whole_call p n c ++ argument_faults a w es)) ws_is
    ∙ ap (λ k. f0 ++ (condition_faults a p b ++ whole_call p k c ++ argument_faults a (argument_wants k c) es)) is
