-- The statements that stand before `base(..)`, counted from the front.
use Rattle.std.proofs.Common.{ℕ, suc, ◌≡◌, ◌<◌, ◌≤◌, ◌+◌, List, [], ◌∷◌, ◌++◌, length, take, drop, map, get_or, cond, Bool, true, false, None, refl, sym, ap, ◌∙◌, arith}
use Rattle.std.specs.Prelude.{if◌then◌else◌, not}
use Rattle.std.specs.List.{prefix_len}
use Rattle.ss_typed.specs.declared.stmt.TypedStmt.{TypedStmt}
use Rattle.ss_typed.specs.Tree.{StmtTree, StmtTrees, NoMore, Before, TypedTree, stmt_trees}
use Rattle.ss_typed.specs.View.{stmt_of}
use Rattle.ss_typed.specs.Shapes.{has_base, is_base}
use Rattle.std.proofs.lemmas.List.{drop_all, take_all, map-append}
use Rattle.ss_ast.proofs.Loops.{drop_next, take_next}
use Rattle.ss_delayed_rules.specs.Opening.{is_first, first_run, before_base, opening_of}
use Rattle.ss_delayed.specs.Openings.{run, is_no_base, ahead}

-- ---- what is kept

turned : (b : Bool) (x : StmtTrees) → (if b then NoMore else x) ≡ (if not b then x else NoMore)
turned true x = refl
turned false x = refl

pub before_base_is : (ss : StmtTrees) → before_base ss ≡ run is_no_base ss
before_base_is NoMore = refl
before_base_is (Before s ss) = ap (λ (x : StmtTrees). if is_base s then NoMore else Before s x) (before_base_is ss) ∙ turned (is_base s) (Before s (run is_no_base ss))

-- ---- statements that a loop has gone over

ahead_more : (xs : List StmtTree) (x : StmtTree) (ss : StmtTrees) → ahead (xs ++ x ∷ []) ss ≡ ahead xs (Before x ss)
ahead_more [] x ss = refl
ahead_more (y ∷ xs) x ss = ap (Before y) (ahead_more xs x ss)

ahead_all : (xs : List StmtTree) → ahead xs NoMore ≡ stmt_trees xs
ahead_all [] = refl
ahead_all (x ∷ xs) = ap (Before x) (ahead_all xs)

-- what has been gone over is kept, and the rest is looked at
abbrev pub IsRun : (StmtTree → Bool) → List TypedStmt → ℕ → Type 0
IsRun keeps ss i = run keeps (stmt_trees (map stmt_of ss)) ≡ ahead (map stmt_of (take i ss)) (run keeps (stmt_trees (map stmt_of (drop i ss))))

chosen : (keeps : StmtTree → Bool) (s : StmtTree) (ss : StmtTrees) (b : Bool) → keeps s ≡ b → run keeps (Before s ss) ≡ (if b then Before s (run keeps ss) else NoMore)
chosen keeps s ss b e = ap (λ (x : Bool). if x then Before s (run keeps ss) else NoMore) e

at_item : (keeps : StmtTree → Bool) (ss : List TypedStmt) (i : ℕ) (x : TypedStmt) (b : Bool) → i < length ss → x ≡ get_or ss i x → keeps (stmt_of x) ≡ b
    → run keeps (stmt_trees (map stmt_of (drop i ss))) ≡ (if b then Before (stmt_of x) (run keeps (stmt_trees (map stmt_of (drop (i + 1) ss)))) else NoMore)
at_item keeps ss i x b l e k = ap (λ xs. run keeps (stmt_trees (map stmt_of xs))) (drop_next ss i x l e) ∙ chosen keeps (stmt_of x) (stmt_trees (map stmt_of (drop (i + 1) ss))) b k

pub run_more : (keeps : StmtTree → Bool) (ss : List TypedStmt) (i : ℕ) (x : TypedStmt) → IsRun keeps ss i → i < length ss → x ≡ get_or ss i x → keeps (stmt_of x) ≡ true → IsRun keeps ss (i + 1)
run_more keeps ss i x h l e k =
    h ∙ ap (ahead (map stmt_of (take i ss))) (at_item keeps ss i x true l e k)
    ∙ sym (ahead_more (map stmt_of (take i ss)) (stmt_of x) (run keeps (stmt_trees (map stmt_of (drop (i + 1) ss)))))
    ∙ ap (λ xs. ahead xs (run keeps (stmt_trees (map stmt_of (drop (i + 1) ss))))) (sym (ap (map stmt_of) (take_next ss i x l e) ∙ map-append stmt_of (take i ss) (x ∷ [])))

pub run_stops : (keeps : StmtTree → Bool) (ss : List TypedStmt) (i : ℕ) (x : TypedStmt) → IsRun keeps ss i → i < length ss → x ≡ get_or ss i x → keeps (stmt_of x) ≡ false
    → run keeps (stmt_trees (map stmt_of ss)) ≡ stmt_trees (map stmt_of (take i ss))
run_stops keeps ss i x h l e k = h ∙ ap (ahead (map stmt_of (take i ss))) (at_item keeps ss i x false l e k) ∙ ahead_all (map stmt_of (take i ss))

pub run_whole : (keeps : StmtTree → Bool) (ss : List TypedStmt) (i n : ℕ) → IsRun keeps ss i → length ss ≤ i → n ≡ length ss → run keeps (stmt_trees (map stmt_of ss)) ≡ stmt_trees (map stmt_of (take n ss))
run_whole keeps ss i n h l e =
    h ∙ ap (λ xs. ahead (map stmt_of (take i ss)) (run keeps (stmt_trees (map stmt_of xs)))) (drop_all i ss l)
    ∙ ahead_all (map stmt_of (take i ss))
    ∙ ap (λ xs. stmt_trees (map stmt_of xs)) (take_all i ss l ∙ sym (take_all n ss (omega arith)))

-- ---- where `base(..)` is written in the block

pub opening_with_base : (p : TypedTree) (t : ℕ) (ss : StmtTrees) → true ≡ has_base ss → opening_of p t None ss ≡ run is_no_base ss
opening_with_base p t ss e = ap (λ (x : Bool). if x then before_base ss else first_run p t ss) (sym e) ∙ before_base_is ss

-- ---- where none is written

run_one : (b : Bool) (p : TypedTree) (t : ℕ) (s : StmtTree) (ss : List StmtTree) → first_run p t (stmt_trees ss) ≡ stmt_trees (take (prefix_len (is_first p t) ss) ss)
    → (if b then Before s (first_run p t (stmt_trees ss)) else NoMore) ≡ stmt_trees (take (cond b (1 + prefix_len (is_first p t) ss) 0) (s ∷ ss))
run_one true p t s ss k =
    let more : 1 + prefix_len (is_first p t) ss ≡ suc (prefix_len (is_first p t) ss) = omega arith in
    ap (Before s) k ∙ ap (λ m. stmt_trees (take m (s ∷ ss))) (sym more)
run_one false p t s ss k = refl

run_counted : (p : TypedTree) (t : ℕ) (ss : List StmtTree) → first_run p t (stmt_trees ss) ≡ stmt_trees (take (prefix_len (is_first p t) ss) ss)
run_counted p t [] = refl
run_counted p t (s ∷ ss) = run_one (is_first p t s) p t s ss (run_counted p t ss)

pub opening_without_base : (p : TypedTree) (t : ℕ) (ss : List StmtTree) → false ≡ has_base (stmt_trees ss) → opening_of p t None (stmt_trees ss) ≡ stmt_trees (take (prefix_len (is_first p t) ss) ss)
opening_without_base p t ss e = ap (λ (x : Bool). if x then before_base (stmt_trees ss) else first_run p t (stmt_trees ss)) (sym e) ∙ run_counted p t ss
