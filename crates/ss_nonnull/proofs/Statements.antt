-- What is known after statements, and the faults along them.
use Rattle.std.proofs.Common.{◌≡◌, ◌++◌, ◌+◌, ◌<◌, ◌≤◌, ℕ, suc, length, map, drop, get_or, List, Bool, true, false, Option, Some, None, refl, sym, ap, ◌∙◌, add-one, append_assoc, append-nil}
use Rattle.std.specs.Prelude.{option_map, option_and_then}
use Rattle.ss_core.specs.declared.names.Place.{Place}
use Rattle.ss_faults.specs.declared.Fault.{Fault}
use Rattle.ss_typed.specs.declared.stmt.TypedStmt.{TypedStmt}
use Rattle.ss_typed.specs.Tree.{ExprTree, SimpleTree, InitTree, StmtTree, IfOf, IfElseOf, WhileOf, ForOf, BlockOf, StmtTrees, NoMore, Before, stmt_trees}
use Rattle.ss_typed.specs.View.{stmt_of}
use Rattle.ss_paths.specs.Sets.{Set, among}
use Rattle.ss_paths.specs.Paths.{met, test_of}
use Rattle.ss_typed.specs.Shapes.{is_true}
use Rattle.ss_nonnull_rules.specs.Facts.{says}
use Rattle.ss_nonnull_rules.specs.NonNull.{NullContext, Known, known_flow}
use Rattle.ss_nonnull_rules.specs.Faults.{inside}
use Rattle.ss_typed.specs.Assigned.{assigned, step_locals}
use Rattle.std.proofs.lemmas.List.{drop_all}
use Rattle.ss_ast.proofs.Loops.{drop_item}
use Rattle.ss_nonnull_seen.specs.Seen.{Seen, seen}
use Rattle.ss_nonnull_seen.specs.Paths.{told, untold, met_paths, left_by}
use Rattle.ss_nonnull.specs.Walks.{known_behind, known_after_block, known_at_end, known_after_first, known_at_head, stmt_faults, along_faults, heading_faults, step_faults_of, test_seen, test_faults}
use Rattle.ss_nonnull_seen.proofs.Seeing.{joined}

-- ---- heads of loops

pub head_is : (st : StmtTree) (xs : List ℕ) (k l : Option Known) → xs ≡ assigned st → l ≡ option_map (untold (among xs)) k → l ≡ known_at_head st None k
head_is st xs k l is q = q ∙ ap (λ (g : Set). option_map (untold g) k) (ap among (is ∙ sym (append-nil (assigned st))))

pub head_of_for_is : (st : StmtTree) (step : Option SimpleTree) (xs : List ℕ) (k l : Option Known)
    → xs ≡ assigned st ++ step_locals step → l ≡ option_map (untold (among xs)) k → l ≡ known_at_head st step k
head_of_for_is st step xs k l is q = q ∙ ap (λ (g : Set). option_map (untold g) k) (ap among is)

-- ---- single statements

pub mapped : (f : Known → Known) (k : Option Known) → option_map f k ≡ option_and_then (λ (x : Known). Some (f x)) k
mapped f None = refl
mapped f (Some k) = refl

pub stays : (k : Option Known) → k ≡ option_and_then (λ (x : Known). Some x) k
stays None = refl
stays (Some k) = refl

pub nowhere : (k : Option Known) → ◌≡◌ {A = Option Known} None (option_and_then (λ (x : Known). None) k)
nowhere None = refl
nowhere (Some k) = refl

-- ---- branches

met_is : (s : NullContext) (k l : Option Known) → met_paths k l ≡ met (known_flow s) k l
met_is s None l = refl
met_is s (Some k) None = refl
met_is s (Some k) (Some l) = refl

if_is : (s : NullContext) (p : Place) (e : ExprTree) (a : StmtTree) (k : Option Known)
    → met_paths (known_behind s a (option_map (told (says e true)) k)) (option_map (told (says e false)) k) ≡ known_behind s (IfOf p e a) k
if_is s p e a None = refl
if_is s p e a (Some k) = met_is s (known_behind s a (Some (told (says e true) k))) (Some (told (says e false) k))

pub if_known : (s : NullContext) (p : Place) (e : ExprTree) (a : StmtTree) (v : Seen) (k holding failing one r : Option Known)
    → v ≡ seen s k e → holding ≡ option_map (told v.holds) k → failing ≡ option_map (told v.fails) k
    → one ≡ known_behind s a holding → r ≡ met_paths one failing → r ≡ known_behind s (IfOf p e a) k
if_known s p e a v k holding failing one r is h f o q =
    q ∙ ap (λ (x : Option Known). met_paths x failing) (o ∙ ap (known_behind s a) (h ∙ ap (λ (w : Seen). option_map (told w.holds) k) is))
    ∙ ap (λ (x : Option Known). met_paths (known_behind s a (option_map (told (says e true)) k)) x) (f ∙ ap (λ (w : Seen). option_map (told w.fails) k) is)
    ∙ if_is s p e a k

pub if_noted : (s : NullContext) (p : Place) (e : ExprTree) (a : StmtTree) (v : Seen) (k holding : Option Known) (f0 f1 f2 : List Fault)
    → v ≡ seen s k e → holding ≡ option_map (told v.holds) k → f1 ≡ f0 ++ inside s k e → f2 ≡ f1 ++ stmt_faults s a holding
    → f2 ≡ f0 ++ stmt_faults s (IfOf p e a) k
if_noted s p e a v k holding f0 f1 f2 is h q r =
    joined f0 f1 f2 (inside s k e) (stmt_faults s a holding) q r
    ∙ ap (λ (x : Option Known). f0 ++ (inside s k e ++ stmt_faults s a x)) (h ∙ ap (λ (w : Seen). option_map (told w.holds) k) is)

else_is : (s : NullContext) (p : Place) (e : ExprTree) (a b : StmtTree) (k : Option Known)
    → met_paths (known_behind s a (option_map (told (says e true)) k)) (known_behind s b (option_map (told (says e false)) k)) ≡ known_behind s (IfElseOf p e a b) k
else_is s p e a b None = refl
else_is s p e a b (Some k) = met_is s (known_behind s a (Some (told (says e true) k))) (known_behind s b (Some (told (says e false) k)))

pub else_known : (s : NullContext) (p : Place) (e : ExprTree) (a b : StmtTree) (v : Seen) (k holding failing one other r : Option Known)
    → v ≡ seen s k e → holding ≡ option_map (told v.holds) k → failing ≡ option_map (told v.fails) k
    → one ≡ known_behind s a holding → other ≡ known_behind s b failing → r ≡ met_paths one other → r ≡ known_behind s (IfElseOf p e a b) k
else_known s p e a b v k holding failing one other r is h f o u q =
    q ∙ ap (λ (x : Option Known). met_paths x other) (o ∙ ap (known_behind s a) (h ∙ ap (λ (w : Seen). option_map (told w.holds) k) is))
    ∙ ap (λ (x : Option Known). met_paths (known_behind s a (option_map (told (says e true)) k)) x) (u ∙ ap (known_behind s b) (f ∙ ap (λ (w : Seen). option_map (told w.fails) k) is))
    ∙ else_is s p e a b k

pub else_noted : (s : NullContext) (p : Place) (e : ExprTree) (a b : StmtTree) (v : Seen) (k holding failing : Option Known) (f0 f1 f2 f3 : List Fault)
    → v ≡ seen s k e → holding ≡ option_map (told v.holds) k → failing ≡ option_map (told v.fails) k
    → f1 ≡ f0 ++ inside s k e → f2 ≡ f1 ++ stmt_faults s a holding → f3 ≡ f2 ++ stmt_faults s b failing
    → f3 ≡ f0 ++ stmt_faults s (IfElseOf p e a b) k
else_noted s p e a b v k holding failing f0 f1 f2 f3 is h f q r t =
    joined f0 f2 f3 (inside s k e ++ stmt_faults s a holding) (stmt_faults s b failing) (joined f0 f1 f2 (inside s k e) (stmt_faults s a holding) q r) t
    ∙ ap (λ (x : Option Known). f0 ++ ((inside s k e ++ stmt_faults s a x) ++ stmt_faults s b failing)) (h ∙ ap (λ (w : Seen). option_map (told w.holds) k) is)
    ∙ ap (λ (x : Option Known). f0 ++ ((inside s k e ++ stmt_faults s a (option_map (told (says e true)) k)) ++ stmt_faults s b x)) (f ∙ ap (λ (w : Seen). option_map (told w.fails) k) is)

-- ---- loops

left_nowhere : (b : Bool) (g : Set) → left_by b g None ≡ None
left_nowhere true g = refl
left_nowhere false g = refl

while_is : (s : NullContext) (p : Place) (e : ExprTree) (es : List ExprTree) (st : StmtTree) (k : Option Known)
    → left_by (is_true e) (says e false) (known_at_head st None k) ≡ known_behind s (WhileOf p e es st) k
while_is s p e es st None = left_nowhere (is_true e) (says e false)
while_is s p e es st (Some k) = refl

pub while_known : (s : NullContext) (p : Place) (e : ExprTree) (es : List ExprTree) (st : StmtTree) (v : Seen) (k head r : Option Known)
    → head ≡ known_at_head st None k → v ≡ seen s head e → r ≡ left_by v.is_true v.fails head → r ≡ known_behind s (WhileOf p e es st) k
while_known s p e es st v k head r h is q =
    q ∙ ap (λ (w : Seen). left_by w.is_true w.fails head) is ∙ ap (left_by (is_true e) (says e false)) h ∙ while_is s p e es st k

pub while_noted : (s : NullContext) (p : Place) (e : ExprTree) (es : List ExprTree) (st : StmtTree) (v : Seen) (k head repeated : Option Known) (f0 f1 f2 : List Fault)
    → head ≡ known_at_head st None k → v ≡ seen s head e → repeated ≡ option_map (told v.holds) head
    → f1 ≡ f0 ++ inside s head e → f2 ≡ f1 ++ stmt_faults s st repeated → f2 ≡ f0 ++ stmt_faults s (WhileOf p e es st) k
while_noted s p e es st v k head repeated f0 f1 f2 h is rep q r =
    joined f0 f1 f2 (inside s head e) (stmt_faults s st repeated) q r
    ∙ ap (λ (x : Option Known). f0 ++ (inside s head e ++ stmt_faults s st x)) (rep ∙ ap (λ (w : Seen). option_map (told w.holds) head) is)
    ∙ ap (λ (x : Option Known). f0 ++ (inside s x e ++ stmt_faults s st (option_map (told (says e true)) x))) h

for_is : (s : NullContext) (p : Place) (first : Option InitTree) (e : Option ExprTree) (step : Option SimpleTree) (es : List ExprTree) (st : StmtTree) (k : Option Known)
    → left_by (is_true (test_of p e)) (says (test_of p e) false) (known_at_head st step (known_after_first s first k)) ≡ known_behind s (ForOf p first e step es st) k
for_is s p first e step es st None = left_nowhere (is_true (test_of p e)) (says (test_of p e) false)
for_is s p first e step es st (Some k) = refl

pub for_known : (s : NullContext) (p : Place) (first : Option InitTree) (e : Option ExprTree) (step : Option SimpleTree) (es : List ExprTree) (st : StmtTree) (v : Seen) (k begun head r : Option Known)
    → begun ≡ known_after_first s first k → head ≡ known_at_head st step begun → v ≡ test_seen s head p e → r ≡ left_by v.is_true v.fails head
    → r ≡ known_behind s (ForOf p first e step es st) k
for_known s p first e step es st v k begun head r b h is q =
    q ∙ ap (λ (w : Seen). left_by w.is_true w.fails head) is ∙ ap (left_by (is_true (test_of p e)) (says (test_of p e) false)) (h ∙ ap (known_at_head st step) b)
    ∙ for_is s p first e step es st k

pub for_noted : (s : NullContext) (p : Place) (first : Option InitTree) (e : Option ExprTree) (step : Option SimpleTree) (es : List ExprTree) (st : StmtTree) (v : Seen)
    (k begun head repeated end : Option Known) (f0 f1 f2 f3 f4 : List Fault)
    → begun ≡ known_after_first s first k → head ≡ known_at_head st step begun → v ≡ test_seen s head p e → repeated ≡ option_map (told v.holds) head → end ≡ known_behind s st repeated
    → f1 ≡ f0 ++ heading_faults s first k → f2 ≡ f1 ++ test_faults s head p e → f3 ≡ f2 ++ stmt_faults s st repeated → f4 ≡ f3 ++ step_faults_of s step end
    → f4 ≡ f0 ++ stmt_faults s (ForOf p first e step es st) k
for_noted s p first e step es st v k begun head repeated end f0 f1 f2 f3 f4 b h is rep last q r t u =
    let heading = heading_faults s first k in
    joined f0 f3 f4 ((heading ++ test_faults s head p e) ++ stmt_faults s st repeated) (step_faults_of s step end)
    (joined f0 f2 f3 (heading ++ test_faults s head p e) (stmt_faults s st repeated) (joined f0 f1 f2 heading (test_faults s head p e) q r) t) u
    ∙ ap (λ (x : Option Known). f0 ++ (((heading ++ test_faults s head p e) ++ stmt_faults s st repeated) ++ step_faults_of s step x)) last
    ∙ ap (λ (x : Option Known). f0 ++ (((heading ++ test_faults s head p e) ++ stmt_faults s st x) ++ step_faults_of s step (known_behind s st x))) (rep ∙ ap (λ (w : Seen). option_map (told w.holds) head) is)
    ∙ ap (λ (x : Option Known). f0 ++ (((heading ++ test_faults s x p e) ++ stmt_faults s st (option_map (told (says (test_of p e) true)) x)) ++ step_faults_of s step (known_behind s st (option_map (told (says (test_of p e) true)) x))))
    (h ∙ ap (known_at_head st step) b)

-- ---- statements one after the other

ends_nowhere : (s : NullContext) (ss : StmtTrees) → known_at_end s ss None ≡ None
ends_nowhere s NoMore = refl
ends_nowhere s (Before st ss) = refl

pub block_is : (s : NullContext) (p end : Place) (ss : StmtTrees) (k : Option Known) → known_at_end s ss k ≡ known_after_block s (BlockOf p ss end) k
block_is s p end ss None = ends_nowhere s ss
block_is s p end ss (Some k) = refl

more_known : (s : NullContext) (st : StmtTree) (ss : StmtTrees) (k : Option Known) → known_at_end s (Before st ss) k ≡ known_at_end s ss (known_behind s st k)
more_known s st ss None = sym (ends_nowhere s ss)
more_known s st ss (Some k) = refl

pub one_known : (s : NullContext) (list : List TypedStmt) (i : ℕ) (st : TypedStmt) (k l total : Option Known)
    → i < length list → st ≡ get_or list i st → l ≡ known_behind s (stmt_of st) k
    → known_at_end s (stmt_trees (map stmt_of (drop i list))) k ≡ total → known_at_end s (stmt_trees (map stmt_of (drop (i + 1) list))) l ≡ total
one_known s list i st k l total within is q h =
    ap (λ (n : ℕ). known_at_end s (stmt_trees (map stmt_of (drop n list))) l) (add-one i)
    ∙ ap (known_at_end s (stmt_trees (map stmt_of (drop (suc i) list)))) q
    ∙ sym (more_known s (stmt_of st) (stmt_trees (map stmt_of (drop (suc i) list))) k)
    ∙ ap (λ (ss : List TypedStmt). known_at_end s (stmt_trees (map stmt_of ss)) k) (sym (drop_item list i st within is))
    ∙ h

pub one_noted : (s : NullContext) (list : List TypedStmt) (i : ℕ) (st : TypedStmt) (k l : Option Known) (f0 f1 total : List Fault)
    → i < length list → st ≡ get_or list i st → l ≡ known_behind s (stmt_of st) k → f1 ≡ f0 ++ stmt_faults s (stmt_of st) k
    → f0 ++ along_faults s (stmt_trees (map stmt_of (drop i list))) k ≡ total → f1 ++ along_faults s (stmt_trees (map stmt_of (drop (i + 1) list))) l ≡ total
one_noted s list i st k l f0 f1 total within is q noted h =
    let ss = stmt_trees (map stmt_of (drop (suc i) list)) in
    ap (λ (n : ℕ). f1 ++ along_faults s (stmt_trees (map stmt_of (drop n list))) l) (add-one i)
    ∙ ap (λ (m : Option Known). f1 ++ along_faults s ss m) q
    ∙ ap (λ (f : List Fault). f ++ along_faults s ss (known_behind s (stmt_of st) k)) noted
    ∙ append_assoc f0 (stmt_faults s (stmt_of st) k) (along_faults s ss (known_behind s (stmt_of st) k))
    ∙ ap (λ (xs : List TypedStmt). f0 ++ along_faults s (stmt_trees (map stmt_of xs)) k) (sym (drop_item list i st within is))
    ∙ h

pub all_known : (s : NullContext) (list : List TypedStmt) (i : ℕ) (k total : Option Known) → length list ≤ i
    → known_at_end s (stmt_trees (map stmt_of (drop i list))) k ≡ total → k ≡ total
all_known s list i k total l h = ap (λ (ss : List TypedStmt). known_at_end s (stmt_trees (map stmt_of ss)) k) (sym (drop_all i list l)) ∙ h

pub all_noted : (s : NullContext) (list : List TypedStmt) (i : ℕ) (k : Option Known) (f total : List Fault) → length list ≤ i
    → f ++ along_faults s (stmt_trees (map stmt_of (drop i list))) k ≡ total → f ≡ total
all_noted s list i k f total l h =
    sym (append-nil f) ∙ ap (λ (ss : List TypedStmt). f ++ along_faults s (stmt_trees (map stmt_of ss)) k) (sym (drop_all i list l)) ∙ h
