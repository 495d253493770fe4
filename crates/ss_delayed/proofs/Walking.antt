-- The walk over a constructor's statements gives what the definitions of paths say.
use Rattle.std.proofs.Common.{◌≡◌, ◌++◌, ℕ, List, [], ◌∷◌, Bool, true, false, Option, Some, None, option_map, refl, sym, ap, ◌∙◌, append-nil}
use Rattle.std.specs.Prelude.{option_and_then}
use Rattle.ss_core.specs.declared.names.Place.{Place}
use Rattle.ss_typed.specs.Tree.{ExprTree, DeclaratorTree, SimpleTree, InitTree, DeclareFirst, SimpleFirst, BlockTree, BlockOf, StmtTree, InBlock, DeclareOf, SimpleOf, IfOf, IfElseOf, WhileOf, ForOf, ReturnOf, AssertOf, AssumeOf, ExposeOf, EmptyOf, StmtTrees, NoMore, Before, TypedTree}
use Rattle.ss_paths.specs.Fields.{Numbers}
use Rattle.ss_paths.specs.Paths.{met, all_declared, begun, test_of, behind, after_block, at_end, declared_faults, first_faults, step_faults, in_loop, behind_first, faults_at, faults_in, faults_along}
use Rattle.ss_typed.specs.Shapes.{is_true}
use Rattle.ss_paths.specs.Assigned.{Assigned, assigned_flow}
use Rattle.ss_delayed_rules.specs.Constructors.{unassigned_faults, end_check}
use Rattle.ss_delayed.specs.Walked.{Known, joined, begun_with, left_with, walked, walked_in, walked_along, ended, ended_in, ended_along}

-- ---- what tests, declarations and heads of loops leave

map_same : (k : Known) → option_map (λ (a : Assigned). a) k ≡ k
map_same None = refl
map_same (Some a) = refl

loop_same : (n : Numbers) (e : ExprTree) (s : StmtTree) (step : Option SimpleTree) (k : Known) → in_loop (assigned_flow n) e s step k ≡ k
loop_same n e s step None = refl
loop_same n e s step (Some a) = refl

declared_same : (n : Numbers) (ds : List DeclaratorTree) (a : Assigned) → all_declared (assigned_flow n) ds a ≡ a
declared_same n [] a = refl
declared_same n (d ∷ ds) a = declared_same n ds a

begun_same : (n : Numbers) (first : Option InitTree) (k : Known) → option_map (begun (assigned_flow n) first) k ≡ begun_with n first k
begun_same n None k = map_same k
begun_same n (Some (DeclareFirst ds)) None = refl
begun_same n (Some (DeclareFirst ds)) (Some a) = ap Some (declared_same n ds a)
begun_same n (Some (SimpleFirst s)) k = refl

joined_same : (n : Numbers) (k l : Known) → met (assigned_flow n) k l ≡ joined k l
joined_same n None l = refl
joined_same n (Some a) None = refl
joined_same n (Some a) (Some b) = refl

-- ---- what is known after

none_left : (b : Bool) → None ≡ left_with b None
none_left true = refl
none_left false = refl

dead : (n : Numbers) (ss : StmtTrees) → at_end (assigned_flow n) ss None ≡ None
dead n NoMore = refl
dead n (Before s ss) = refl

mutual
  pub walked_is : (n : Numbers) (s : StmtTree) (k : Known) → option_and_then (behind (assigned_flow n) s) k ≡ walked n s k
  walked_is n (InBlock b) k = walked_in_is n b k
  walked_is n (DeclareOf ds) None = refl
  walked_is n (DeclareOf ds) (Some a) = ap Some (declared_same n ds a)
  walked_is n (SimpleOf s) None = refl
  walked_is n (SimpleOf s) (Some a) = refl
  walked_is n (IfOf p e a) None = ap (λ l. joined l None) (walked_is n a None)
  walked_is n (IfOf p e a) (Some k) = joined_same n (behind (assigned_flow n) a k) (Some k) ∙ ap (λ l. joined l (Some k)) (walked_is n a (Some k))
  walked_is n (IfElseOf p e a b) None = ap (λ l. joined l None) (walked_is n a None) ∙ ap (λ l. joined (walked n a None) l) (walked_is n b None)
  walked_is n (IfElseOf p e a b) (Some k) =
      joined_same n (behind (assigned_flow n) a k) (behind (assigned_flow n) b k)
      ∙ ap (λ l. joined l (behind (assigned_flow n) b k)) (walked_is n a (Some k))
      ∙ ap (λ l. joined (walked n a (Some k)) l) (walked_is n b (Some k))
  walked_is n (WhileOf p e invariants s) None = none_left (is_true e)
  walked_is n (WhileOf p e invariants s) (Some k) = refl
  walked_is n (ForOf p first e step invariants s) None = none_left (is_true (test_of p e)) ∙ ap (left_with (is_true (test_of p e))) (begun_same n first None)
  walked_is n (ForOf p first e step invariants s) (Some k) = ap (left_with (is_true (test_of p e))) (begun_same n first (Some k))
  walked_is n (ReturnOf p e) None = refl
  walked_is n (ReturnOf p e) (Some k) = refl
  walked_is n (AssertOf p e) None = refl
  walked_is n (AssertOf p e) (Some k) = refl
  walked_is n (AssumeOf p e) None = refl
  walked_is n (AssumeOf p e) (Some k) = refl
  walked_is n (ExposeOf p e t b) k = walked_in_is n b k
  walked_is n (EmptyOf p) None = refl
  walked_is n (EmptyOf p) (Some k) = refl

  pub walked_in_is : (n : Numbers) (b : BlockTree) (k : Known) → option_and_then (after_block (assigned_flow n) b) k ≡ walked_in n b k
  walked_in_is n (BlockOf p ss end) None = sym (dead n ss) ∙ walked_along_is n ss None
  walked_in_is n (BlockOf p ss end) (Some k) = walked_along_is n ss (Some k)

  pub walked_along_is : (n : Numbers) (ss : StmtTrees) (k : Known) → at_end (assigned_flow n) ss k ≡ walked_along n ss k
  walked_along_is n NoMore k = refl
  walked_along_is n (Before s ss) None = sym (dead n ss) ∙ walked_along_is n ss None ∙ ap (walked_along n ss) (walked_is n s None)
  walked_along_is n (Before s ss) (Some k) = walked_along_is n ss (behind (assigned_flow n) s k) ∙ ap (walked_along n ss) (walked_is n s (Some k))

-- ---- faults

none_declared : (p : TypedTree) (t : ℕ) (q : Place) (n : Numbers) (ds : List DeclaratorTree) (k : Known) → declared_faults (assigned_flow n) (end_check p t q) ds k ≡ []
none_declared p t q n [] k = refl
none_declared p t q n (d ∷ ds) k = none_declared p t q n ds (option_map (λ (a : Assigned). a) k)

none_first : (p : TypedTree) (t : ℕ) (q : Place) (n : Numbers) (first : Option InitTree) (k : Known) → first_faults (assigned_flow n) (end_check p t q) first k ≡ []
none_first p t q n None k = refl
none_first p t q n (Some (DeclareFirst ds)) k = none_declared p t q n ds k
none_first p t q n (Some (SimpleFirst s)) k = refl

none_step : (p : TypedTree) (t : ℕ) (q : Place) (step : Option SimpleTree) (k : Known) → step_faults (end_check p t q) step k ≡ []
none_step p t q None k = refl
none_step p t q (Some s) k = refl

-- a `for` has the faults of what it repeats
for_is : (p : TypedTree) (t : ℕ) (q : Place) (n : Numbers) (first : Option InitTree) (e : ExprTree) (step : Option SimpleTree) (s : StmtTree) (k : Known)
    → first_faults (assigned_flow n) (end_check p t q) first k
    ++ []
    ++ faults_at (assigned_flow n) (end_check p t q) s (in_loop (assigned_flow n) e s step (behind_first (assigned_flow n) first k))
    ++ step_faults (end_check p t q) step (option_and_then (behind (assigned_flow n) s) (in_loop (assigned_flow n) e s step (behind_first (assigned_flow n) first k)))
    ≡ faults_at (assigned_flow n) (end_check p t q) s (begun_with n first k)
for_is p t q n first e step s k =
    let inside = in_loop (assigned_flow n) e s step (behind_first (assigned_flow n) first k) in
    ap (λ x. x ++ [] ++ faults_at (assigned_flow n) (end_check p t q) s inside ++ step_faults (end_check p t q) step (option_and_then (behind (assigned_flow n) s) inside)) (none_first p t q n first k)
    ∙ ap (λ x. faults_at (assigned_flow n) (end_check p t q) s inside ++ x) (none_step p t q step (option_and_then (behind (assigned_flow n) s) inside))
    ∙ append-nil (faults_at (assigned_flow n) (end_check p t q) s inside)
    ∙ ap (faults_at (assigned_flow n) (end_check p t q) s) (loop_same n e s step (behind_first (assigned_flow n) first k) ∙ begun_same n first k)

mutual
  pub ended_is : (p : TypedTree) (t : ℕ) (q : Place) (n : Numbers) (s : StmtTree) (k : Known) → faults_at (assigned_flow n) (end_check p t q) s k ≡ ended (unassigned_faults p t q) n s k
  ended_is p t q n (InBlock b) k = ended_in_is p t q n b k
  ended_is p t q n (DeclareOf ds) k = none_declared p t q n ds k
  ended_is p t q n (SimpleOf s) k = refl
  ended_is p t q n (IfOf at e a) k = ap (faults_at (assigned_flow n) (end_check p t q) a) (map_same k) ∙ ended_is p t q n a k
  ended_is p t q n (IfElseOf at e a b) k =
      ap (λ l. faults_at (assigned_flow n) (end_check p t q) a l ++ faults_at (assigned_flow n) (end_check p t q) b l) (map_same k)
      ∙ ap (λ x. x ++ faults_at (assigned_flow n) (end_check p t q) b k) (ended_is p t q n a k)
      ∙ ap (λ x. ended (unassigned_faults p t q) n a k ++ x) (ended_is p t q n b k)
  ended_is p t q n (WhileOf at e invariants s) k = ap (faults_at (assigned_flow n) (end_check p t q) s) (loop_same n e s None k) ∙ ended_is p t q n s k
  ended_is p t q n (ForOf at first e step invariants s) k =
      for_is p t q n first (test_of at e) step s k
      ∙ ended_is p t q n s (begun_with n first k)
  ended_is p t q n (ReturnOf at e) k = refl
  ended_is p t q n (AssertOf at e) k = refl
  ended_is p t q n (AssumeOf at e) k = refl
  ended_is p t q n (ExposeOf at e c b) k = ended_in_is p t q n b k
  ended_is p t q n (EmptyOf at) k = refl

  pub ended_in_is : (p : TypedTree) (t : ℕ) (q : Place) (n : Numbers) (b : BlockTree) (k : Known) → faults_in (assigned_flow n) (end_check p t q) b k ≡ ended_in (unassigned_faults p t q) n b k
  ended_in_is p t q n (BlockOf at ss end) k = ended_along_is p t q n ss k

  pub ended_along_is : (p : TypedTree) (t : ℕ) (q : Place) (n : Numbers) (ss : StmtTrees) (k : Known) → faults_along (assigned_flow n) (end_check p t q) ss k ≡ ended_along (unassigned_faults p t q) n ss k
  ended_along_is p t q n NoMore k = refl
  ended_along_is p t q n (Before s ss) k =
      ap (λ x. x ++ faults_along (assigned_flow n) (end_check p t q) ss (option_and_then (behind (assigned_flow n) s) k)) (ended_is p t q n s k)
      ∙ ap (λ l. ended (unassigned_faults p t q) n s k ++ faults_along (assigned_flow n) (end_check p t q) ss l) (walked_is n s k)
      ∙ ap (λ x. ended (unassigned_faults p t q) n s k ++ x) (ended_along_is p t q n ss (walked n s k))
