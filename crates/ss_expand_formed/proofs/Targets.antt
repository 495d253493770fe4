-- Which locals a resolved statement assigns and declares.
use Rattle.std.proofs.Common.{ℕ, List, Bool, true, Option, Some, None}
use Rattle.std.specs.Prelude.{◌&&◌}
use Rattle.std.specs.List.{list_all}
use Rattle.ss_typed.specs.Tree.{ExprTree, LocalOf, SimpleTree, AssignOf, StepOf, InitTree, DeclareFirst, SimpleFirst, DeclaratorTree, BlockTree, BlockOf, StmtTree, InBlock, DeclareOf, SimpleOf, IfOf, IfElseOf, WhileOf, ForOf, ExposeOf, StmtTrees, NoMore, Before}

-- where it is a local, it passes the test
abbrev pub target_passes : (ℕ → Bool) → ExprTree → Bool
target_passes f (LocalOf p x t) = f x
target_passes f e = true

abbrev pub simple_passes : (ℕ → Bool) → SimpleTree → Bool
simple_passes f (AssignOf target o e) = target_passes f target
simple_passes f (StepOf target o) = target_passes f target
simple_passes f s = true

abbrev pub declared_pass : (ℕ → Bool) → List DeclaratorTree → Bool
declared_pass g ds = list_all (λ (d : DeclaratorTree). g d.local) ds

abbrev pub begin_passes : (ℕ → Bool) → (ℕ → Bool) → Option InitTree → Bool
begin_passes f g None = true
begin_passes f g (Some (DeclareFirst ds)) = declared_pass g ds
begin_passes f g (Some (SimpleFirst s)) = simple_passes f s

abbrev pub advance_passes : (ℕ → Bool) → Option SimpleTree → Bool
advance_passes f None = true
advance_passes f (Some s) = simple_passes f s

-- each local that the statement assigns passes the first test, and each that it declares the second
abbrev mutual
  pub stmt_passes : (ℕ → Bool) → (ℕ → Bool) → StmtTree → Bool
  stmt_passes f g (InBlock b) = block_passes f g b
  stmt_passes f g (DeclareOf ds) = declared_pass g ds
  stmt_passes f g (SimpleOf s) = simple_passes f s
  stmt_passes f g (IfOf p e a) = stmt_passes f g a
  stmt_passes f g (IfElseOf p e a b) = stmt_passes f g a && stmt_passes f g b
  stmt_passes f g (WhileOf p e is a) = stmt_passes f g a
  stmt_passes f g (ForOf p i e s is a) = begin_passes f g i && (advance_passes f s && stmt_passes f g a)
  stmt_passes f g (ExposeOf p e t b) = block_passes f g b
  stmt_passes f g s = true

  pub block_passes : (ℕ → Bool) → (ℕ → Bool) → BlockTree → Bool
  block_passes f g (BlockOf p ss end) = all_pass f g ss

  pub all_pass : (ℕ → Bool) → (ℕ → Bool) → StmtTrees → Bool
  all_pass f g NoMore = true
  all_pass f g (Before s ss) = stmt_passes f g s && all_pass f g ss
