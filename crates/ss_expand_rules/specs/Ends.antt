-- Whether the end of a statement can be reached.
use Rattle.std.specs.Prelude.{Bool, true, false, not, ◌&&◌, ◌||◌, Option, Some, None}
use Rattle.ss_typed.specs.Tree.{ExprTree, BoolOf, BlockTree, BlockOf, StmtTree, InBlock, DeclareOf, SimpleOf, IfOf, IfElseOf, WhileOf, ForOf, ReturnOf, AssertOf, AssumeOf, ExposeOf, EmptyOf, StmtTrees, NoMore, Before}
use Rattle.ss_typed.specs.Shapes.{is_true}

-- without a test it is one that always holds
abbrev pub is_always : Option ExprTree → Bool
is_always None = true
is_always (Some e) = is_true e

-- It can't after a `return`, after a block with such a statement, after an `if` with two such sides, and after a loop that has the
-- literal `true` for its test.
abbrev mutual
  pub can_end : StmtTree → Bool
  can_end (InBlock b) = block_can_end b
  can_end (DeclareOf ds) = true
  can_end (SimpleOf x) = true
  can_end (IfOf p e a) = true
  can_end (IfElseOf p e a b) = can_end a || can_end b
  can_end (WhileOf p e is a) = not (is_true e)
  can_end (ForOf p i e x is a) = not (is_always e)
  can_end (ReturnOf p e) = false
  can_end (AssertOf p e) = true
  can_end (AssumeOf p e) = true
  can_end (ExposeOf p e t b) = block_can_end b
  can_end (EmptyOf p) = true

  pub block_can_end : BlockTree → Bool
  block_can_end (BlockOf p ss end) = all_can_end ss

  pub all_can_end : StmtTrees → Bool
  all_can_end NoMore = true
  all_can_end (Before s ss) = can_end s && all_can_end ss
