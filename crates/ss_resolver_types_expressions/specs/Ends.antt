-- Which ends can be reached. What a test says is looked at only where it is the literal `true`.
use Rattle.std.specs.Prelude.{Bool, true, false, not, ◌&&◌, ◌||◌, Option, Some, None}
use Rattle.ss_ast.specs.Expressions as ast
use Rattle.ss_ast.specs.Statements as tree

-- the literal `true`, where parentheses leave no trace
abbrev pub is_always : ast.ExprTree → Bool
is_always (ast.TruthOf at b) = b
is_always (ast.ParenOf at e) = is_always e
is_always e = false

-- a test that isn't written is `true`
abbrev pub is_endless : Option ast.ExprTree → Bool
is_endless None = true
is_endless (Some e) = is_always e

abbrev mutual
  pub reaches_end : tree.StmtTree → Bool
  reaches_end (tree.InBlock b) = block_reaches_end b
  reaches_end (tree.DeclareOf d) = true
  reaches_end (tree.SimpleOf s) = true
  reaches_end (tree.IfOf at e a) = true
  reaches_end (tree.IfElseOf at e a b) = reaches_end a || reaches_end b
  reaches_end (tree.WhileOf at e es a) = not (is_always e)
  reaches_end (tree.ForOf at i e s es a) = not (is_endless e)
  reaches_end (tree.ReturnOf at e) = false
  reaches_end (tree.AssertOf at e) = true
  reaches_end (tree.AssumeOf at e) = true
  reaches_end (tree.ExposeOf at e n b) = block_reaches_end b
  reaches_end (tree.EmptyOf at) = true

  pub block_reaches_end : tree.BlockTree → Bool
  block_reaches_end (tree.BlockOf at ss end) = all_reach_end ss

  -- each of the statements reaches its end
  pub all_reach_end : tree.StmtTrees → Bool
  all_reach_end tree.NoMore = true
  all_reach_end (tree.Before s ss) = reaches_end s && all_reach_end ss
