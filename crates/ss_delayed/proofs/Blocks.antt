-- A block by its parts.
use Rattle.std.proofs.Common.{◌≡◌, map}
use Rattle.ss_typed.specs.declared.stmt.TypedBlock.{TypedBlock, out-TypedBlock}
use Rattle.ss_typed.specs.declared.stmt.TypedStmt.TheFolds.{fold_out-TypedBlock}
use Rattle.ss_typed.specs.Tree.{BlockTree, BlockOf, StmtTree, stmt_trees}
use Rattle.ss_typed.specs.View.{block, block_step, stmt_of, stmt_step}

pub block_shown : (b : TypedBlock) → block b ≡ BlockOf (out-TypedBlock b).place (stmt_trees (map stmt_of (out-TypedBlock b).statements.items)) (out-TypedBlock b).end
block_shown b = fold_out-TypedBlock StmtTree BlockTree stmt_step block_step b
