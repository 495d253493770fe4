-- Blocks.
use Rattle.std.proofs.Common.{◌≡◌, List, map, sym, ap, ◌∙◌}
use Rattle.ss_ast.specs.declared.stmt.Block.{Block}
use Rattle.ss_ast.specs.declared.stmt.Stmt.{Stmt}
use Rattle.ss_ast.specs.declared.stmt.Block.{out-Block}
use Rattle.ss_ast.specs.declared.stmt.Stmt.TheFolds.{fold_out-Block}
use Rattle.ss_ast.specs.Statements as written
use Rattle.ss_typed.specs.Tree.{BlockTree, BlockOf, StmtTree, stmt_trees}
use Rattle.ss_resolver_rules.specs.Statements.{declared_in_block, past, block}
use Rattle.ss_resolver_expressions.specs.LocalContext.{LocalContext, entered, left}
use Rattle.ss_resolver_expressions.specs.Environments.{env_of}
use Rattle.ss_resolver_expressions.specs.declared.context.ResolutionContext.{ResolutionContext}
use Rattle.ss_resolver_statements.specs.Behind.{behind_all, each_stmt}
use Rattle.ss_resolver_statements.proofs.Governed.{block_is}
use Rattle.ss_resolver_statements.proofs.Left.{block_left}

abbrev written_block : Block → List Stmt → written.BlockTree
written_block b ss = written.BlockOf (out-Block b).place (written.stmt_trees (map written.stmt_tree ss)) (out-Block b).end

block_shown : (b : Block) → written.block_tree b ≡ written_block b (out-Block b).statements.items
block_shown b = fold_out-Block written.StmtTree written.BlockTree written.stmt_step written.block_step b

pub block_whole : (s : ResolutionContext) (a a1 : LocalContext) (b : Block) (ss : List Stmt) (rs : List StmtTree) (r : BlockTree) → a1 ≡ entered a → ss ≡ (out-Block b).statements.items
    → rs ≡ each_stmt (env_of s a1) (map written.stmt_tree ss) → r ≡ BlockOf (out-Block b).place (stmt_trees rs) (out-Block b).end → r ≡ block (env_of s a) (written.block_tree b)
block_whole s a a1 b ss rs r h e t m =
    m ∙ block_is s a a1 (out-Block b).place (out-Block b).end (map written.stmt_tree ss) rs h t
    ∙ ap (λ (zs : List Stmt). block (env_of s a) (written_block b zs)) e
    ∙ ap (block (env_of s a)) (sym (block_shown b))

pub block_after : (s : ResolutionContext) (a a1 a2 a3 : LocalContext) (b : Block) (ss : List Stmt) → a1 ≡ entered a → ss ≡ (out-Block b).statements.items
    → env_of s a2 ≡ behind_all (env_of s a1) (map written.stmt_tree ss) → a3 ≡ left a2 → env_of s a3 ≡ past (env_of s a) (declared_in_block (written.block_tree b))
block_after s a a1 a2 a3 b ss h e t l =
    block_left s a a1 a2 a3 (map written.stmt_tree ss) h t l
    ∙ ap (λ (zs : List Stmt). past (env_of s a) (declared_in_block (written_block b zs))) e
    ∙ ap (λ t. past (env_of s a) (declared_in_block t)) (sym (block_shown b))
