use Rattle.std.proofs.Common.{map}
use Rattle.ss_ast.specs.Statements.{block_tree}
use Rattle.ss_ast.specs.Programs.{param_tree, clause_tree}
use Rattle.ss_resolver_programs.proofs.Bodied.{parts_are}
use Rattle.ss_resolver_programs.proofs.bodies.resolve_parts.Goals as goal

pub returns : goal.returns
returns c =
    parts_are c.args.context.now c.args.names.now _ _ _ (map param_tree c.args.params.now) (map clause_tree c.args.clauses.now) (block_tree c.args.body.now) _
    c.in_ok-params.ensures c.in_ok-locals.ensures c.in_ok-entry.ensures.trees c.in_ok-entry.ensures.kept c.in_ok-exit.ensures.trees c.in_ok-exit.ensures.kept
    c.in_ok-modifies.ensures.trees c.in_ok-modifies.ensures.kept c.in_ok-block.ensures.tree
