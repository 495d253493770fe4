use Rattle.std.proofs.Common.{◌≡◌, ◌++◌, [], ◌∷◌, subst, ◌∙◌}
use Rattle.ss_ast.specs.Programs.{clause_tree}
use Rattle.ss_typed.specs.View.{exprs}
use Rattle.ss_resolver_rules.specs.Programs.{exit_in}
use Rattle.ss_resolver_expressions.specs.Environments.{env_of}
use Rattle.ss_resolver_programs.proofs.Clauses.{one_exit}
use Rattle.ss_resolver_programs.proofs.contracts.resolve_exit.Goals as goal

pub loop-clause-preserved : goal.loop-clause-preserved
loop-clause-preserved c =
    let s = c.args.context.now in
    let was = c.loop-clause.invariant in
    let x = c.clause-item.result in
    record {
      trees =
          one_exit (env_of s c.args.names.now) (exprs c.loop-clause.list.items) _ _ c.args.clauses.now c.loop-clause.clause-index x c.loop-clause-test.true c.clause-item.is
          (subst (λ n. exprs c.add_exit.new.list.items ≡ exprs c.loop-clause.list.items ++ exit_in (env_of s n) (clause_tree x ∷ [])) was.kept c.in_ok-add_exit.ensures.trees) was.trees;
      kept = c.in_ok-add_exit.ensures.kept ∙ was.kept;
    }
