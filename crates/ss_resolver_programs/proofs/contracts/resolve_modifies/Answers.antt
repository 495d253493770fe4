use Rattle.std.proofs.Common.{◌≡◌, [], ◌∷◌, subst, ◌∙◌}
use Rattle.ss_ast.specs.Programs.{clause_tree}
use Rattle.ss_resolver_rules.specs.Programs.{modifies_in}
use Rattle.ss_resolver_expressions.specs.Environments.{env_of}
use Rattle.ss_resolver_programs.specs.Terms.{terms_of, joined}
use Rattle.ss_resolver_programs.proofs.Clauses.{one_modifies}
use Rattle.ss_resolver_programs.proofs.contracts.resolve_modifies.Goals as goal

pub loop-clause-preserved : goal.loop-clause-preserved
loop-clause-preserved c =
    let s = c.args.context.now in
    let was = c.loop-clause.invariant in
    let x = c.clause-item.result in
    record {
      trees =
          one_modifies (env_of s c.args.names.now) (terms_of c.loop-clause.terms) _ _ c.args.clauses.now c.loop-clause.clause-index x c.loop-clause-test.true c.clause-item.is
          (subst (λ n. terms_of c.in_ok-terms.terms ≡ joined (terms_of c.loop-clause.terms) (modifies_in (env_of s n) (clause_tree x ∷ []))) was.kept c.in_ok-terms.ensures.trees) was.trees;
      kept = c.in_ok-terms.ensures.kept ∙ was.kept;
    }
