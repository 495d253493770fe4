use Rattle.std.proofs.Common.{◌≡◌, ◌++◌, map, drop}
use Rattle.ss_ast.specs.Programs.{modified_tree}
use Rattle.ss_resolver_types_expressions.specs.Members.{terms_faults}
use Rattle.ss_resolver_types_heads.specs.Codes.{context_of}
use Rattle.ss_resolver_types.proofs.clauses.check_terms.Given as goal

abbrev pub invariant-loop-term : goal.invariant-loop-term
invariant-loop-term l = record {
  same : l.locals ≡ l.fn.locals;
  noted : l.found.items ++ terms_faults (context_of l.context l.fn.locals) (map modified_tree (drop l.term-index l.terms))
      ≡ l.fn.found.items ++ terms_faults (context_of l.context l.fn.locals) (map modified_tree l.terms);
}
