use Rattle.std.proofs.Common.{◌≡◌, ◌++◌, map, drop}
use Rattle.ss_ast.specs.Expressions.{type_tree}
use Rattle.ss_ast.specs.Statements.{declarator_tree}
use Rattle.ss_resolver_types_expressions.specs.Members.{fields_faults}
use Rattle.ss_resolver_types_heads.specs.Codes.{context_of}
use Rattle.ss_resolver_types.proofs.members.check_fields.Given as goal

abbrev pub invariant-loop-declarator : goal.invariant-loop-declarator
invariant-loop-declarator l = record {
  same : l.locals ≡ l.fn.locals;
  noted : l.found.items ++ fields_faults (context_of l.context l.fn.locals) (type_tree l.ty) (map declarator_tree (drop l.declarator-index l.declarators))
      ≡ l.fn.found.items ++ fields_faults (context_of l.context l.fn.locals) (type_tree l.ty) (map declarator_tree l.declarators);
}
