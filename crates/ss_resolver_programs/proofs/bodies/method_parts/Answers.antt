use Rattle.std.proofs.Common.{map, ap}
use Rattle.std.proofs.lemmas.Result.{IfOk-weaker}
use Rattle.ss_ast.specs.Programs.{param_tree, clause_tree}
use Rattle.ss_tables_lookup.specs.Views.{method_tree}
use Rattle.ss_resolver_programs.proofs.Bodied.{method_parts_are}
use Rattle.ss_resolver_programs.proofs.bodies.method_parts.Goals as goal

pub returns : goal.returns
returns c =
    IfOk-weaker c.resolve_parts.result _ _
    (λ p h.
    method_parts_are c.args.context.now c.method_context-own.result _ (method_tree c.args.method) _ _ _ p c.first_local-first.result c.is_static.result
    (ap (map param_tree) c.deref.ensures.value) (ap (map param_tree) c.deref-2.ensures.value) (ap (map clause_tree) c.deref-3.ensures.value)
    c.method_context-own.ensures c.is_static.ensures c.first_local-first.ensures c.in_ok-names.ensures h)
    c.resolve_parts.ensures
