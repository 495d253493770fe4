use Rattle.std.proofs.Common.{map, ap, ◌∙◌}
use Rattle.ss_ast.specs.Expressions.{name_tree}
use Rattle.ss_tables_lookup.specs.Views.{method_tree}
use Rattle.ss_resolver_programs.proofs.Bodied.{method_is}
use Rattle.ss_resolver_programs.proofs.bodies.resolve_method.Goals as goal

pub returns : goal.returns
returns c =
    method_is c.args.context.now (method_tree c.args.method) c.in_ok-parts.parts _ _ _ _ _ c.in_ok-parts.ensures
    c.class_number.ensures (c.in_ok-name.ensures.ok ∙ c.as_str.ensures.value) c.method_flags.ensures (c.in_ok-attributes.ensures ∙ ap (map name_tree) c.deref.ensures.value) c.declared_result.ensures
