use Rattle.std.proofs.Common.{map, ap}
use Rattle.ss_ast.specs.Programs.{param_tree, clause_tree}
use Rattle.ss_tables_lookup.specs.Views.{constructor_tree}
use Rattle.ss_resolver_programs.proofs.Bodied.{based_parts_are}
use Rattle.ss_resolver_programs.proofs.bodies.based_parts.Goals as goal

pub returns-clause-base : goal.returns-clause-base
returns-clause-base c = c.in_ok-base.ensures.tree

pub returns-clause-parts : goal.returns-clause-parts
returns-clause-parts c =
    based_parts_are c.args.context.now c.args.names.now _ (constructor_tree c.args.constructor) _ _ c.in_ok-parts.parts
    (ap (map param_tree) c.deref.ensures.value) (ap (map clause_tree) c.deref-2.ensures.value) c.in_ok-base.ensures.kept c.in_ok-parts.ensures
