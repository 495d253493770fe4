use Rattle.std.proofs.Common.{◌≡◌, IfOk, map, option_map, ap, subst}
use Rattle.ss_ast.specs.Programs.{param_tree}
use Rattle.ss_tables_lookup.specs.Views.{constructor_tree}
use Rattle.ss_typed.specs.View as view
use Rattle.ss_resolver_rules.specs.Programs.{base_of}
use Rattle.ss_resolver_programs.specs.Parts.{AreParts}
use Rattle.ss_resolver_programs.proofs.Bodied.{constructor_env_is}
use Rattle.ss_resolver_programs.proofs.bodies.constructor_parts.Goals as goal

pub returns-clause-base : goal.returns-clause-base
returns-clause-base c =
    let m = constructor_tree c.args.constructor in
    subst (λ e. IfOk c.based_parts.result (λ b. option_map view.base b.base ≡ option_map (base_of e) m.base))
    (constructor_env_is c.args.context.now _ m _ (ap (map param_tree) c.deref.ensures.value) c.in_ok-names.ensures) c.based_parts.ensures.base

pub returns-clause-parts : goal.returns-clause-parts
returns-clause-parts c =
    let m = constructor_tree c.args.constructor in
    subst (λ e. IfOk c.based_parts.result (λ b. AreParts e m.params m.clauses m.body b.parts))
    (constructor_env_is c.args.context.now _ m _ (ap (map param_tree) c.deref.ensures.value) c.in_ok-names.ensures) c.based_parts.ensures.parts
