use Rattle.std.proofs.Common.{◌∙◌}
use Rattle.ss_tables_lookup.specs.Views.{constructor_tree}
use Rattle.ss_resolver_programs.proofs.Bodied.{constructor_is}
use Rattle.ss_resolver_programs.proofs.bodies.resolve_constructor.Goals as goal

pub returns : goal.returns
returns c =
    let w = c.in_ok-whole in
    constructor_is c.args.context.now (constructor_tree c.args.constructor) w.whole.parts _ _ _ _ _ w.ensures.parts w.ensures.base
    c.class_number.ensures (c.in_ok-name.ensures.ok ∙ c.as_str.ensures.value) c.constructor_flags.ensures c.in_ok-attributes.ensures
