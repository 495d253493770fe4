use Rattle.std.proofs.Common.{ap, sym, ◌∙◌}
use Rattle.ss_vcgen_types.specs.Names.{types_of_names, look_up, or_bound}
use Rattle.ss_vcgen_types.proofs.Lookups.{look_up_more, types_of_bound}
use Rattle.ss_vcgen_types.proofs.names.Names.+look_up.Goals as goal

pub returns-in-Bound : goal.returns-in-Bound
returns-in-Bound t c =
    let outer = c.in-Bound.outer in
    let x = c.args.x in
    c.or_bound.ensures
    ∙ ap or_bound c.look_up.ensures
    ∙ sym (look_up_more (types_of_names outer.now) x)
    ∙ ap (λ ts. look_up ts x) (sym (types_of_bound outer))
    ∙ ap (λ names. look_up (types_of_names names) x) (sym c.in-Bound.is)
