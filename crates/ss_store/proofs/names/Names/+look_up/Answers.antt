use Rattle.std.proofs.Common.{ap, sym, ◌∙◌}
use Rattle.ss_store.specs.Names.{values, look_up, or_next}
use Rattle.ss_store.proofs.Lookups.{look_up_more, values_of_bound}
use Rattle.ss_store.proofs.names.Names.+look_up.Goals as goal

pub returns-in-Bound : goal.returns-in-Bound
returns-in-Bound t c =
    let outer = c.in-Bound.outer in
    let v = c.in-Bound.bound in
    let x = c.args.x in
    c.or_next.ensures
    ∙ ap (λ r. or_next r v) c.look_up.ensures
    ∙ sym (look_up_more (values outer.now) v x)
    ∙ ap (λ vs. look_up vs x) (sym (values_of_bound outer v))
    ∙ ap (λ names. look_up (values names) x) (sym c.in-Bound.is)
