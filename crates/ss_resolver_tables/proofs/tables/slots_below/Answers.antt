use Rattle.std.proofs.Common.{◌≡◌, ◌++◌, map, ap, ◌∙◌}
use Rattle.ss_tables_lookup.specs.Classes.{trees}
use Rattle.ss_resolver_rules.specs.Numbers.{added, overridden}
use Rattle.ss_resolver_tables.specs.Slots.{slots_of}
use Rattle.ss_resolver_tables.proofs.tables.slots_below.Goals as goal

pub returns : goal.returns
returns c = λ es is.
    let cs = trees c.args.tables.now in
    let k = c.args.class in
    c.in_ok-add_own.ensures es is.places
    ∙ ap (λ xs. xs ++ added cs k es) (c.in_ok-slots.ensures ∙ ap (λ xs. map (overridden cs k) (slots_of xs)) c.deref.ensures.value ∙ ap (λ xs. map (overridden cs k) xs) is.slots)
