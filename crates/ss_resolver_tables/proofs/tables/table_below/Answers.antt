use Rattle.std.proofs.Common.{◌≡◌, map, ap, ◌∙◌}
use Rattle.ss_tables_lookup.specs.Places.{places_of}
use Rattle.ss_resolver_rules.specs.Numbers.{names_of}
use Rattle.ss_resolver_tables.specs.Slots.{slots_of}
use Rattle.ss_resolver_tables.proofs.tables.table_below.Goals as goal

pub returns : goal.returns
returns c = λ es is.
    let slots = c.in_ok-slots.ensures es is in
    record {
      slots = slots;
      places = c.in_ok-places.ensures ∙ ap (λ xs. places_of (names_of (slots_of xs))) c.deref.ensures.value ∙ ap (λ xs. places_of (names_of xs)) slots;
    }
