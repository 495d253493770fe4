use Rattle.std.proofs.Common.{◌∙◌, ap, sym, option_map}
use Rattle.std.specs.Prelude.{unwrap_or}
use Rattle.ss_tables_lookup.specs.Classes.{trees}
use Rattle.ss_tables_lookup.specs.Shelved.{shelf_of}
use Rattle.ss_resolver_tables.proofs.Counted.{method_place_shelved}
use Rattle.ss_resolver_tables.proofs.slots.method_place.Goals as goal

pub returns-in-Some : goal.returns-in-Some
returns-in-Some c =
    c.unwrap_or.ensures ∙ ap (λ o. unwrap_or o 0) c.find.ensures
    ∙ method_place_shelved (trees c.args.tables.now) c.args.class c.args.name.now (shelf_of c.in-Some.shelf.now) (sym (ap (option_map (λ s. shelf_of s.now)) c.in-Some.is) ∙ c.shelf.ensures)
