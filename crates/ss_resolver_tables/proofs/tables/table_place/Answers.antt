use Rattle.std.proofs.Common.{◌∙◌, ap, sym}
use Rattle.std.specs.Prelude.{unwrap_or, option_map}
use Rattle.ss_tables_lookup.specs.Classes.{trees}
use Rattle.ss_resolver_tables.proofs.Placed.{placed, no_place}
use Rattle.ss_resolver_tables.proofs.tables.table_place.Goals as goal

pub returns-in-Some : goal.returns-in-Some
returns-in-Some c =
    c.unwrap_or.ensures ∙ ap (λ o. unwrap_or o 0) c.find.ensures
    ∙ placed (trees c.args.tables.now) c.args.list.now c.args.class c.in-Some.table.now c.args.name.now c.requires (sym c.table_at.ensures ∙ ap (option_map (λ t. t.now)) c.in-Some.is)

pub returns-in-None : goal.returns-in-None
returns-in-None c =
    no_place (trees c.args.tables.now) c.args.list.now c.args.class c.args.name.now c.requires (sym c.table_at.ensures ∙ ap (option_map (λ t. t.now)) c.in-None.is)
