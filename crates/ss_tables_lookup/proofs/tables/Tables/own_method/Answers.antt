use Rattle.std.proofs.Common.{◌∙◌, ap, sym, option_map}
use Rattle.ss_tables_lookup.specs.Classes.{trees}
use Rattle.ss_tables_lookup.specs.Shelved.{shelf_of}
use Rattle.ss_tables_lookup.proofs.Shelving.{method_shelved}
use Rattle.ss_tables_lookup.proofs.tables.Tables.own_method.Goals as goal

pub returns-in-Some : goal.returns-in-Some
returns-in-Some c = c.method_on.ensures ∙ method_shelved (trees c.args.self.now) c.args.class c.args.name.now (shelf_of c.in-Some.shelf.now) (sym (ap (option_map (λ s. shelf_of s.now)) c.in-Some.is) ∙ c.shelf.ensures)
