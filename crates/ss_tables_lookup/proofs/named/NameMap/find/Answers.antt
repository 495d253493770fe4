use Rattle.std.proofs.Common.{◌∙◌}
use Rattle.ss_tables_lookup.proofs.Noted.{found_in_map}
use Rattle.ss_tables_lookup.proofs.named.NameMap.find.Goals as goal

pub returns : goal.returns
returns g c = rw (← c.self.view_is) (c.copied.ensures ∙ c.get.ensures.value ∙ found_in_map c.args.name.now c.self.inside.first.entries)
