use Rattle.std.proofs.Common.{◌≡◌, None, ◌∙◌, ap, string_bytes}
use Rattle.std.specs.String.{string_eq}
use Rattle.std.proofs.lemmas.List.{map_push}
use Rattle.indexmap.proofs.CallerLemmas.{insert_entry-new}
use Rattle.ss_tables.specs.Named.{named_in}
use Rattle.ss_tables_lookup.specs.Views.{names_in}
use Rattle.ss_tables_lookup.proofs.Noted.{found_in_map}
use Rattle.ss_tables_lookup.proofs.named.NameMap.insert.Goals as goal

pub returns : goal.returns
returns g c =
    let old = c.self.inside.first in
    let none : named_in (names_in old.entries) (string_bytes c.args.name) ≡ None = ap (λ ps. named_in ps (string_bytes c.args.name)) c.self.view_is ∙ c.requires in
    rw (← c.self.view_is)
    (ap names_in (c.in_ok-insert.ensures.entries ∙ insert_entry-new string_eq old c.args.name c.args.value (found_in_map (string_bytes c.args.name) old.entries ∙ none))
    ∙ map_push _ old.entries (c.args.name, c.args.value))
