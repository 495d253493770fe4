use Rattle.std.proofs.Common.{◌≡◌, length, map, option_map, sym, ap, ◌∙◌, arith}
use Rattle.std.proofs.lemmas.List.{length-map}
use Rattle.std.specs.Prelude.{slice_get}
use Rattle.ss_tables_lookup.specs.Classes.{trees}
use Rattle.ss_tables_lookup.specs.Views.{field_tree}
use Rattle.ss_tables_lookup.specs.Shelved.{shelf_of}
use Rattle.ss_resolver_names.proofs.Kept.{kept_fields, no_fields}
use Rattle.ss_resolver_names.proofs.chains.own_fields.Goals as goal

pub returns-in-Some : goal.returns-in-Some
returns-in-Some c =
    let cs = trees c.args.tables.now in
    let kept = c.in-Some.shelf.now in
    let counted : c.len.result ≡ length kept.fields.items = omega (arith, kept.fields.ok.0) in
    counted ∙ sym (length-map kept.fields.items field_tree)
    ∙ ap length (kept_fields cs c.args.class (shelf_of kept) (sym (ap (option_map (λ s. shelf_of s.now)) c.in-Some.is) ∙ c.shelf.ensures))

pub returns-in-None : goal.returns-in-None
returns-in-None c =
    let cs = trees c.args.tables.now in
    sym (ap length (no_fields cs (slice_get cs c.args.class) (sym (ap (option_map (λ s. shelf_of s.now)) c.in-None.is) ∙ c.shelf.ensures)))
