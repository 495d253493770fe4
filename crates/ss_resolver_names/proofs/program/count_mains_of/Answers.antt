use Rattle.std.proofs.Common.{option_map, sym, ap, ◌∙◌}
use Rattle.std.specs.Prelude.{slice_get}
use Rattle.std.specs.List.{count_by}
use Rattle.std.proofs.lemmas.Result.{IfOk-equal}
use Rattle.ss_tables_lookup.specs.Classes.{trees}
use Rattle.ss_tables_lookup.specs.Views.{method_tree}
use Rattle.ss_tables_lookup.specs.Shelved.{shelf_of}
use Rattle.ss_resolver_names_rules.specs.Programs.{is_main}
use Rattle.ss_resolver_names.proofs.Kept.{kept_methods, no_methods}
use Rattle.ss_resolver_names.proofs.program.count_mains_of.Goals as goal

pub returns-in-None : goal.returns-in-None
returns-in-None c =
    let cs = trees c.args.tables.now in
    sym (ap (count_by is_main) (no_methods cs (slice_get cs c.args.class) (sym (ap (option_map (λ s. shelf_of s.now)) c.in-None.is) ∙ c.shelf.ensures)))
