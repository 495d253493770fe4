use Rattle.std.proofs.Common.{List, Option, ap, sym, ◌∙◌}
use Rattle.std.specs.Prelude.{option_map, slice_get}
use Rattle.ss_core.specs.Tree as core
use Rattle.ss_typed.specs.View.{typed}
use Rattle.ss_nonnull_rules.specs.Faults.{table_of}
use Rattle.ss_nonnull_rules.specs.Overrides.{body_named}
use Rattle.ss_tables_lookup.specs.Places.{Places}
use Rattle.std.proofs.lemmas.Option.{slice_get-map}
use Rattle.ss_nonnull.specs.Names.{table_names}
use Rattle.ss_nonnull.proofs.overrides.named_at.Goals as goal

pub find_body-requires : goal.find_body-requires
find_body-requires c =
    let cs = (typed c.args.program.now).classes in
    c.names_at.ensures ∙ ap (λ (ns : List Places). slice_get ns c.args.place) c.requires ∙ slice_get-map table_names cs c.args.place
    ∙ ap (option_map table_names) (sym c.class_at.ensures)

pub returns : goal.returns
returns c = c.find_body.ensures ∙ ap (λ (o : Option core.ClassTree). body_named (table_of o) c.args.name.now) c.class_at.ensures
