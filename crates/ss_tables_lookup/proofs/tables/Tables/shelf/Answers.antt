use Rattle.std.proofs.Common.{map, ◌∙◌, ap}
use Rattle.std.specs.Prelude.{slice_get}
use Rattle.std.proofs.lemmas.Option.{slice_get-map}
use Rattle.ss_tables_lookup.specs.Classes.{trees}
use Rattle.ss_tables_lookup.specs.Shelves.{shelf}
use Rattle.ss_tables_lookup.specs.Shelved.{shelf_of}
use Rattle.ss_tables_lookup.proofs.tables.Tables.shelf.Goals as goal

pub returns : goal.returns
returns c =
    let cs = trees c.self.inside.classes.now in
    rw (← c.self.view_is)
    (c.shelf_at.ensures
    ∙ ap (λ ss. slice_get ss c.args.class) (ap (map shelf_of) c.deref.ensures.value ∙ c.self.invariant.shelves)
    ∙ slice_get-map (shelf cs) cs c.args.class)
