use Rattle.std.proofs.Common.{◌∙◌, ap}
use Rattle.std.specs.Prelude.{slice_get}
use Rattle.ss_report_values.proofs.index.Index.class_of.Goals as goal

pub place_of-place-requires-clause-places : goal.place_of-place-requires-clause-places
place_of-place-requires-clause-places c = c.requires.index.places

pub returns : goal.returns
returns c = c.class_at_place.ensures ∙ ap (slice_get c.args.reading.now.classes.now) c.place_of-place.ensures
