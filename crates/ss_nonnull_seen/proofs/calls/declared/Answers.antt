use Rattle.std.proofs.Common.{ap, sym, ◌∙◌}
use Rattle.std.specs.Prelude.{slice_get, option_and_then}
use Rattle.ss_core.specs.View.{classes}
use Rattle.ss_core.proofs.ByNumber.{declared_by_place}
use Rattle.ss_nonnull_seen.proofs.calls.declared.Goals as goal

pub returns-in-Some : goal.returns-in-Some
returns-in-Some c =
    let cs = classes c.args.list.now in
    c.class_at.ensures ∙ sym (declared_by_place cs c.args.class ∙ ap (option_and_then (slice_get cs)) (sym c.declared_place.ensures ∙ c.in-Some.is))

pub returns-in-None : goal.returns-in-None
returns-in-None c =
    let cs = classes c.args.list.now in
    sym (declared_by_place cs c.args.class ∙ ap (option_and_then (slice_get cs)) (sym c.declared_place.ensures ∙ c.in-None.is))
