use Rattle.std.proofs.Common.{Option, ap, sym, ◌∙◌}
use Rattle.std.specs.Prelude.{option_and_then, slice_get}
use Rattle.ss_core.specs.Tree as core
use Rattle.ss_typed.specs.View.{typed}
use Rattle.ss_nonnull_rules.specs.Faults.{table_of}
use Rattle.ss_nonnull_rules.specs.Overrides.{body_named}
use Rattle.ss_core.proofs.ByNumber.{declared_by_place}
use Rattle.ss_nonnull.proofs.overrides.named_in.Goals as goal

pub returns-in-Some : goal.returns-in-Some
returns-in-Some c =
    let cs = (typed c.args.program.now).classes in
    c.named_at.ensures
    ∙ ap (λ (o : Option core.ClassTree). body_named (table_of o) c.args.name.now)
    (sym (declared_by_place cs c.args.class.0 ∙ ap (option_and_then (slice_get cs)) (sym c.place.ensures ∙ c.in-Some.is)))

pub returns-in-None : goal.returns-in-None
returns-in-None c =
    let cs = (typed c.args.program.now).classes in
    ap (λ (o : Option core.ClassTree). body_named (table_of o) c.args.name.now)
    (sym (declared_by_place cs c.args.class.0 ∙ ap (option_and_then (slice_get cs)) (sym c.place.ensures ∙ c.in-None.is)))
