use Rattle.std.proofs.Common.{ℕ, List, ap, ◌∙◌}
use Rattle.std.specs.Prelude.{option_and_then, slice_get}
use Rattle.ss_core.specs.Chain.{declared}
use Rattle.ss_typed.specs.View.{typed, body}
use Rattle.ss_nonnull_rules.specs.Faults.{table_of}
use Rattle.ss_nonnull_rules.specs.Overrides.{body_named}
use Rattle.ss_nonnull.proofs.overrides.overridden.Goals as goal

pub returns : goal.returns
returns c =
    let p = typed c.args.program.now in
    let n = (body c.args.checked.now).name in
    c.body_under.ensures
    ∙ ap (option_and_then (slice_get p.bodies))
    (c.named_in-number.ensures
    ∙ ap (λ (m : List ℕ). body_named (table_of (declared p.classes c.above-class.result.0)) m) c.as_str.ensures.value
    ∙ ap (λ (t : ℕ). body_named (table_of (declared p.classes t)) n) c.above-class.ensures)
