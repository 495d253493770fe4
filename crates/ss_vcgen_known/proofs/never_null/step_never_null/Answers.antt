use Rattle.std.proofs.Common.{sym, ap, ◌∙◌}
use Rattle.ss_core.specs.declared.expr.Step.{Step}
use Rattle.ss_core.specs.Parts.{step_after}
use Rattle.ss_store_rules.specs.NonNull.{is_never_null}
use Rattle.ss_vcgen_known.specs.Views.{type_context_of, known_of, tested}
use Rattle.ss_vcgen_types.proofs.Grouping.{field_is}
use Rattle.ss_vcgen_known.proofs.never_null.step_never_null.Goals as goal

pub returns-in-Field : goal.returns-in-Field
returns-in-Field c = λ p e h.
    let is = is_never_null (type_context_of c.args.typing) (tested c.args.tests.now (known_of c.args.known.now)) c.args.old in
    c.field_never_null.ensures p e h ∙ sym (ap (λ (s : Step). is (step_after s p e)) c.in-Field.is ∙ ap is (field_is c.in-Field.field p e))
