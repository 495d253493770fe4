use Rattle.std.proofs.Common.{false, sym, ap, ◌∙◌}
use Rattle.ss_core.specs.View.{expr}
use Rattle.ss_store_rules.specs.NonNull.{is_this_object}
use Rattle.ss_vcgen_types.proofs.Grouping.{path_is, path_some}
use Rattle.ss_vcgen_types.proofs.Forms.{step_not_this}
use Rattle.ss_vcgen_known.proofs.never_null.+is_this_object.Goals as goal

pub returns-else-is_empty : goal.returns-else-is_empty
returns-else-is_empty t c =
    let a = c.in-Path in
    sym (ap (λ e. is_this_object (expr e)) a.is ∙ ap is_this_object (path_is a.field-0 a.first a.steps) ∙ path_some is_this_object false step_not_this a.field-0 (expr a.first.value) a.steps.items a.steps.len a.steps.ok.0 c.if-is_empty.ensures)
