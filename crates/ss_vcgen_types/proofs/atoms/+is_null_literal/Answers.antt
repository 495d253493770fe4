use Rattle.std.proofs.Common.{false, sym, ap, ◌∙◌}
use Rattle.ss_core.specs.View.{expr}
use Rattle.ss_store_rules.specs.NonNull.{is_null_literal}
use Rattle.ss_vcgen_types.proofs.Grouping.{chain_is, path_is, chain_some, path_some, path_alone}
use Rattle.ss_vcgen_types.proofs.Forms.{link_not_null, step_not_null}
use Rattle.ss_vcgen_types.proofs.atoms.+is_null_literal.Goals as goal

pub returns-else-is_empty : goal.returns-else-is_empty
returns-else-is_empty t c =
    let a = c.in-Chain in
    sym (ap (λ e. is_null_literal (expr e)) a.is ∙ ap is_null_literal (chain_is a.field-0 a.first a.links) ∙ chain_some is_null_literal false link_not_null a.field-0 (expr a.first.value) a.links.items a.links.len a.links.ok.0 c.if-is_empty.ensures)

pub returns-then-is_empty-2 : goal.returns-then-is_empty-2
returns-then-is_empty-2 t c =
    let a = c.in-Path in
    c.is_null_literal-then-is_empty-2.ensures ∙ ap (λ e. is_null_literal (expr e)) c.deref-then-is_empty-2.ensures ∙ sym (ap (λ e. is_null_literal (expr e)) a.is ∙ ap is_null_literal (path_is a.field-0 a.first a.steps) ∙ ap is_null_literal (path_alone a.field-0 (expr a.first.value) a.steps.items a.steps.len a.steps.ok.0 c.if-is_empty-2.ensures))

pub returns-else-is_empty-2 : goal.returns-else-is_empty-2
returns-else-is_empty-2 t c =
    let a = c.in-Path in
    sym (ap (λ e. is_null_literal (expr e)) a.is ∙ ap is_null_literal (path_is a.field-0 a.first a.steps) ∙ path_some is_null_literal false step_not_null a.field-0 (expr a.first.value) a.steps.items a.steps.len a.steps.ok.0 c.if-is_empty-2.ensures)
