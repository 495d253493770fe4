use Rattle.std.proofs.Common.{false, sym, ap, ◌∙◌}
use Rattle.ss_core.specs.View.{expr}
use Rattle.ss_store_rules.specs.Paths.{is_literal_true}
use Rattle.ss_vcgen_types.proofs.Grouping.{chain_is, path_is, chain_some, path_some, path_alone}
use Rattle.ss_vcgen_types.proofs.Forms.{link_not_true, step_not_true}
use Rattle.ss_vcgen_types.proofs.atoms.+is_literal_true.Goals as goal

pub returns-else-is_empty : goal.returns-else-is_empty
returns-else-is_empty t c =
    let a = c.in-Chain in
    sym (ap (λ e. is_literal_true (expr e)) a.is ∙ ap is_literal_true (chain_is a.field-0 a.first a.links) ∙ chain_some is_literal_true false link_not_true a.field-0 (expr a.first.value) a.links.items a.links.len a.links.ok.0 c.if-is_empty.ensures)

pub returns-then-is_empty-2 : goal.returns-then-is_empty-2
returns-then-is_empty-2 t c =
    let a = c.in-Path in
    c.is_literal_true-then-is_empty-2.ensures ∙ ap (λ e. is_literal_true (expr e)) c.deref-then-is_empty-2.ensures ∙ sym (ap (λ e. is_literal_true (expr e)) a.is ∙ ap is_literal_true (path_is a.field-0 a.first a.steps) ∙ ap is_literal_true (path_alone a.field-0 (expr a.first.value) a.steps.items a.steps.len a.steps.ok.0 c.if-is_empty-2.ensures))

pub returns-else-is_empty-2 : goal.returns-else-is_empty-2
returns-else-is_empty-2 t c =
    let a = c.in-Path in
    sym (ap (λ e. is_literal_true (expr e)) a.is ∙ ap is_literal_true (path_is a.field-0 a.first a.steps) ∙ path_some is_literal_true false step_not_true a.field-0 (expr a.first.value) a.steps.items a.steps.len a.steps.ok.0 c.if-is_empty-2.ensures)
