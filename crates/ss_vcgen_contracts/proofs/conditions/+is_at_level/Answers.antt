use Rattle.std.proofs.Common.{false, sym, ap, ◌∙◌}
use Rattle.ss_core.specs.View.{expr}
use Rattle.ss_vcgen_types.proofs.Grouping.{chain_is, path_is, chain_some, path_some, path_alone}
use Rattle.ss_vcgen_contracts.specs.Seen.{is_at_level}
use Rattle.ss_vcgen_contracts.proofs.Seeing.{link_no_level, step_no_level}
use Rattle.ss_vcgen_contracts.proofs.conditions.+is_at_level.Goals as goal

pub returns-else-is_empty : goal.returns-else-is_empty
returns-else-is_empty t c =
    let a = c.in-Chain in
    sym (ap (λ e. is_at_level (expr e)) a.is ∙ ap is_at_level (chain_is a.field-0 a.first a.links) ∙ chain_some is_at_level false link_no_level a.field-0 (expr a.first.value) a.links.items a.links.len a.links.ok.0 c.if-is_empty.ensures)

pub returns-then-is_empty-2 : goal.returns-then-is_empty-2
returns-then-is_empty-2 t c =
    let a = c.in-Path in
    c.is_at_level-then-is_empty-2.ensures ∙ ap (λ e. is_at_level (expr e)) c.deref-then-is_empty-2.ensures ∙ sym (ap (λ e. is_at_level (expr e)) a.is ∙ ap is_at_level (path_is a.field-0 a.first a.steps) ∙ ap is_at_level (path_alone a.field-0 (expr a.first.value) a.steps.items a.steps.len a.steps.ok.0 c.if-is_empty-2.ensures))

pub returns-else-is_empty-2 : goal.returns-else-is_empty-2
returns-else-is_empty-2 t c =
    let a = c.in-Path in
    sym (ap (λ e. is_at_level (expr e)) a.is ∙ ap is_at_level (path_is a.field-0 a.first a.steps) ∙ path_some is_at_level false step_no_level a.field-0 (expr a.first.value) a.steps.items a.steps.len a.steps.ok.0 c.if-is_empty-2.ensures)
