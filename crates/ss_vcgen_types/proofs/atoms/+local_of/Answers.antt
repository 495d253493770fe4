use Rattle.std.proofs.Common.{None, sym, ap, ◌∙◌}
use Rattle.ss_core.specs.View.{expr}
use Rattle.ss_vcgen_types.specs.Told.{local_of}
use Rattle.ss_vcgen_types.proofs.Grouping.{chain_is, path_is, chain_some, path_some, path_alone}
use Rattle.ss_vcgen_types.proofs.Forms.{link_no_local, step_no_local}
use Rattle.ss_vcgen_types.proofs.atoms.+local_of.Goals as goal

pub returns-else-is_empty : goal.returns-else-is_empty
returns-else-is_empty t c =
    let a = c.in-Chain in
    sym (ap (λ e. local_of (expr e)) a.is ∙ ap local_of (chain_is a.field-0 a.first a.links) ∙ chain_some local_of None link_no_local a.field-0 (expr a.first.value) a.links.items a.links.len a.links.ok.0 c.if-is_empty.ensures)

pub returns-then-is_empty-2 : goal.returns-then-is_empty-2
returns-then-is_empty-2 t c =
    let a = c.in-Path in
    c.local_of-then-is_empty-2.ensures ∙ ap (λ e. local_of (expr e)) c.deref-then-is_empty-2.ensures ∙ sym (ap (λ e. local_of (expr e)) a.is ∙ ap local_of (path_is a.field-0 a.first a.steps) ∙ ap local_of (path_alone a.field-0 (expr a.first.value) a.steps.items a.steps.len a.steps.ok.0 c.if-is_empty-2.ensures))

pub returns-else-is_empty-2 : goal.returns-else-is_empty-2
returns-else-is_empty-2 t c =
    let a = c.in-Path in
    sym (ap (λ e. local_of (expr e)) a.is ∙ ap local_of (path_is a.field-0 a.first a.steps) ∙ path_some local_of None step_no_local a.field-0 (expr a.first.value) a.steps.items a.steps.len a.steps.ok.0 c.if-is_empty-2.ensures)
