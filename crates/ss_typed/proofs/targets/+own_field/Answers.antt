use Rattle.std.proofs.Common.{None, sym, ap, ◌∙◌}
use Rattle.ss_typed.specs.View.{expr}
use Rattle.ss_typed.specs.Shapes.{own_field}
use Rattle.ss_typed.proofs.Grouping.{chain_is, chain_some, path_alone, path_is}
use Rattle.ss_typed.proofs.OwnFields.{link_no_field}
use Rattle.ss_typed.proofs.targets.+own_field.Goals as goal

pub returns-else-is_empty : goal.returns-else-is_empty
returns-else-is_empty t c =
    let a = c.in-Chain in
    sym (ap (λ e. own_field (expr e)) a.is ∙ ap own_field (chain_is a.field-0 a.first a.links) ∙ chain_some own_field (λ q. None) link_no_field a.field-0 (expr a.first.value) a.links.items a.links.len a.links.ok.0 c.if-is_empty.ensures)

pub returns-then-is_empty-2 : goal.returns-then-is_empty-2
returns-then-is_empty-2 t c =
    let a = c.in-Path in
    c.own_field-then-is_empty-2.ensures ∙ ap (λ e. own_field (expr e)) c.deref-then-is_empty-2.ensures ∙ sym (ap (λ e. own_field (expr e)) a.is ∙ ap own_field (path_is a.field-0 a.first a.steps) ∙ ap own_field (path_alone a.field-0 (expr a.first.value) a.steps.items a.steps.len a.steps.ok.0 c.if-is_empty-2.ensures))
