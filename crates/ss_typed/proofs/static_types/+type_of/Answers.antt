use Rattle.std.proofs.Common.{◌≡◌, ◌-◌, length, Some, None, sym, ap, ◌∙◌}
use Rattle.std.specs.Prelude.{slice_get}
use Rattle.ss_typed.specs.View.{expr}
use Rattle.ss_typed.specs.Types.{type_of}
use Rattle.ss_typed.proofs.Grouping.{chain_is, chain_last_none, chain_last_some}
use Rattle.ss_typed.proofs.static_types.+type_of.Goals as goal

pub returns-in-Some : goal.returns-in-Some
returns-in-Some t c =
    let a = c.in-Chain in
    let last : Some c.in-Some.link.now ≡ slice_get a.links.items (length a.links.items - 1) = c.in-Some.ensures.value ∙ ap (λ ls. slice_get ls (length ls - 1)) c.deref.ensures.value in
    sym (ap (λ e. type_of (expr e)) a.is ∙ ap type_of (chain_is a.field-0 a.first a.links) ∙ chain_last_some type_of (Some c.link_type.result) a.field-0 (expr a.first.value) a.links.items c.in-Some.link.now last (λ before. c.link_type.ensures a.field-0 before))

pub returns-in-None : goal.returns-in-None
returns-in-None t c =
    let a = c.in-Chain in
    let last : None ≡ slice_get a.links.items (length a.links.items - 1) = c.in-None.ensures.value ∙ ap (λ ls. slice_get ls (length ls - 1)) c.deref.ensures.value in
    c.type_of.ensures ∙ ap (λ e. type_of (expr e)) c.deref-in-None.ensures
    ∙ sym (ap (λ e. type_of (expr e)) a.is ∙ ap type_of (chain_is a.field-0 a.first a.links) ∙ ap type_of (chain_last_none a.field-0 (expr a.first.value) a.links.items last))
