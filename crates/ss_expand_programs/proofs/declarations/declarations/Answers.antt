use Rattle.std.proofs.Common.{map, reverse, ap, ◌∙◌, Bor}
use Rattle.ss_typed.specs.declared.body.TypedBody.{TypedBody}
use Rattle.ss_typed.specs.View as typed
use Rattle.ss_expand_programs.proofs.Chain.{map_reverse}
use Rattle.ss_expand_programs.proofs.declarations.declarations.Goals as goal

pub returns : goal.returns
returns c =
    ap (λ bs. map (λ (b : Bor TypedBody). typed.body b.now) bs) c.reverse.ensures.items
    ∙ map_reverse (λ (b : Bor TypedBody). typed.body b.now) c.in_ok-list.list.items
    ∙ ap reverse c.in_ok-list.ensures
