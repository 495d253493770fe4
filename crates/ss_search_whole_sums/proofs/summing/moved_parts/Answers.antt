use Rattle.std.proofs.Common.{◌∙◌, ◌++◌, ◌∷◌, [], ap, sym, map, take}
use Rattle.std.proofs.lemmas.List.{map_more, take_all}
use Rattle.ss_search_whole_sums.specs.Summing.{moved_part}
use Rattle.ss_search_whole_sums.proofs.summing.moved_parts.Goals as goal

pub loop-part-preserved : goal.loop-part-preserved
loop-part-preserved c =
    let g = moved_part c.args.places.now c.args.known in
    c.in_ok-push.ensures.items
    ∙ ap (λ ps. ps ++ c.in_ok-moved_part.field-0 ∷ []) c.loop-part.invariant
    ∙ ap (λ p. map g (take c.loop-part.part-index c.args.parts.now) ++ p ∷ []) c.in_ok-moved_part.ensures
    ∙ sym (map_more g c.args.parts.now c.loop-part.part-index _ c.loop-part-test.true)

pub returns : goal.returns
returns c = c.loop-part.invariant ∙ ap (map (moved_part c.args.places.now c.args.known)) (take_all c.loop-part.part-index c.args.parts.now c.loop-part-test.false)
