use Rattle.std.proofs.Common.{◌∙◌, ◌++◌, ◌∷◌, [], ap, sym, take}
use Rattle.std.specs.Prelude.{slice_index}
use Rattle.std.proofs.lemmas.List.{map_more, take_all}
use Rattle.ss_search_clashes.specs.Placed.{places_of}
use Rattle.ss_search_clashes.proofs.placing.path.Goals as goal

pub loop-number-preserved : goal.loop-number-preserved
loop-number-preserved c =
    c.in_ok-push.ensures.items
    ∙ ap (λ l. l ++ c.place_at.result ∷ []) c.loop-number.invariant
    ∙ ap (λ n. places_of c.args.places.now (take c.loop-number.number-index c.deref-number-items.result.now) ++ n ∷ []) c.place_at.ensures
    ∙ sym (map_more (λ j. slice_index c.args.places.now j) c.deref-number-items.result.now c.loop-number.number-index 0 c.loop-number-test.true)

pub returns : goal.returns
returns c = c.loop-number.invariant ∙ ap (places_of c.args.places.now) (take_all c.loop-number.number-index c.deref-number-items.result.now c.loop-number-test.false ∙ c.deref-number-items.ensures.value ∙ c.in_ok-numbers.ensures)
