use Rattle.std.proofs.Common.{◌≡◌, ◌∙◌, ◌++◌, ◌∷◌, [], Some, length, ap, refl}
use Rattle.std.specs.Prelude.{slice_get}
use Rattle.std.proofs.lemmas.Result.{IfOk-weaker}
use Rattle.ss_equality_rules.specs.declared.Join.{Join}
use Rattle.ss_equality_rules.proofs.Lists.{there}
use Rattle.ss_search_clashes.specs.Placed.{IsPlaced, ArePlaced}
use Rattle.ss_search_clashes.proofs.Marks.{unmarked}
use Rattle.ss_search_clashes.proofs.Places.{place_of_none, place_of_join}
use Rattle.ss_search_clashes.proofs.placing.place_needed.Goals as goal

pub returns-then-not-is_marked : goal.returns-then-not-is_marked
returns-then-not-is_marked c =
    place_of_none c.args.context.now.bank.now c.numbers_are_apart.ensures c.args.context.now.congruence.now.terms c.requires.forms c.args.context.now.congruence.now.merges c.requires.ends.terms c.args.context.now.joins.now c.requires.ends.log c.requires.caused c.args.context.now.known c.args.marks.now c.args.places.now 0 c.args.lines.now.items c.args.lines.now.items refl c.requires.placed
    (λ marked. unmarked c.args.marks.now (length c.args.places.now) c.is_marked.result c.is_marked.ensures c.if-not-is_marked.true marked)

pub returns : goal.returns
returns c =
    let here = there c.args.context.now.joins.now (length c.args.places.now) c.requires.more in
    IfOk-weaker c.place_join.result
    (λ p. (e : Join) → slice_get c.args.context.now.joins.now (length c.args.places.now) ≡ Some e → IsPlaced c.args.context.now.bank.now c.args.context.now.congruence.now.terms c.args.context.now.congruence.now.merges c.args.context.now.joins.now c.args.places.now c.args.context.now.known e c.args.lines.now.items c.place_join.new.lines.items p)
    (λ p. ArePlaced c.args.context.now.bank.now c.args.context.now.congruence.now.merges c.args.context.now.joins.now c.args.context.now.known c.args.marks.now (c.args.places.now ++ p ∷ []) c.place_join.new.lines.items)
    (λ p placed. place_of_join c.args.context.now.bank.now c.numbers_are_apart.ensures c.args.context.now.congruence.now.terms c.requires.forms c.args.context.now.congruence.now.merges c.requires.ends.terms c.args.context.now.joins.now c.requires.ends.log c.requires.caused c.args.context.now.known c.args.marks.now c.requires.closed c.args.places.now c.args.lines.now.items c.requires.placed here.0 here.1
    (c.is_marked.ensures ∙ ap Some c.if-not-is_marked.false) p c.place_join.new.lines.items
    (placed here.0 here.1))
    c.place_join.ensures
