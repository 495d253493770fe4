use Rattle.std.proofs.Common.{◌∙◌, ◌++◌, ◌∷◌, [], ℕ, List, length, ap, sym, subst, arith}
use Rattle.std.proofs.lemmas.List.{length_push}
use Rattle.ss_search_clashes.specs.Placed.{ArePlaced}
use Rattle.ss_search_clashes.proofs.Places.{no_place}
use Rattle.ss_search_clashes.proofs.placing.place_all.Goals as goal

pub loop-number-init : goal.loop-number-init
loop-number-init c = (
  ap length c.new-places.ensures.items,
  no_place c.args.context.now.bank.now c.args.context.now.congruence.now.merges c.args.context.now.joins.now c.args.context.now.known c.args.marks.now c.args.lines.now.items c.new-places.result.items c.requires.empty c.new-places.ensures.items,
)

pub place_needed-requires-clause-more : goal.place_needed-requires-clause-more
place_needed-requires-clause-more c = omega (arith, ap length c.deref.ensures.value, c.loop-number.invariant.0, c.loop-number-test.true)

pub place_needed-requires-clause-placed : goal.place_needed-requires-clause-placed
place_needed-requires-clause-placed c =
    subst (λ (ps : List ℕ). ArePlaced c.args.context.now.bank.now c.args.context.now.congruence.now.merges c.args.context.now.joins.now c.args.context.now.known c.args.marks.now ps c.loop-number.lines.items) (sym c.deref.ensures.value) c.loop-number.invariant.1

pub loop-number-preserved : goal.loop-number-preserved
loop-number-preserved c = (
  (let e = ap length c.in_ok-push.ensures.items in let n = length_push c.loop-number.places.items c.in_ok-place.place in omega (arith, e, n, c.loop-number.invariant.0)),
  subst (λ (ps : List ℕ). ArePlaced c.args.context.now.bank.now c.args.context.now.congruence.now.merges c.args.context.now.joins.now c.args.context.now.known c.args.marks.now ps c.place_needed.new.lines.items) (ap (λ (ps : List ℕ). ps ++ c.in_ok-place.place ∷ []) c.deref.ensures.value ∙ sym c.in_ok-push.ensures.items) c.in_ok-place.ensures,
)
