use Rattle.ss_journal.proofs.Links.{first_init, first_next}
use Rattle.ss_journal.proofs.places.Places.first.Goals as goal

pub loop-place-init : goal.loop-place-init
loop-place-init c = first_init c.args.self.now c.args.from c.args.q c.last-place.result c.last-place.ensures

pub loop-place-smaller : goal.loop-place-smaller
loop-place-smaller c =
    let j = c.self.inside in
    let i = c.loop-place.invariant in
    (first_next j.positions.items j.earlier.items j.last.items c.args.self.now c.args.from c.args.q c.loop-place.place c.index-place.result.now c.loop-place.found _ c.self.invariant c.self.view_is i.1 c.loop-place-test.true c.index-place.ensures i.2).0

pub loop-place-preserved : goal.loop-place-preserved
loop-place-preserved c =
    let j = c.self.inside in
    let i = c.loop-place.invariant in
    (first_next j.positions.items j.earlier.items j.last.items c.args.self.now c.args.from c.args.q c.loop-place.place c.index-place.result.now c.loop-place.found _ c.self.invariant c.self.view_is i.1 c.loop-place-test.true c.index-place.ensures i.2).1
