use Rattle.ss_journal.proofs.Links.{repeats_is}
use Rattle.ss_journal.proofs.places.Places.repeats.Goals as goal

pub returns-in-Some : goal.returns-in-Some
returns-in-Some c = λ before q is.
    let j = c.self.inside in
    repeats_is j.positions.items j.earlier.items j.last.items c.deref.result.now c.args.self.now before c.args.from q c.in-Some.place.now c.self.invariant c.self.view_is is c.deref.ensures.value c.in-Some.ensures.value
