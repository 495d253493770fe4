use Rattle.std.proofs.Common.{arith}
use Rattle.ss_journal.proofs.Links.{popped_there, popped_linked}
use Rattle.ss_journal.proofs.places.Places.pop.Goals as goal

pub index_mut-requires : goal.index_mut-requires
index_mut-requires c =
    let j = c.self.inside in
    let l = popped_there j.positions.items j.earlier.items j.last.items c.pop.new.self.items c.in-Some.q c.self.invariant c.in-Some.ensures.items in
    let n = j.last.ok.0 in
    omega (arith, l, n)

pub invariant_of-self-2 : goal.invariant_of-self-2
invariant_of-self-2 c =
    let j = c.self.inside in
    popped_linked j.positions.items j.earlier.items j.last.items c.pop.new.self.items c.pop-2.new.self.items c.in-Some.q c.in-Some-pop.before c.self.invariant c.in-Some.ensures.items c.in-Some-pop.ensures.items
