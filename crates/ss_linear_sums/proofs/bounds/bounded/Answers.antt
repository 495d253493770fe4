use Rattle.std.proofs.Common.{rules, SFits, sym, to_z-of_z}
use Rattle.std.specs.Int.{w128}
use Rattle.ss_linear_sums.specs.Linear.{parts_at, sum_at}
use Rattle.ss_linear_sums.proofs.Quotients.{bounded_number}
use Rattle.ss_linear_sums.proofs.bounds.bounded.Goals as goal

pub returns-clause-at : goal.returns-clause-at
returns-clause-at c =
    let constant : SFits w128 c.args.sum.now.constant = search rules in
    let k : SFits w128 c.in-Some.k = search rules in
    let q : SFits w128 c.floor.result = search rules in
    let d = rw (c.in-Some-2.is, to_z-of_z c.ranges.d, c.deref.ensures.value) at c.in_ok-parts.ensures in
    let at = rw (to_z-of_z q, c.floor.ensures, to_z-of_z k, to_z-of_z c.ranges.d, c.deref-2.ensures.value) at c.in_ok-f.ensures.at in
    bounded_number c.at_most.new.bank c.args.d (sum_at c.args.bank.now c.args.sum.now) c.in-Some.k (parts_at c.args.bank.now c.in-Some-2.parts.items) c.in_ok-f.f
    (sym (rw (to_z-of_z constant) at c.in-Some.ensures)) d.1 at.0 at.1
