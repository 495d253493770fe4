use Rattle.std.proofs.Common.{rules, SFits, to_z-of_z}
use Rattle.std.specs.Int.{w128}
use Rattle.ss_linear_network.proofs.Making.{some_if, number_is}
use Rattle.ss_linear_network.proofs.network.Numbers.number.Goals as goal

pub returns : goal.returns
returns c =
    let first : SFits w128 c.label-first.result = search rules in
    let own : SFits w128 c.label.result = search rules in
    some_if _ c.checked_sub.result _ _ (rw (to_z-of_z first, to_z-of_z own) at c.checked_sub.ensures)
    (number_is c.args.bank.now c.args.self.now c.args.t c.place-at.result _ _ c.place-at.ensures.place c.label-first.ensures c.label.ensures)
