use Rattle.std.proofs.Common.{refl, rules, SFits, to_z-of_z}
use Rattle.std.specs.Int.{w128}
use Rattle.ss_linear_network.specs.Made.{numbers_at}
use Rattle.ss_linear_network.proofs.Making.{some_if}
use Rattle.ss_linear.proofs.Glue.{part_value}
use Rattle.ss_linear.proofs.meeting.with_value.Goals as goal

pub returns : goal.returns
returns c =
    let k : SFits w128 c.args.part.coefficient = search rules in
    let n : SFits w128 c.in_ok-number.number = search rules in
    let p : SFits w128 c.in_ok-value.value = search rules in
    let product = rw (to_z-of_z k, to_z-of_z n) at c.in_ok-value.ensures in
    part_value c.args.bank.now (numbers_at c.args.bank.now c.args.numbers.now) c.args.part c.checked_add.result c.args.sum c.in_ok-number.number c.in_ok-number.ensures
    (some_if _ c.checked_add.result _ _ (rw (to_z-of_z c.ranges.sum, to_z-of_z p, product.1) at c.checked_add.ensures) refl)
