use Rattle.std.proofs.Common.{ap, rules, SFits, to_z-of_z}
use Rattle.std.specs.Prelude.{◌+ℤ◌}
use Rattle.std.specs.Int.{w128}
use Rattle.ss_linear_network.proofs.Making.{some_if}
use Rattle.ss_linear.proofs.meeting.value.Goals as goal

pub returns : goal.returns
returns c =
    let p : SFits w128 c.in_ok-parts.parts = search rules in
    let k : SFits w128 c.args.sum.now.constant = search rules in
    some_if _ c.checked_add.result _ _ (rw (to_z-of_z p, to_z-of_z k) at c.checked_add.ensures)
    (ap (λ z. z +ℤ c.args.sum.now.constant) (rw c.deref.ensures.value at c.in_ok-parts.ensures))
