use Rattle.std.proofs.Common.{◌∙◌, FitsSigned, rules}
use Rattle.std.specs.Prelude.{pos}
use Rattle.std.proofs.lemmas.Int.{to_z-of_z}
use mir.Syntax.{w128}
use mir.Val.{to_z}
use Rattle.ss_linear_network.specs.Made.{numbers_at}
use Rattle.ss_linear.proofs.Glue.{have_part, value_more}
use Rattle.ss_linear.proofs.meeting.value_of_parts.Goals as goal

pub with_value-requires-clause-part : goal.with_value-requires-clause-part
with_value-requires-clause-part c = have_part c.args.bank.now c.args.parts.now c.loop-part.part-index (record { term = record { 0 = 0 }; coefficient = pos 0 }) c.requires.parts c.loop-part-test.true

pub loop-part-preserved : goal.loop-part-preserved
loop-part-preserved c =
    let fits : FitsSigned w128 c.in_ok-sum.sum = search rules in
    to_z-of_z w128 c.in_ok-sum.sum fits
    ∙ value_more c.args.bank.now (numbers_at c.args.bank.now c.args.numbers.now) c.args.parts.now c.loop-part.part-index (record { term = record { 0 = 0 }; coefficient = pos 0 }) (to_z w128 c.loop-part.sum-bits) c.in_ok-sum.sum c.loop-part-test.true c.loop-part.invariant c.in_ok-sum.ensures
