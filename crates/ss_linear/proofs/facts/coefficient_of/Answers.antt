use Rattle.std.proofs.Common.{◌∙◌, FitsSigned, rules}
use Rattle.std.specs.Prelude.{pos}
use Rattle.std.proofs.lemmas.Int.{to_z-of_z}
use mir.Syntax.{w128}
use mir.Val.{to_z}
use Rattle.ss_terms.specs.Forms.{term_at}
use Rattle.ss_linear_rules.specs.Few.{one_at}
use Rattle.ss_linear.proofs.Glue.{have_part, value_more}
use Rattle.ss_linear.proofs.facts.coefficient_of.Goals as goal

pub with_part-requires-clause-part : goal.with_part-requires-clause-part
with_part-requires-clause-part c = have_part c.args.bank.now c.args.parts.now c.loop-part.part-index (record { term = record { 0 = 0 }; coefficient = pos 0 }) c.requires.parts c.loop-part-test.true

pub loop-part-preserved : goal.loop-part-preserved
loop-part-preserved c =
    let fits : FitsSigned w128 c.in_ok-sum.sum = search rules in
    to_z-of_z w128 c.in_ok-sum.sum fits
    ∙ value_more c.args.bank.now (one_at (term_at c.args.bank.now c.args.t)) c.args.parts.now c.loop-part.part-index (record { term = record { 0 = 0 }; coefficient = pos 0 }) (to_z w128 c.loop-part.sum-bits) c.in_ok-sum.sum c.loop-part-test.true c.loop-part.invariant c.in_ok-sum.ensures
