use Rattle.ss_vcgen_walk.proofs.Holding.{formulas_in_more}
use Rattle.ss_vcgen_walk.proofs.Growing.{no_part}
use Rattle.ss_vcgen_walk.proofs.contracts.formulas.Goals as goal

pub loop-part-preserved : goal.loop-part-preserved
loop-part-preserved c = formulas_in_more c.args.parts.now c.loop-part.part-index no_part c.loop-part.list.items c.push.new.self.items c.loop-part-test.true c.in_ok-push.ensures.items c.loop-part.invariant
