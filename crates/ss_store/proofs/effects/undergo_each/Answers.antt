use Rattle.ss_store.specs.Effects.{effect}
use Rattle.ss_store.proofs.Loops.{upto_more}
use Rattle.ss_store.proofs.effects.undergo_each.Goals as goal

pub loop-i-preserved : goal.loop-i-preserved
loop-i-preserved c = rw c.undergo.ensures (upto_more (effect c.args.e) c.args.objects.now c.loop-i.objects c.loop-i.i c.index-objects-i.result c.loop-i-test.true c.loop-i.invariant)
